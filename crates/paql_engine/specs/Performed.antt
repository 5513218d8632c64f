-- Which statements are performed so far, by their trees: all but queries by SKETCHREFINE. A CREATE
-- TABLE without a column, which no text has, is not performed.
use Rattle.std.specs.Prelude.{Bool, true, false, [], ◌∷◌, Option, Some, None, if◌then◌else◌}
use Rattle.paql_ast.specs.declared.queries.Method.{Method}
use Rattle.paql_ast.specs.declared.queries.Method.TheVariants.{Direct, SketchRefine}
use Rattle.paql_ast.specs.declared.queries.Query.{Query}
use Rattle.paql_ast.specs.declared.statements.Statement.{Statement}
use Rattle.paql_ast.specs.declared.statements.Statement.TheVariants as statements
use Rattle.version_store.specs.declared.changes.Change.{Change}
use Rattle.version_store.specs.declared.changes.Change.TheVariants as changes

-- the change that a statement is
abbrev pub change_of : Statement → Option Change
change_of (statements.Create table []) = None
change_of (statements.Create table (column ∷ columns)) =
    Some (changes.Create table (column ∷ columns))
change_of (statements.Insert table rows) = Some (changes.Insert table rows)
change_of (statements.Update table sets filter) = Some (changes.Update table sets filter)
change_of (statements.Delete table filter) = Some (changes.Delete table filter)
change_of (statements.Partition table columns size radius) =
    Some (changes.Partition table columns size radius)
change_of (statements.Vacuum version) = Some (changes.Vacuum version)
change_of t = None

-- the method is exact
abbrev pub is_exact : Option Method → Bool
is_exact None = true
is_exact (Some Direct) = true
is_exact (Some SketchRefine) = false

-- the query that a statement is
abbrev pub query_of : Statement → Option Query
query_of (statements.Query query) = if is_exact query.method then Some query else None
query_of t = None
