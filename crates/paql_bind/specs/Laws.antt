-- Private: the law in `src/laws.rt`.
-- A bound query can be asked of each row that its table can have.
use Rattle.std.specs.Prelude.{◌≡◌, List, []}
use Rattle.schema_types.specs.declared.Column.{Column}
use Rattle.table_schema.specs.Rows.{FitsSchema}
use Rattle.table_schema.specs.declared.cells.Cell.{Cell}
use Rattle.paql_ast.specs.declared.queries.Query.{Query}
use Rattle.bound_query.specs.Asks.{IsAskedOf}
use Rattle.bound_query.specs.declared.queries.BoundQuery.{BoundQuery}
use Rattle.paql_bind.specs.Queries.{parts_of, bound_over, faults_over}

abbrev pub RowsCanBeAsked : Type 0
RowsCanBeAsked = (columns : List Column) (query : Query) (bound : BoundQuery) (row : List Cell)
    → faults_over columns query ≡ [] → parts_of bound ≡ bound_over columns query
    → FitsSchema columns row → IsAskedOf bound row
