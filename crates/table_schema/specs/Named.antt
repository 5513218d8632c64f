-- The schema of the table of a name.
use Rattle.std.specs.Prelude.{ℕ, if◌then◌else◌, List, [], ◌∷◌, Option, Some, None}
use Rattle.std.specs.Str.{bytes_eq}
use Rattle.schema_types.specs.declared.Column.{Column}

abbrev pub schema_of : List ℕ → List (List ℕ × List Column) → Option (List Column)
schema_of name [] = None
schema_of name (table ∷ tables) =
    if bytes_eq table.0 name then Some table.1 else schema_of name tables
