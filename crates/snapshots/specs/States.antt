-- What a version of a store shows.
use Rattle.std.specs.Prelude.{ℕ, ◌==◌, if◌then◌else◌, List, [], ◌∷◌, map, Option, None, Some}
use Rattle.std.specs.Option.{option_map, option_and_then}
use Rattle.std.specs.Str.{bytes_eq}
use Rattle.schema_types.specs.declared.Column.{Column}
use Rattle.table_schema.specs.declared.cells.Cell.{Cell}
use Rattle.snapshots.specs.Entries.{entry_rows}
use Rattle.snapshots.specs.declared.tables.Partition.{Partition}
use Rattle.snapshots.specs.declared.tables.Table.{Table}

-- the least version that is kept, and the tables in the order in which they were made
pub record State : Type 0 where
  pub low : ℕ
  pub tables : List Table

abbrev pub nothing : State
nothing = record { low = 0; tables = [] }

-- the table of a name
abbrev pub table_named : List ℕ → List Table → Option Table
table_named name [] = None
table_named name (table ∷ tables) =
    if bytes_eq table.name name then Some table else table_named name tables

-- the tables with this one in place of the one of its name
abbrev pub with_table : Table → List Table → List Table
with_table new [] = []
with_table new (table ∷ tables) =
    if bytes_eq table.name new.name then new ∷ tables else table ∷ with_table new tables

-- the tables with their columns, and a table's rows after their ids, as queries are bound and
-- asked
abbrev pub schemas_of : List Table → List (List ℕ × List Column)
schemas_of tables = map (λ (table : Table). (table.name, table.columns)) tables

abbrev pub schemas : State → List (List ℕ × List Column)
schemas state = schemas_of state.tables

abbrev pub rows_of : Table → List (ℕ × List Cell)
rows_of table = entry_rows table.entries

abbrev pub rows_named : List ℕ → List Table → Option (List (ℕ × List Cell))
rows_named name tables = option_map rows_of (table_named name tables)

-- the row of an id
abbrev pub row_with : ℕ → List (ℕ × List Cell) → Option (List Cell)
row_with id [] = None
row_with id (row ∷ rows) = if row.0 == id then Some row.1 else row_with id rows

abbrev pub row_named : List ℕ → ℕ → List Table → Option (List Cell)
row_named name id tables = option_and_then (row_with id) (rows_named name tables)

-- how the table of a name is cut into groups
abbrev pub partition_named : List ℕ → List Table → Option Partition
partition_named name tables =
    option_and_then (λ (table : Table). table.partition) (table_named name tables)
