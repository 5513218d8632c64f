-- What a change does to a state, and how many rows it changes, where it isn't refused.
use Rattle.std.specs.Prelude.{ℕ, suc, ◌+◌, Bool, true, not, if◌then◌else◌, Result, Ok, Err, List}
use Rattle.std.specs.Prelude.{[], ◌∷◌, ◌++◌, map, filter, length, Option, None, Some, slice_set}
use Rattle.pq_base.specs.declared.scaled.Scaled.{Scaled}
use Rattle.schema_types.specs.declared.Column.{Column}
use Rattle.schema_types.specs.declared.Lit.{Lit}
use Rattle.table_schema.specs.Cells.{cell_gives}
use Rattle.table_schema.specs.Columns.{place_of}
use Rattle.table_schema.specs.Rows.{row_gives}
use Rattle.table_schema.specs.declared.cells.Cell.{Cell}
use Rattle.table_schema.specs.declared.cells.CellFault.{CellFault}
use Rattle.table_schema.specs.declared.rows.RowFault.{RowFault}
use Rattle.paql_ast.specs.declared.conditions.Pred.{Pred}
use Rattle.paql_bind.specs.Names.{scope, number_or_zero}
use Rattle.paql_bind.specs.Conditions.{bound_pred}
use Rattle.bound_query.specs.Rows.{true_on}
use Rattle.version_store.specs.Faults.{column_named}
use Rattle.snapshots.specs.Entries.{Entry}
use Rattle.snapshots.specs.States.{State, table_named, with_table}
use Rattle.snapshots.specs.declared.tables.Table.{Table}
use Rattle.version_store.specs.declared.changes.Change.{Change}
use Rattle.version_store.specs.declared.changes.Change.TheVariants as changes

-- ---- entries

abbrev pub cells_or_none : Result (List Cell) RowFault → List Cell
cells_or_none (Ok cells) = cells
cells_or_none (Err fault) = []

-- the entries of new rows, with ids from `id` on
abbrev pub new_entries : List Column → ℕ → ℕ → List (List Lit) → List Entry
new_entries columns version id [] = []
new_entries columns version id (lits ∷ rows) =
    record { id = id; row = cells_or_none (row_gives columns lits); born = version }
    ∷ new_entries columns version (suc id) rows

-- the condition holds of an entry's row; without one it is met by each
abbrev pub is_met : Table → Option Pred → Entry → Bool
is_met table None entry = true
is_met table (Some pred) entry =
    true_on (bound_pred (scope table.columns table.name) pred) entry.row

-- a row with a new value in one column
abbrev pub put_cell : ℕ → Result Cell CellFault → List Cell → List Cell
put_cell place (Ok cell) row = slice_set row place cell
put_cell place (Err fault) row = row

abbrev pub put_in : Option Column → ℕ → Lit → List Cell → List Cell
put_in None place lit row = row
put_in (Some column) place lit row = put_cell place (cell_gives column.kind lit) row

abbrev pub put : List Column → List ℕ × Lit → List Cell → List Cell
put columns set row = put_in (column_named set.0 columns)
    (number_or_zero (place_of set.0 columns)) set.1 row

abbrev pub put_all : List Column → List (List ℕ × Lit) → List Cell → List Cell
put_all columns [] row = row
put_all columns (set ∷ sets) row = put_all columns sets (put columns set row)

-- an entry that is met is written anew, also with the values that it had
abbrev pub updated : Table → ℕ → List (List ℕ × Lit) → Option Pred → Entry → Entry
updated table version sets written entry = if is_met table written entry
    then record { id = entry.id; row = put_all table.columns sets entry.row; born = version }
    else entry

-- ---- tables

abbrev pub with_entries : Table → List Entry → Table
with_entries table entries = record table { entries = entries }

abbrev pub inserted : Table → ℕ → List (List Lit) → Table
inserted table version rows = record table {
  next = table.next + length rows;
  entries = table.entries ++ new_entries table.columns version table.next rows;
}

abbrev pub place_or_zero : List Column → List ℕ → ℕ
place_or_zero columns name = number_or_zero (place_of name columns)

abbrev pub cut : Table → List (List ℕ) → ℕ → Scaled → Table
cut table names size radius = record table {
  partition = Some (record {
    columns = map (place_or_zero table.columns) names;
    size = size;
    radius = radius;
  });
}

-- ---- states

abbrev pub on_table : State → Option Table → (Table → Table) → State
on_table state None does = state
on_table state (Some table) does =
    record { low = state.low; tables = with_table (does table) state.tables }

abbrev pub on_named : State → List ℕ → (Table → Table) → State
on_named state name does = on_table state (table_named name state.tables) does

abbrev pub new_table : List ℕ → List Column → Table
new_table name columns =
    record { name = name; columns = columns; next = 1; entries = []; partition = None }

-- the state after a change of the commit that makes this version
abbrev pub changed : ℕ → State → Change → State
changed version state (changes.Create table columns) =
    record { low = state.low; tables = state.tables ++ new_table table columns ∷ [] }
changed version state (changes.Insert table rows) =
    on_named state table (λ (found : Table). inserted found version rows)
changed version state (changes.Update table sets written) = on_named state table
    (λ (found : Table). with_entries found (map (updated found version sets written) found.entries))
changed version state (changes.Delete table written) = on_named state table (λ (found : Table).
    with_entries found (filter (λ (entry : Entry). not (is_met found written entry)) found.entries))
changed version state (changes.Partition table columns size radius) =
    on_named state table (λ (found : Table). cut found columns size radius)
changed version state (changes.Vacuum low) = record { low = low; tables = state.tables }

-- ---- how many rows

abbrev pub count_met : Option Pred → Option Table → ℕ
count_met written None = 0
count_met written (Some table) = length (filter (is_met table written) table.entries)

-- how many rows a change inserts, updates or deletes
abbrev pub rows_changed : State → Change → ℕ
rows_changed state (changes.Create table columns) = 0
rows_changed state (changes.Insert table rows) = length rows
rows_changed state (changes.Update table sets written) =
    count_met written (table_named table state.tables)
rows_changed state (changes.Delete table written) =
    count_met written (table_named table state.tables)
rows_changed state (changes.Partition table columns size radius) = 0
rows_changed state (changes.Vacuum version) = 0

abbrev pub rows_inserted : Change → ℕ
rows_inserted (changes.Insert table rows) = length rows
rows_inserted change = 0
