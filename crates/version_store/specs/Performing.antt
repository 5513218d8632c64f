-- Private: the changes of a commit, in `src/creating.rt`, `src/inserting.rt` and so on.
-- What a change of a commit is answered, and what it makes of a table.
use Rattle.std.specs.Prelude.{◌≡◌, ◌⊎◌, ℕ, Bool, not, if◌then◌else◌, IsTrue, List, [], ◌++◌, map}
use Rattle.std.specs.Prelude.{filter, slice_get, Option, Some, Result, Ok, Err}
use Rattle.std.specs.List.{AllByRecursion}
use Rattle.schema_types.specs.declared.Column.{Column}
use Rattle.schema_types.specs.declared.Lit.{Lit}
use Rattle.table_schema.specs.Rows.{FitsSchema}
use Rattle.table_schema.specs.declared.cells.Cell.{Cell}
use Rattle.paql_ast.specs.declared.conditions.Pred.{Pred}
use Rattle.bound_query.specs.Fits.{fits, is_bound}
use Rattle.bound_query.specs.Rows.{true_on}
use Rattle.bound_query.specs.declared.conditions.RowPred.{RowPred}
use Rattle.snapshots.specs.Entries.{Entry}
use Rattle.snapshots.specs.declared.tables.Table.{Table}
use Rattle.version_store.specs.Answers.{IsMemoryKind}
use Rattle.version_store.specs.Changes.{is_met, put_all, updated, with_entries}
use Rattle.version_store.specs.Faults.{column_named, no_column, twice, value_faults, text_faults}
use Rattle.version_store.specs.declared.faults.CommitKind.{CommitKind}

-- the one fault, or memory is out
abbrev pub Says : CommitKind → CommitKind → Type 0
Says due kind = (kind ≡ due) ⊎ IsMemoryKind kind

-- the first of the faults, or memory is out
abbrev pub IsDue : List CommitKind → CommitKind → Type 0
IsDue faults kind = (slice_get faults 0 ≡ Some kind) ⊎ IsMemoryKind kind

-- no error if there is no fault
abbrev pub Judges : {A : Type 0} → List CommitKind → Result A CommitKind → Type 0
Judges faults (Ok value) = faults ≡ []
Judges faults (Err kind) = IsDue faults kind

-- the rows of a table fit its columns
abbrev pub RowsFit : Table → Type 0
RowsFit table =
    AllByRecursion (λ (entry : Entry). FitsSchema table.columns entry.row) table.entries

-- a condition can be asked of each row that fits the columns
pub record CanBeAsked (columns : List Column) (pred : RowPred) : Type 0 where
  pub fits : (row : List Cell) → FitsSchema columns row → IsTrue (fits row pred)
  pub bound : IsTrue (is_bound pred)

-- the entries whose rows meet a condition, and those that are left
abbrev pub meets : RowPred → Entry → Bool
meets pred entry = true_on pred entry.row

abbrev pub met : RowPred → List Entry → List Entry
met pred entries = filter (meets pred) entries

abbrev pub left : RowPred → List Entry → List Entry
left pred entries = filter (λ (entry : Entry). not (meets pred entry)) entries

-- an entry with its new values, if its row meets the condition
abbrev pub anew : List Column → ℕ → List (List ℕ × Lit) → Bool → Entry → Entry
anew columns version sets met entry = if met
    then record { id = entry.id; row = put_all columns sets entry.row; born = version } else entry

abbrev pub all_anew : List Column → ℕ → List (List ℕ × Lit) → RowPred → List Entry
    → List Entry
all_anew columns version sets pred entries =
    map (λ (entry : Entry). anew columns version sets (meets pred entry) entry) entries

-- a table after a DELETE and after an UPDATE
abbrev pub deleted : Table → Option Pred → Table
deleted table written = with_entries table
    (filter (λ (entry : Entry). not (is_met table written entry)) table.entries)

abbrev pub rewritten : Table → ℕ → List (List ℕ × Lit) → Option Pred → Table
rewritten table version sets written =
    with_entries table (map (updated table version sets written) table.entries)

-- the columns that SETs name, and the faults of one SET after others
abbrev pub set_names : List (List ℕ × Lit) → List (List ℕ)
set_names sets = map (λ (set : List ℕ × Lit). set.0) sets

abbrev pub own_set_faults : List Column → List (List ℕ) → List ℕ × Lit → List CommitKind
own_set_faults columns before set = no_column columns set.0
    ++ (twice before set.0 ++ value_faults set.0 (column_named set.0 columns) set.1)

-- the faults of one column of a PARTITION after others
abbrev pub own_group_faults : List Column → List (List ℕ) → List ℕ → List CommitKind
own_group_faults columns before name = no_column columns name
    ++ (text_faults name (column_named name columns) ++ twice before name)
