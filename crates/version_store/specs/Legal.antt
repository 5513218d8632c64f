-- What the tables of a history are, whatever its changes.
use Rattle.std.specs.Prelude.{◌≡◌, ◌≢◌, ℕ, suc, ◌<◌, ◌≤◌, List, [], ◌∷◌, map, length}
use Rattle.std.specs.List.{AllByRecursion}
use Rattle.table_schema.specs.Columns.{IsSchema}
use Rattle.table_schema.specs.Rows.{FitsSchema}
use Rattle.snapshots.specs.Entries.{Entry}
use Rattle.snapshots.specs.States.{State}
use Rattle.snapshots.specs.declared.tables.Table.{Table}
use Rattle.version_store.specs.Faults.{change_faults}
use Rattle.version_store.specs.Changes.{changed}
use Rattle.version_store.specs.Histories.{History, replay, IsHistory}
use Rattle.version_store.specs.declared.changes.Change.{Change}
use Rattle.version_store.specs.declared.changes.Change.TheVariants as changes
use Rattle.version_store.specs.declared.limits.TheConstants.{MAX_TABLES}

-- a new table has a column
abbrev pub HasColumns : Change → Type 0
HasColumns (changes.Create table columns) = 0 < length columns
HasColumns change = Unit {0}

abbrev pub HaveColumns : History → Type 0
HaveColumns history = AllByRecursion (AllByRecursion HasColumns) history

-- ids that ascend from `low` on and are below `next`
abbrev pub AscendsTo : ℕ → List Entry → ℕ → Type 0
AscendsTo low [] next = low ≤ next
AscendsTo low (entry ∷ entries) next =
    (low ≤ entry.id) × AscendsTo (suc entry.id) entries next

-- names of which no two are the same
abbrev pub AreApart : List (List ℕ) → Type 0
AreApart [] = Unit {0}
AreApart (name ∷ names) =
    AllByRecursion (λ (other : List ℕ). name ≢ other) names × AreApart names

-- a table: its columns are those of a table, its ids ascend from 1 on and are below the next one,
-- its rows fit, and none was written after the version
pub record IsLegal (version : ℕ) (table : Table) : Type 0 where
  pub columns : IsSchema table.columns
  pub ids : AscendsTo 1 table.entries table.next
  pub rows : AllByRecursion (λ (entry : Entry). FitsSchema table.columns entry.row) table.entries
  pub born : AllByRecursion (λ (entry : Entry). entry.born ≤ version) table.entries

-- the tables of a version, or those within the commit that makes it
pub record AreLegal (version : ℕ) (tables : List Table) : Type 0 where
  pub each : AllByRecursion (IsLegal version) tables
  pub names : AreApart (map (λ (table : Table). table.name) tables)
  pub few : length tables ≤ MAX_TABLES

-- each change that isn't refused keeps them so
abbrev pub LegalChanges : Type 0
LegalChanges = (version high : ℕ) (state : State) (change : Change)
    → AreLegal version state.tables → HasColumns change → change_faults high state change ≡ []
    → AreLegal version (changed version state change).tables

abbrev pub LegalHistories : Type 0
LegalHistories = (history : History) → IsHistory history → HaveColumns history
    → AreLegal (length history) (replay history).tables
