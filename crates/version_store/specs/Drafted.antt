-- Private: `Draft` in `src/draft.rt`.
-- Where a table of a draft is, and what performing a change makes of the draft.
use Rattle.std.specs.Prelude.{◌≡◌, ℕ, ◌-◌, ◌^◌, ◌<◌, min, List, [], ◌∷◌, ◌++◌, length, Option, Some}
use Rattle.std.specs.Prelude.{Result, Ok, Err, slice_index_or, slice_set}
use Rattle.std.specs.List.{position_from}
use Rattle.std.specs.Str.{bytes_eq}
use Rattle.snapshots.specs.States.{State, table_named, with_table}
use Rattle.snapshots.specs.declared.tables.Table.{Table}
use Rattle.version_store.specs.Faults.{change_faults}
use Rattle.version_store.specs.Changes.{changed, rows_changed}
use Rattle.version_store.specs.Performing.{IsDue}
use Rattle.version_store.specs.Answers.{Refuses}
use Rattle.version_store.specs.Histories.{after_changes, all_faults, all_rows}
use Rattle.version_store.specs.declared.changes.Change.{Change}
use Rattle.version_store.specs.declared.faults.CommitFault.{CommitFault}
use Rattle.version_store.specs.declared.faults.CommitKind.{CommitKind}

-- the place of the first table of a name
abbrev pub place_named : List ℕ → List Table → Option ℕ
place_named name tables = position_from (λ (table : Table). bytes_eq table.name name) 0 tables

-- the table of the name is at this place, where another of the name can be put
pub record IsPlaceOf (name : List ℕ) (tables : List Table) (place : ℕ) : Type 0 where
  pub within : place < length tables
  pub named : (d : Table) → table_named name tables ≡ Some (slice_index_or tables place d)
  pub same : (d : Table) → (slice_index_or tables place d).name ≡ name
  pub put : (new : Table) → new.name ≡ name
      → slice_set tables place new ≡ with_table new tables

-- a change without a fault is performed, and the number of its rows is answered
pub record IsPerformed (high version : ℕ) (old new : State) (change : Change) (count : ℕ)
    : Type 0 where
  pub faultless : change_faults high old change ≡ []
  pub state : new ≡ changed version old change
  pub rows : count ≡ rows_changed old change

-- or its first fault is answered, or out of memory
abbrev pub Performs : ℕ → ℕ → State → State → Change → Result ℕ CommitKind → Type 0
Performs high version old new change (Ok rows) = IsPerformed high version old new change rows
Performs high version old new change (Err kind) = IsDue (change_faults high old change) kind

-- the changes of a commit without a fault, one after another, and the rows of them all
pub record AreAllPerformed (high version : ℕ) (old new : State) (changes : List Change)
    (count : ℕ) : Type 0 where
  pub faultless : all_faults 1 high version old changes ≡ []
  pub state : new ≡ after_changes version old changes
  pub rows : count ≡ min (all_rows version old changes) (2 ^ 64 - 1)

abbrev pub PerformsAll : ℕ → ℕ → State → State → List Change → Result ℕ CommitFault → Type 0
PerformsAll high version old new changes (Ok rows) =
    AreAllPerformed high version old new changes rows
PerformsAll high version old new changes (Err fault) =
    Refuses (all_faults 1 high version old changes) fault

-- another table in the place of one, and a table after the others
pub record IsPut (old new : State) (place : ℕ) (table : Table) : Type 0 where
  pub tables : new.tables ≡ slice_set old.tables place table
  pub low : new.low ≡ old.low

pub record IsPushed (old new : State) (table : Table) : Type 0 where
  pub tables : new.tables ≡ old.tables ++ table ∷ []
  pub low : new.low ≡ old.low
