-- Private: `worked_histories` in `src/laws.rt`.
-- Small histories, worked by hand.
use Rattle.std.specs.Prelude.{◌≡◌, ℕ, List, [], ◌∷◌, ◌++◌, map, None, codes, slice_index_or}
use Rattle.schema_types.specs.declared.Kind.TheVariants as kinds
use Rattle.schema_types.specs.declared.Lit.TheVariants as lits
use Rattle.table_schema.specs.declared.cells.Cell.{Cell}
use Rattle.table_schema.specs.declared.cells.Cell.TheVariants as cells
use Rattle.snapshots.specs.States.{nothing, rows_of}
use Rattle.version_store.specs.Histories.{Commit, History, states_of, replay, IsHistory}
use Rattle.version_store.specs.Histories.{commit_faults, entries_kept, row_count, numbered}
use Rattle.version_store.specs.declared.changes.Change.TheVariants as changes
use Rattle.version_store.specs.declared.faults.CommitKind.TheVariants.{Unkept, Table as TableKind}
use Rattle.version_store.specs.declared.faults.CommitKind.TheVariants.{Row}
use Rattle.version_store.specs.declared.faults.TableFault.TheVariants.{TableExists}
use Rattle.version_store.specs.declared.faults.RowKind.TheVariants.{Arity}

-- CREATE TABLE T (v TEXT); INSERT INTO T VALUES ('a'), ('c');
abbrev pub made : Commit
made = changes.Create (codes "T") (record { name = codes "v"; kind = kinds.Text } ∷ []) ∷ []

abbrev pub filled : Commit
filled = changes.Insert (codes "T")
    ((lits.Text (codes "a") ∷ []) ∷ ((lits.Text (codes "c") ∷ []) ∷ [])) ∷ []

-- UPDATE T SET v = 'z'; DELETE FROM T; VACUUM 4;
abbrev pub written : Commit
written = changes.Update (codes "T") ((codes "v", lits.Text (codes "z")) ∷ []) None ∷ []

abbrev pub emptied : Commit
emptied = changes.Delete (codes "T") None ∷ []

abbrev pub given_up : Commit
given_up = changes.Vacuum 4 ∷ []

abbrev pub story : History
story = made ∷ (filled ∷ (written ∷ (emptied ∷ (given_up ∷ []))))

-- the rows of all tables of a version
abbrev pub shown : ℕ → List (List (ℕ × List Cell))
shown version = map rows_of (slice_index_or (states_of story) version nothing).tables

abbrev pub text_row : ℕ → List ℕ → ℕ × List Cell
text_row id text = (id, cells.Text text ∷ [])

pub record AreWorked : Type 0 where
  pub accepted : IsHistory story
  pub second : shown 2 ≡ (text_row 1 (codes "a") ∷ (text_row 2 (codes "c") ∷ [])) ∷ []
  pub third : shown 3 ≡ (text_row 1 (codes "z") ∷ (text_row 2 (codes "z") ∷ [])) ∷ []
  pub fourth : shown 4 ≡ [] ∷ []
  pub low : (replay story).low ≡ 4
  -- a row that was written anew counts twice, until its versions are given up
  pub entries : entries_kept (states_of (made ∷ (filled ∷ (written ∷ [])))) ≡ 4
  pub kept : entries_kept (states_of story) ≡ 0
  pub rows : row_count (states_of (made ∷ (filled ∷ []))) written ≡ 2
  pub again : commit_faults (states_of (made ∷ [])) made
      ≡ numbered 1 (TableKind (TableExists (codes "T"))) ∷ []
  pub unkept : commit_faults (states_of story) (changes.Vacuum 6 ∷ [])
      ≡ numbered 1 (Unkept 6 4 5) ∷ []
  pub second_change : commit_faults (states_of (made ∷ []))
      (filled ++ changes.Insert (codes "T") ([] ∷ []) ∷ [])
      ≡ numbered 2 (Row (Arity 0 1 1)) ∷ []
