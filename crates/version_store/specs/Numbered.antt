-- Private: the law `numbered_histories` in `src/laws.rt`.
-- The ids of the rows that a version shows.
use Rattle.std.specs.Prelude.{◌≡◌, ℕ, ◌^◌, ◌<◌, ◌≤◌, List, Some}
use Rattle.std.specs.List.{AllByRecursion}
use Rattle.table_schema.specs.declared.cells.Cell.{Cell}
use Rattle.snapshots.specs.States.{rows_named}
use Rattle.version_store.specs.Answers.{shown}
use Rattle.version_store.specs.Histories.{History, IsHistory}
use Rattle.version_store.specs.Legal.{HaveColumns}

-- each id is from 1 to 10^12
pub record AreNumbered (rows : List (ℕ × List Cell)) : Type 0 where
  pub some : AllByRecursion (λ (row : ℕ × List Cell). 0 < row.0) rows
  pub most : AllByRecursion (λ (row : ℕ × List Cell). row.0 ≤ 10 ^ 12) rows

-- the rows that any name has in any version
abbrev pub NumberedHistories : Type 0
NumberedHistories = (history : History) (version : ℕ) (name : List ℕ) (rows : List (ℕ × List Cell))
    → IsHistory history → HaveColumns history
    → rows_named name (shown history version).tables ≡ Some rows → AreNumbered rows
