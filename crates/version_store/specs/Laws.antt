-- What histories come to.
use Rattle.std.specs.Prelude.{◌≡◌, ℕ, ◌≤◌, List, [], ◌∷◌, ◌++◌, length, Some}
use Rattle.std.specs.List.{AllByRecursion}
use Rattle.schema_types.specs.declared.Column.{Column}
use Rattle.table_schema.specs.Columns.{IsSchema}
use Rattle.table_schema.specs.Named.{schema_of}
use Rattle.table_schema.specs.Rows.{FitsSchema}
use Rattle.table_schema.specs.declared.cells.Cell.{Cell}
use Rattle.package_query.specs.Package.{AscendsFrom}
use Rattle.snapshots.specs.States.{schemas_of, rows_named}
use Rattle.snapshots.specs.declared.tables.Table.{Table}
use Rattle.version_store.specs.Histories.{Commit, History, states_of, after, replay}
use Rattle.version_store.specs.declared.limits.TheConstants.{MAX_ENTRIES}

-- one more commit makes one more version
pub record OneMore (history : History) (commit : Commit) : Type 0 where
  pub states : states_of (history ++ commit ∷ [])
      ≡ states_of history ++ after (states_of history) commit ∷ []
  pub last : replay (history ++ commit ∷ []) ≡ after (states_of history) commit

abbrev pub LongerHistories : Type 0
LongerHistories = (history : History) (commit : Commit) → OneMore history commit

-- the rows of a table with these columns
pub record AreRows (columns : List Column) (rows : List (ℕ × List Cell)) : Type 0 where
  pub schema : IsSchema columns
  pub ids : AscendsFrom 0 rows
  pub fit : AllByRecursion (λ (row : ℕ × List Cell). FitsSchema columns row.1) rows
  pub few : length rows ≤ MAX_ENTRIES

-- whatever name has columns and rows, these can be asked
abbrev pub HaveRows : List Table → Type 0
HaveRows tables = (name : List ℕ) (columns : List Column) (rows : List (ℕ × List Cell))
    → schema_of name (schemas_of tables) ≡ Some columns
    → rows_named name tables ≡ Some rows → AreRows columns rows
