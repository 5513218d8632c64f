-- Private: the tests in `src/tests.rt` and `src/cache/tests.rt`.
-- The tables that are tested.
use Rattle.std.specs.Prelude.{ℕ, ◌≤◌, List, [], ◌∷◌, length, codes}
use Rattle.std.specs.List.{AllByRecursion}
use Rattle.schema_types.specs.declared.Column.{Column}
use Rattle.schema_types.specs.declared.Kind.TheVariants.{Int, Dec}
use Rattle.table_schema.specs.Rows.{FitsSchema}
use Rattle.snapshots.specs.Entries.{Entry}

-- whole numbers, and decimals
abbrev pub two_columns : List Column
two_columns = record { name = codes "v"; kind = Int }
    ∷ (record { name = codes "w"; kind = Dec 1 } ∷ [])

-- few rows of these columns
pub record AreWorked (entries : List Entry) (most : ℕ) : Type 0 where
  pub fit : AllByRecursion (λ (entry : Entry). FitsSchema two_columns entry.row) entries
  pub few : length entries ≤ most
