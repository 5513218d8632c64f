-- Private: `Columns` in `src/columns.rt`, and what reads it.
-- The numbers of columns, kept once for all sums.
use Rattle.std.specs.Prelude.{◌≡◌, ◌⊎◌, ℕ, List, [], map, ℤ, Option, None, Some, slice_get}
use Rattle.table_schema.specs.declared.cells.Cell.{Cell}
use Rattle.bound_query.specs.Terms.{number_in}

-- the numbers that the rows have in a column
abbrev pub numbers_in : ℕ → List (ℕ × List Cell) → List ℤ
numbers_in column rows = map (λ (row : ℕ × List Cell). number_in column row.1) rows

-- each list that is kept is empty or the numbers of its column
abbrev pub AreColumnsOf : List (ℕ × List Cell) → List (List ℤ) → Type 0
AreColumnsOf rows columns = (column : ℕ) (numbers : List ℤ) →
    slice_get columns column ≡ Some numbers
    → (numbers ≡ []) ⊎ (numbers ≡ numbers_in column rows)

abbrev pub number_of : Option (List ℤ) → ℕ → Option ℤ
number_of None place = None
number_of (Some numbers) place = slice_get numbers place

-- the number that is kept of the row at a place
abbrev pub kept_number : List (List ℤ) → ℕ → ℕ → Option ℤ
kept_number columns column place = number_of (slice_get columns column) place

-- what is kept of the row at a place is what the row has
abbrev pub AreNumbersOf : List (List ℤ) → ℕ → List Cell → Type 0
AreNumbersOf columns place row = (column : ℕ) (number : ℤ) →
    kept_number columns column place ≡ Some number → number ≡ number_in column row
