-- Private: the points that `split_points` in `src/splitting.rt` puts into groups.
-- Points, the floored means of their columns, and tests of points column by column.
use Rattle.std.specs.Prelude.{ℕ, List, [], ◌∷◌, length, map, ℤ, pos, ◌+ℤ◌, ◌-ℤ◌, Bool}
use Rattle.std.specs.Prelude.{int_lt, int_le, unsigned_abs, slice_index_or}
use Rattle.std.specs.List.{range_with_len, list_all}
use Rattle.std.specs.Ordering.{int_eq}
use Rattle.std.specs.Int.{int_div_euclid}

-- an id, and one coordinate a column
abbrev pub Point : Type 0
Point = ℕ × List ℤ

abbrev pub int_at : List ℤ → ℕ → ℤ
int_at numbers place = slice_index_or numbers place (pos 0)

abbrev pub coordinate : ℕ → Point → ℤ
coordinate column point = int_at point.1 column

abbrev pub column_sum : ℕ → List Point → ℤ
column_sum column [] = pos 0
column_sum column (point ∷ points) = coordinate column point +ℤ column_sum column points

-- the sum of a column divided by the number of points, rounded down
abbrev pub floored_mean : ℕ → List Point → ℤ
floored_mean column points = int_div_euclid (column_sum column points) (pos (length points))

-- the representative
abbrev pub means : ℕ → List Point → List ℤ
means columns points =
    map (λ (column : ℕ). floored_mean column points) (range_with_len 0 columns)

abbrev pub is_above : ℤ → ℕ → Point → Bool
is_above mean column point = int_lt mean (coordinate column point)

abbrev pub is_near : ℤ → ℤ → ℕ → Point → Bool
is_near mean radius column point =
    int_le (pos (unsigned_abs (coordinate column point -ℤ mean))) radius

abbrev pub is_at : ℤ → ℕ → Point → Bool
is_at number column point = int_eq (coordinate column point) number

-- each point is near the representative in a column, one radius a column
abbrev pub is_column_near : List ℤ → List Point → ℕ → Bool
is_column_near radius points column =
    list_all (is_near (floored_mean column points) (int_at radius column) column) points

-- and in each column
abbrev pub are_near : List ℤ → List Point → Bool
are_near radius points = list_all (is_column_near radius points) (range_with_len 0 (length radius))

-- all points agree with the first one in a column
abbrev pub agree : List Point → ℕ → Bool
agree points column =
    list_all (is_at (coordinate column (slice_index_or points 0 (0, []))) column) points

-- and in each column
abbrev pub are_equal : ℕ → List Point → Bool
are_equal columns points = list_all (agree points) (range_with_len 0 columns)
