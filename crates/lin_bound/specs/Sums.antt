-- Sums over the places 0, 1, .. below a number.
use Rattle.std.specs.Prelude.{ℕ, zero, suc, ◌+◌, List, ℤ, pos, ◌+ℤ◌, slice_index_or}

-- f 0 + f 1 + .. + f (n - 1)
abbrev pub sum_below : (ℕ → ℤ) → ℕ → ℤ
sum_below f zero = pos 0
sum_below f (suc n) = sum_below f n +ℤ f n

-- the same of sizes
abbrev pub count_below : (ℕ → ℕ) → ℕ → ℕ
count_below f zero = 0
count_below f (suc n) = count_below f n + f n

-- the number at a place, and 0 past the end
abbrev pub int_at : List ℤ → ℕ → ℤ
int_at xs i = slice_index_or xs i (pos 0)

abbrev pub nat_at : List ℕ → ℕ → ℕ
nat_at xs i = slice_index_or xs i 0
