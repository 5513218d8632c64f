-- Lemmas on points that can be split.
use Rattle.std.proofs.Common.{◌≡◌, ℕ, ◌<◌, ◌≤◌, ◌⊎◌, inl, inr, ◌^◌, ◌+◌, List, length, get_or, [], All, ℤ, pos, unsigned_abs, ap, ◌∙◌, sym, arith}
use Rattle.std.proofs.lemmas.Bool.{cases_lt}
use Rattle.std.proofs.lemmas.List.{get_or_past}
use Rattle.std.proofs.lemmas.Int.{ints}
use Rattle.std.proofs.lemmas.List.Elements.{All-from_get_or}
use borrow.Author.Count.{below_more}
use Rattle.quadtree.specs.Points.{Point, int_at}
use Rattle.quadtree.specs.Places.{IsFit, point_at}

-- numbers that are small at each place are so past the end
pub all-small : (numbers : List ℤ) (n : ℕ) → length numbers ≤ n → ((k : ℕ) → k < n → unsigned_abs (int_at numbers k) ≤ 10 ^ 12) → (column : ℕ) → unsigned_abs (int_at numbers column) ≤ 10 ^ 12
all-small numbers n whole small column = step (cases_lt column n)
  where
    step : (column < n) ⊎ (n ≤ column) → unsigned_abs (int_at numbers column) ≤ 10 ^ 12
    step (inl inside) = small column inside
    step (inr past) =
        let none : int_at numbers column ≡ pos 0 = get_or_past numbers column (pos 0) (omega arith) in
        rw none (omega arith)

-- points that can be split at each place can be split
pub all-fit : (columns : ℕ) (points : List Point) (n : ℕ) → length points ≤ n → ((k : ℕ) → k < n → IsFit columns (point_at points k)) → All (IsFit columns) points
all-fit columns points n whole fit = All-from_get_or (IsFit columns) points (0, []) (λ k inside. fit k (omega arith))

pub one-more : (columns : ℕ) (points : List Point) (n : ℕ) → ((k : ℕ) → k < n → IsFit columns (point_at points k)) → IsFit columns (point_at points n) → (k : ℕ) → k < n + 1 → IsFit columns (point_at points k)
one-more columns points n before here = below_more (λ (k : ℕ). IsFit columns (point_at points k)) n before here
