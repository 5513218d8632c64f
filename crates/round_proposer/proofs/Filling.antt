-- Counts that are written one after another, each within the box.
use Rattle.std.proofs.Common.{◌≡◌, ℕ, ◌<◌, ◌≤◌, List, length}
use Rattle.lin_bound.specs.Sums.{nat_at}
use Rattle.lin_bound.specs.declared.region.Region.{Region}

-- the first n counts are written
pub record IsFilled (box : Region) (counts : List ℕ) (n : ℕ) : Type 0 where
  pub count : length counts ≡ n
  pub low : (i : ℕ) → i < n → nat_at box.low i ≤ nat_at counts i
  pub high : (i : ℕ) → i < n → nat_at counts i ≤ nat_at box.high i
