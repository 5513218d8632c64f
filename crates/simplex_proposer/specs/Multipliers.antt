-- Private: `src/multipliers.rt`: multipliers within their limit.
-- Multipliers that are all legal.
use Rattle.std.specs.Prelude.{ℕ, ◌≤◌, ◌^◌, List}
use Rattle.lin_bound.specs.Sums.{nat_at}

-- each is at most what a multiplier may be
abbrev pub AreSmall : List ℕ → Type 0
AreSmall lambda = (j : ℕ) → nat_at lambda j ≤ 2 ^ 30
