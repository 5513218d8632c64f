-- Private: `src/plain.rt`: plain multipliers, by the activities of the cost and the rows.
-- The greatest and the least that coefficients·x can be in a box.
use Rattle.std.specs.Prelude.{ℕ, List, ℤ, pos, ◌*ℤ◌}
use Rattle.std.specs.Int.{int_min}
use Rattle.lin_bound.specs.Sums.{sum_below, int_at, nat_at}
use Rattle.lin_bound.specs.Bound.{greatest}
use Rattle.lin_bound.specs.declared.region.Region.{Region}

-- the least w * t for low <= t <= high: it is at one of the ends
abbrev pub least : ℤ → ℕ → ℕ → ℤ
least w low high = int_min (w *ℤ pos low) (w *ℤ pos high)

-- the sums of both over the first n variables
abbrev pub greatest_activity : List ℤ → Region → ℕ → ℤ
greatest_activity coefficients box n =
    sum_below (λ (i : ℕ). greatest (int_at coefficients i) (nat_at box.low i) (nat_at box.high i)) n

abbrev pub least_activity : List ℤ → Region → ℕ → ℤ
least_activity coefficients box n =
    sum_below (λ (i : ℕ). least (int_at coefficients i) (nat_at box.low i) (nat_at box.high i)) n
