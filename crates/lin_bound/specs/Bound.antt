-- The dual bound of a box under multipliers, and when it closes the box.
use Rattle.std.specs.Prelude.{◌≡◌, ℕ, zero, suc, ◌^◌, ◌<◌, ◌≤◌, length, replicate, slice_set, ℤ}
use Rattle.std.specs.Prelude.{pos, ◌+ℤ◌, ◌-ℤ◌, ◌*ℤ◌, Option, None, Some}
use Rattle.std.specs.Int.{int_max}
use lib.Signed.{◌<ℤ◌}
use Rattle.lin_bound.specs.Sums.{sum_below, int_at, nat_at}
use Rattle.lin_bound.specs.Problem.{ProblemData, variables, row_count, coefficient_of}
use Rattle.lin_bound.specs.declared.region.Region.{Region}
use Rattle.lin_bound.specs.declared.mult.Mult.{Mult}

-- one multiplier a row and one of the cost, none too large
pub record IsMult (p : ProblemData) (mult : Mult) : Type 0 where
  pub each : length mult.lambda ≡ row_count p
  pub cost : mult.d ≤ 2 ^ 30
  pub small : (j : ℕ) → j < row_count p → nat_at mult.lambda j ≤ 2 ^ 30

-- lambda_j * a_ji, what row j takes from one unit of variable i
abbrev pub share_of : ProblemData → Mult → ℕ → ℕ → ℤ
share_of p mult i j = pos (nat_at mult.lambda j) *ℤ coefficient_of p j i

-- d * cost_i - lambda·a_i, what one unit of variable i adds
abbrev pub weight : ProblemData → Mult → ℕ → ℤ
weight p mult i = (pos mult.d *ℤ int_at p.cost i) -ℤ sum_below (share_of p mult i) (row_count p)

-- the greatest w * t for low <= t <= high: it is at one of the ends
abbrev pub greatest : ℤ → ℕ → ℕ → ℤ
greatest w low high = int_max (w *ℤ pos low) (w *ℤ pos high)

-- the greatest that variable i adds in the box
abbrev pub part_of : ProblemData → Region → Mult → ℕ → ℤ
part_of p box mult i = greatest (weight p mult i) (nat_at box.low i) (nat_at box.high i)

-- lambda·rhs
abbrev pub side_of : ProblemData → Mult → ℕ → ℤ
side_of p mult j = pos (nat_at mult.lambda j) *ℤ int_at p.rhs j

abbrev pub sides : ProblemData → Mult → ℤ
sides p mult = sum_below (side_of p mult) (row_count p)

-- the dual bound: lambda·rhs and, for each variable, the greatest that its weight adds in the box
abbrev pub bound_of : ProblemData → Region → Mult → ℤ
bound_of p box mult = sides p mult +ℤ sum_below (part_of p box mult) (variables p)

-- the multipliers close the box: for a value, no feasible point of it is greater; for no value, it
-- holds none
abbrev pub Closes : ProblemData → Region → Mult → Option ℤ → Type 0
Closes p box mult None = (mult.d ≡ 0) × (bound_of p box mult <ℤ pos 0)
Closes p box mult (Some z) = bound_of p box mult <ℤ (pos mult.d *ℤ (z +ℤ pos 1))

-- the plain multipliers: number 0 takes the cost alone, number j the j-th row alone
abbrev pub plain : ProblemData → ℕ → Mult
plain p zero = record { d = 1; lambda = replicate (row_count p) 0 }
plain p (suc j) = record { d = 0; lambda = slice_set (replicate (row_count p) 0) j 1 }

-- the least number whose plain multipliers close the box
pub record IsLeastClosing (p : ProblemData) (box : Region) (best : Option ℤ)
    (number : ℕ) : Type 0 where
  pub within : number ≤ row_count p
  pub closes : Closes p box (plain p number) best
  pub least : (n : ℕ) → n < number → ¬ Closes p box (plain p n) best

-- that number, and none exactly if no plain multipliers close the box
abbrev pub IsPlainClosing : ProblemData → Region → Option ℤ → Option ℕ → Type 0
IsPlainClosing p box best None = (n : ℕ) → n ≤ row_count p → ¬ Closes p box (plain p n) best
IsPlainClosing p box best (Some number) = IsLeastClosing p box best number
