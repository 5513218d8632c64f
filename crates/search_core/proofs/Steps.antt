-- A box of one point that no plain multipliers close is a feasible point.
use Rattle.std.proofs.Common.{ℕ, suc, ◌+◌, ◌<◌, refl, arith}
use Rattle.std.specs.Prelude.{ℤ, pos, ◌+ℤ◌, ◌<ℤ◌, Option, None, Some}
use Rattle.std.proofs.lemmas.Int.{ints, by_lt_z}
use Rattle.std.proofs.Math.IntN.{zero-*ℤ}
use Rattle.lin_bound.specs.Sums.{int_at}
use Rattle.lin_bound.specs.Problem.{ProblemData, row_count, row_at, IsFeasible}
use Rattle.lin_bound.specs.Box.{IsRegion, IsOnePoint}
use Rattle.lin_bound.specs.Bound.{Closes, plain}
use Rattle.lin_bound.specs.declared.region.Region.{Region}
use Rattle.lin_bound.proofs.OnePoint.{bound_of_row, point_feasible}
use Rattle.search_core.specs.Boxes.{HasNoRoom, IsOpenBelow}

-- a box with no room is one point
pub one_point : (p : ProblemData) (box : Region) → IsRegion p box → HasNoRoom box → IsOnePoint p box
one_point p box region none i h = omega (arith, none i (omega (arith, h, region.low_each)), region.ordered i h)

-- a broken row is one whose multipliers close the box
broken_closes : (p : ProblemData) (box : Region) (best : Option ℤ) (j : ℕ) → j < row_count p → int_at p.rhs j <ℤ row_at p j box.low → IsOnePoint p box → Closes p box (plain p (suc j)) best
broken_closes p box None j below broken one = (refl, omega (arith, ints, bound_of_row p box j below one, broken))
broken_closes p box (Some z) j below broken one =
    omega (arith, ints, bound_of_row p box j below one, broken, zero-*ℤ (z +ℤ pos 1))

-- where no row's multipliers close it, the point is feasible
pub open_feasible : (p : ProblemData) (box : Region) (best : Option ℤ) → IsRegion p box → IsOnePoint p box → IsOpenBelow p box best (row_count p + 1) → IsFeasible p box.low
open_feasible p box best region one none =
    point_feasible p box region (λ j h.
    by_lt_z (int_at p.rhs j) (row_at p j box.low)
    (λ lt. absurd (none (suc j) (omega (arith, h)) (broken_closes p box best j h lt one)))
    (λ le. le))
