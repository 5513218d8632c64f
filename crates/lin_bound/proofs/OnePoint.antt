-- A box of one point is closed by plain multipliers, where its point is no better.
use Rattle.std.proofs.Common.{◌≡◌, ◌⊎◌, ℕ, zero, suc, ◌<◌, refl, ◌∙◌, ap, arith, inl, inr, below_more}
use Rattle.std.specs.Prelude.{ℤ, pos, ◌+ℤ◌, ◌-ℤ◌, ◌*ℤ◌, ◌≤ℤ◌, ◌<ℤ◌, Option, None, Some}
use Rattle.std.proofs.lemmas.Int.{ints, clamps, by_lt_z}
use Rattle.std.proofs.Math.IntN.{zero-*ℤ}
use Rattle.lin_bound.specs.Sums.{int_at, nat_at}
use Rattle.lin_bound.specs.Problem.{ProblemData, variables, row_count, coefficient_of, cost_at, row_at, IsFeasible}
use Rattle.lin_bound.specs.Box.{IsRegion, IsInBox, IsOnePoint}
use Rattle.lin_bound.specs.Bound.{greatest, bound_of, Closes, plain}
use Rattle.lin_bound.specs.Activities.{least}
use Rattle.lin_bound.specs.Laws.{NotAbove, OnePointCloses}
use Rattle.lin_bound.proofs.PlainBounds.{bound_by_cost, bound_by_row}
use Rattle.lin_bound.specs.declared.region.Region.{Region}
use Rattle.lin_bound.proofs.Sums.{sum-ext}

-- at one count the greatest is the product
greatest_same : (w : ℤ) (low high : ℕ) → low ≡ high → greatest w low high ≡ w *ℤ pos low
greatest_same w low high e = omega (arith, ints, clamps, ap (λ (t : ℕ). w *ℤ pos t) e)

least_same : (w : ℤ) (low high : ℕ) → low ≡ high → least w low high ≡ w *ℤ pos low
least_same w low high e = omega (arith, ints, clamps, ap (λ (t : ℕ). w *ℤ pos t) e)

-- the bound under number 0 is the cost of the point
pub bound_of_cost : (p : ProblemData) (box : Region) → IsOnePoint p box → bound_of p box (plain p 0) ≡ cost_at p box.low
bound_of_cost p box one =
    bound_by_cost p box ∙ sum-ext (λ (i : ℕ). greatest (int_at p.cost i) (nat_at box.low i) (nat_at box.high i)) (λ (i : ℕ). int_at p.cost i *ℤ pos (nat_at box.low i)) (variables p)
    (λ i h. greatest_same (int_at p.cost i) (nat_at box.low i) (nat_at box.high i) (one i h))

-- the bound under a row's number is what the point leaves of that row
pub bound_of_row : (p : ProblemData) (box : Region) (j : ℕ) → j < row_count p → IsOnePoint p box → bound_of p box (plain p (suc j)) ≡ int_at p.rhs j -ℤ row_at p j box.low
bound_of_row p box j below one =
    let values = sum-ext (λ (i : ℕ). least (coefficient_of p j i) (nat_at box.low i) (nat_at box.high i)) (λ (i : ℕ). coefficient_of p j i *ℤ pos (nat_at box.low i)) (variables p)
    (λ i h. least_same (coefficient_of p j i) (nat_at box.low i) (nat_at box.high i) (one i h)) in
    bound_by_row p box j below ∙ ap (λ (z : ℤ). int_at p.rhs j -ℤ z) values

-- each number of one list is at most that of the other, or one is above
all_or_one : (f g : ℕ → ℤ) (n : ℕ) → ((j : ℕ) → j < n → f j ≤ℤ g j) ⊎ ((j : ℕ) × (j < n) × (g j <ℤ f j))
all_or_one f g zero = inl (λ j h. absurd (omega arith))
all_or_one f g (suc n) =
    elim (all_or_one f g n) [
      | inl all ↦ by_lt_z (g n) (f n)
          (λ lt. inr (n, omega arith, lt))
          (λ le. inl (λ j h. below_more (λ (k : ℕ). f k ≤ℤ g k) n all le j (omega (arith, h))))
      | inr one ↦ inr (one.0, omega (arith, one.1), one.2)
    ]

-- the one point, where it keeps each row
pub point_feasible : (p : ProblemData) (box : Region) → IsRegion p box → ((j : ℕ) → j < row_count p → row_at p j box.low ≤ℤ int_at p.rhs j) → IsFeasible p box.low
point_feasible p box region keeps =
    record { each = region.low_each; within = λ i h. omega (arith, region.ordered i h, region.within i h); keeps = keeps }

pub point_inside : (p : ProblemData) (box : Region) → IsRegion p box → IsInBox p box box.low
point_inside p box region = record { low = λ i h. omega arith; high = region.ordered }

-- a broken row closes the box for every value
row_closes : (p : ProblemData) (box : Region) (best : Option ℤ) (j : ℕ) → j < row_count p → int_at p.rhs j <ℤ row_at p j box.low → IsOnePoint p box → Closes p box (plain p (suc j)) best
row_closes p box None j below broken one = (refl, omega (arith, ints, bound_of_row p box j below one, broken))
row_closes p box (Some z) j below broken one =
    omega (arith, ints, bound_of_row p box j below one, broken, zero-*ℤ (z +ℤ pos 1))

-- a cost that is not above closes it
cost_closes : (p : ProblemData) (box : Region) (best : Option ℤ) → IsOnePoint p box → NotAbove p box.low best → Closes p box (plain p 0) best
cost_closes p box None one below = absurd below
cost_closes p box (Some z) one below = omega (arith, ints, bound_of_cost p box one, below)

pub one_point_closes : OnePointCloses
one_point_closes p box best region one none =
    elim (all_or_one (λ (j : ℕ). row_at p j box.low) (int_at p.rhs) (row_count p)) [
      | inl keeps ↦ (0, omega arith, cost_closes p box best one (none box.low (point_feasible p box region keeps) (point_inside p box region)))
      | inr broken ↦ (suc (broken.0), omega (arith, broken.1), row_closes p box best (broken.0) (broken.1) (broken.2) one)
    ]
