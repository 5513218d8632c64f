-- The two halves of a box are boxes, and hold its points and no others.
use Rattle.std.proofs.Common.{◌≡◌, ◌≢◌, ◌⊎◌, ℕ, ◌+◌, ◌<◌, ◌≤◌, Bool, true, false, List, length, ◌∙◌, ap, arith, inl, inr, length-set, get_or-set_same, get_or-set_other}
use Rattle.std.specs.Prelude.{slice_set}
use Rattle.std.proofs.lemmas.Bool.{cases_eq, cases_lt}
use Rattle.lin_bound.specs.Sums.{nat_at}
use Rattle.lin_bound.specs.Problem.{ProblemData}
use Rattle.lin_bound.specs.Box.{Splits, IsRegion, IsInBox}
use Rattle.lin_bound.specs.Laws.{IsHalved, HalvesCover}
use Rattle.lin_bound.specs.declared.region.Region.{Region}

-- a number of a list after a write: the new one, or what it was
pub after_set : (xs : List ℕ) (j y i : ℕ) → j < length xs → ((i ≡ j) × (nat_at (slice_set xs j y) i ≡ y)) ⊎ ((i ≢ j) × (nat_at (slice_set xs j y) i ≡ nat_at xs i))
after_set xs j y i h =
    elim (cases_eq i j) [
      | inl e ↦ inl (e, ap (nat_at (slice_set xs j y)) e ∙ get_or-set_same xs j y 0 h)
      | inr ne ↦ inr (ne, get_or-set_other xs j i y 0 ne)
    ]

-- what holds at each number after a write, if it holds at the new one and at those beside it
at_each : (P : ℕ → ℕ → Type 0) (xs : List ℕ) (j y i : ℕ) → j < length xs → (i ≡ j → P i y) → (i ≢ j → P i (nat_at xs i)) → P i (nat_at (slice_set xs j y) i)
at_each P xs j y i h here there =
    elim (after_set xs j y i h) [
      | inl same ↦ rw same.1 (here same.0)
      | inr other ↦ rw other.1 (there other.0)
    ]

-- the half `x_var >= at + 1`
abbrev upper : Region → ℕ → ℕ → Region
upper box var at = record { low = slice_set box.low var (at + 1); high = box.high }

-- the half `x_var <= at`
abbrev lower : Region → ℕ → ℕ → Region
lower box var at = record { low = box.low; high = slice_set box.high var at }

upper_region : (p : ProblemData) (box : Region) (var at : ℕ) → IsRegion p box → var < length box.low → at < nat_at box.high var → IsRegion p (upper box var at)
upper_region p box var at region inside high =
    record {
      low_each = length-set box.low var (at + 1) ∙ region.low_each;
      high_each = region.high_each;
      ordered = λ i h. at_each (λ (k v : ℕ). v ≤ nat_at box.high k) box.low var (at + 1) i inside
          (λ e. omega (arith, ap (nat_at box.high) e)) (λ ne. region.ordered i h);
      within = region.within;
    }

lower_region : (p : ProblemData) (box : Region) (var at : ℕ) → IsRegion p box → var < length box.low → nat_at box.low var ≤ at → at < nat_at box.high var → IsRegion p (lower box var at)
lower_region p box var at region inside low high =
    let held : var < length box.high = omega (arith, region.low_each, region.high_each) in
    record {
      low_each = region.low_each;
      high_each = length-set box.high var at ∙ region.high_each;
      ordered = λ i h. at_each (λ (k v : ℕ). nat_at box.low k ≤ v) box.high var at i held
          (λ e. omega (arith, ap (nat_at box.low) e)) (λ ne. region.ordered i h);
      within = λ i h. at_each (λ (k v : ℕ). v ≤ nat_at p.upper k) box.high var at i held
          (λ e. omega (arith, ap (nat_at box.high) e, region.within i h)) (λ ne. region.within i h);
    }

-- a point with more than `at` there lies in the upper half
into_upper : (p : ProblemData) (box : Region) (var at : ℕ) (x : List ℕ) → var < length box.low → IsInBox p box x → at < nat_at x var → IsInBox p (upper box var at) x
into_upper p box var at x inside point more =
    record {
      low = λ i h. at_each (λ (k v : ℕ). v ≤ nat_at x k) box.low var (at + 1) i inside
          (λ e. omega (arith, ap (nat_at x) e)) (λ ne. point.low i h);
      high = point.high;
    }

-- and one with no more in the lower half
into_lower : (p : ProblemData) (box : Region) (var at : ℕ) (x : List ℕ) → var < length box.high → IsInBox p box x → nat_at x var ≤ at → IsInBox p (lower box var at) x
into_lower p box var at x inside point less =
    record {
      low = point.low;
      high = λ i h. at_each (λ (k v : ℕ). nat_at x k ≤ v) box.high var at i inside
          (λ e. omega (arith, ap (nat_at x) e)) (λ ne. point.high i h);
    }

-- a point of a half lies in the box
from_upper : (p : ProblemData) (box : Region) (var at : ℕ) (x : List ℕ) → var < length box.low → nat_at box.low var ≤ at → IsInBox p (upper box var at) x → IsInBox p box x
from_upper p box var at x inside low point =
    record {
      low = λ i h. elim (after_set box.low var (at + 1) i inside) [
        | inl same ↦ omega (arith, point.low i h, same.1, ap (nat_at box.low) same.0)
        | inr other ↦ omega (arith, point.low i h, other.1)
      ];
      high = point.high;
    }

from_lower : (p : ProblemData) (box : Region) (var at : ℕ) (x : List ℕ) → var < length box.high → at < nat_at box.high var → IsInBox p (lower box var at) x → IsInBox p box x
from_lower p box var at x inside high point =
    record {
      low = point.low;
      high = λ i h. elim (after_set box.high var at i inside) [
        | inl same ↦ omega (arith, point.high i h, same.1, ap (nat_at box.high) same.0)
        | inr other ↦ omega (arith, point.high i h, other.1)
      ];
    }

-- both cases of a branch
halved : (p : ProblemData) (box : Region) (var at : ℕ) (high : Bool) → IsRegion p box → Splits (record { var = var; at = at; high = high }) box → IsHalved p (record { var = var; at = at; high = high }) box
halved p box var at true region splits =
    let held : var < length box.high = omega (arith, region.low_each, region.high_each, splits.var) in
    record {
      region = upper_region p box var at region splits.var splits.high;
      inside = λ x point. from_upper p box var at x splits.var splits.low point;
      covers = λ x point. elim (cases_lt at (nat_at x var)) [
        | inl more ↦ inl (into_upper p box var at x splits.var point more)
        | inr less ↦ inr (into_lower p box var at x held point less)
      ];
    }
halved p box var at false region splits =
    let held : var < length box.high = omega (arith, region.low_each, region.high_each, splits.var) in
    record {
      region = lower_region p box var at region splits.var splits.low splits.high;
      inside = λ x point. from_lower p box var at x held splits.high point;
      covers = λ x point. elim (cases_lt at (nat_at x var)) [
        | inl more ↦ inr (into_upper p box var at x splits.var point more)
        | inr less ↦ inl (into_lower p box var at x held point less)
      ];
    }

pub halves_cover : HalvesCover
halves_cover p box branch region splits =
    halved p box branch.var branch.at branch.high region splits
