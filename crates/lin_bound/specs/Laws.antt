-- Private: the laws in `src/laws.rt`, on which certificates and the search rest.
-- The laws that a search rests on.
use Rattle.std.specs.Prelude.{◌≡◌, ℕ, ◌≤◌, List, ℤ, pos, ◌*ℤ◌, ◌≤ℤ◌, Option, None, Some, ◌⊎◌, not}
use Rattle.lin_bound.specs.Problem.{ProblemData, row_count, cost_at, IsFeasible}
use Rattle.lin_bound.specs.Box.{half, Splits, IsRegion, IsInBox, IsOnePoint}
use Rattle.lin_bound.specs.Bound.{greatest, bound_of, Closes, plain}
use Rattle.lin_bound.specs.declared.region.Region.{Region}
use Rattle.lin_bound.specs.declared.mult.Mult.{Mult}
use Rattle.lin_bound.specs.declared.path.Branch.{Branch}

-- `greatest` is what its name says: some t between the ends gives it, and none gives more.
pub record IsGreatest (w : ℤ) (low high : ℕ) (most : ℤ) : Type 0 where
  pub reached : (t : ℕ) × (low ≤ t) × (t ≤ high) × (most ≡ w *ℤ pos t)
  pub none_more : (t : ℕ) → low ≤ t → t ≤ high → (w *ℤ pos t) ≤ℤ most

abbrev pub EndsAreGreatest : Type 0
EndsAreGreatest = (w : ℤ) (low high : ℕ) → low ≤ high → IsGreatest w low high (greatest w low high)

-- Weak duality: d times the cost of a feasible point of the box is at most the bound.
abbrev pub WeakDuality : Type 0
WeakDuality = (p : ProblemData) (box : Region) (mult : Mult) (x : List ℕ)
    → IsFeasible p x → IsInBox p box x → (pos mult.d *ℤ cost_at p x) ≤ℤ bound_of p box mult

-- a feasible point with this cost or less, or none at all
abbrev pub NotAbove : ProblemData → List ℕ → Option ℤ → Type 0
NotAbove p x None = ⊥
NotAbove p x (Some z) = cost_at p x ≤ℤ z

-- A closed box holds no feasible point above the value, and where there is no value it holds none.
abbrev pub ClosedHoldsNone : Type 0
ClosedHoldsNone = (p : ProblemData) (box : Region) (mult : Mult) (best : Option ℤ) (x : List ℕ)
    → Closes p box mult best → IsFeasible p x → IsInBox p box x → NotAbove p x best

-- A box of one point that holds no feasible point above the value is closed by some plain
-- multipliers.
abbrev pub OnePointCloses : Type 0
OnePointCloses = (p : ProblemData) (box : Region) (best : Option ℤ)
    → IsRegion p box → IsOnePoint p box
    → ((x : List ℕ) → IsFeasible p x → IsInBox p box x → NotAbove p x best)
    → (number : ℕ) × (number ≤ row_count p) × Closes p box (plain p number) best

-- the branch to the other half
abbrev pub other_half : Branch → Branch
other_half branch = record { var = branch.var; at = branch.at; high = not branch.high }

-- The half of a branch is a box within the box, and what it leaves out lies in the other half.
pub record IsHalved (p : ProblemData) (branch : Branch) (box : Region) : Type 0 where
  pub region : IsRegion p (half branch box)
  pub inside : (x : List ℕ) → IsInBox p (half branch box) x → IsInBox p box x
  pub covers : (x : List ℕ) → IsInBox p box x
      → IsInBox p (half branch box) x ⊎ IsInBox p (half (other_half branch) box) x

abbrev pub HalvesCover : Type 0
HalvesCover = (p : ProblemData) (box : Region) (branch : Branch)
    → IsRegion p box → Splits branch box → IsHalved p branch box
