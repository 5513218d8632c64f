-- Boxes of points, and the branches that cut them.
use Rattle.std.specs.Prelude.{◌≡◌, ℕ, ◌+◌, ◌<◌, ◌≤◌, true, false, Option, None, Some, List, [], ◌∷◌}
use Rattle.std.specs.Prelude.{length}
use Rattle.std.specs.Prelude.{replicate, slice_set, if◌then◌else◌}
use Rattle.lin_bound.specs.Sums.{nat_at}
use Rattle.lin_bound.specs.Problem.{ProblemData, variables}
use Rattle.lin_bound.specs.declared.region.Region.{Region}
use Rattle.lin_bound.specs.declared.path.Branch.{Branch}

-- the points within the uppers
abbrev pub whole_box : ProblemData → Region
whole_box p = record { low = replicate (variables p) 0; high = p.upper }

-- the branch to the lower half of a split, and the one to its upper half
abbrev pub lower : ℕ → ℕ → Branch
lower var at = record { var = var; at = at; high = false }

abbrev pub upper : ℕ → ℕ → Branch
upper var at = record { var = var; at = at; high = true }

-- the branch divides the box: its variable has room on both sides of `at`
pub record Splits (branch : Branch) (box : Region) : Type 0 where
  pub var : branch.var < length box.low
  pub low : nat_at box.low branch.var ≤ branch.at
  pub high : branch.at < nat_at box.high branch.var

-- the half `x_var <= at`, or with `high` the half `x_var >= at + 1`
abbrev pub half : Branch → Region → Region
half branch box = if branch.high
    then record { low = slice_set box.low branch.var (branch.at + 1); high = box.high }
    else record { low = box.low; high = slice_set box.high branch.var branch.at }

-- the box after each branch in turn
abbrev pub cut : Region → List Branch → Region
cut box [] = box
cut box (branch ∷ branches) = cut (half branch box) branches

-- each branch divides the box that those before it leave
abbrev pub AllSplit : Region → List Branch → Type 0
AllSplit box [] = Unit {0}
AllSplit box (branch ∷ branches) = Splits branch box × AllSplit (half branch box) branches

-- the box of a path, and the paths that have one
abbrev pub box_at : ProblemData → List Branch → Region
box_at p path = cut (whole_box p) path

abbrev pub IsPath : ProblemData → List Branch → Type 0
IsPath p path = AllSplit (whole_box p) path

-- a box that fits the problem, with at least one point
pub record IsRegion (p : ProblemData) (box : Region) : Type 0 where
  pub low_each : length box.low ≡ variables p
  pub high_each : length box.high ≡ variables p
  pub ordered : (i : ℕ) → i < variables p → nat_at box.low i ≤ nat_at box.high i
  pub within : (i : ℕ) → i < variables p → nat_at box.high i ≤ nat_at p.upper i

-- the box of a path that has one, and none if a branch doesn't divide the box that those before
-- it leave
abbrev pub IsTriedBox : ProblemData → List Branch → Option Region → Type 0
IsTriedBox p path None = ¬ IsPath p path
IsTriedBox p path (Some box) = IsPath p path × (box ≡ box_at p path) × IsRegion p box

-- a point that lies in the box
pub record IsInBox (p : ProblemData) (box : Region) (x : List ℕ) : Type 0 where
  pub low : (i : ℕ) → i < variables p → nat_at box.low i ≤ nat_at x i
  pub high : (i : ℕ) → i < variables p → nat_at x i ≤ nat_at box.high i

-- a box of one point
abbrev pub IsOnePoint : ProblemData → Region → Type 0
IsOnePoint p box = (i : ℕ) → i < variables p → nat_at box.low i ≡ nat_at box.high i
