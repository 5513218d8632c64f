-- Private: `round_points`: what its points are.
-- What the points of a box are that are offered.
use Rattle.std.specs.Prelude.{◌≡◌, ℕ, List, length}
use Rattle.lin_bound.specs.Problem.{ProblemData, variables}
use Rattle.lin_bound.specs.Box.{IsInBox}
use Rattle.lin_bound.specs.declared.region.Region.{Region}

-- one count a variable, each within the box
abbrev pub IsPointOf : ProblemData → Region → List ℕ → Type 0
IsPointOf p box x = (length x ≡ variables p) × IsInBox p box x
