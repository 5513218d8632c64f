-- Private: the tests in `src/trees.rt`.
-- A problem that was worked by hand, and two searches of it that aren't done.
use Rattle.std.specs.Prelude.{List, [], ◌∷◌, negsuc}
use Rattle.lin_bound.specs.Problem.{ProblemData}
use Rattle.lin_bound.specs.Box.{lower, upper}
use Rattle.lin_bound.specs.declared.path.Branch.{Branch}
use Rattle.lin_bound.specs.declared.mult.Mult.{Mult}
use Rattle.cert_tree.specs.declared.records.Act.TheVariants.{Closed, Split}
use Rattle.cert_tree.specs.declared.records.Record.{Record}

-- the greatest of -3x - 4y with 2x + 3y >= 7, x at most 3 and y at most 2
abbrev pub least_cost : ProblemData
least_cost = record {
  cost = negsuc 2 ∷ negsuc 3 ∷ [];
  rows = (negsuc 1 ∷ negsuc 2 ∷ []) ∷ [];
  rhs = negsuc 6 ∷ [];
  upper = 3 ∷ 2 ∷ [];
}

-- the multipliers of the row and of the cost
abbrev pub strong : Mult
strong = record { d = 2; lambda = 3 ∷ [] }

abbrev pub weak : Mult
weak = record { d = 1; lambda = 1 ∷ [] }

-- x at most 1 or more, and of the first half y at most 1 or more: all three are open
abbrev pub open_records : List Record
open_records = record { path = []; act = Split 0 1 strong }
    ∷ (record { path = lower 0 1 ∷ []; act = Split 1 1 weak } ∷ [])

abbrev pub open_paths : List (List Branch)
open_paths = (upper 0 1 ∷ [])
    ∷ ((lower 0 1 ∷ (lower 1 1 ∷ [])) ∷ ((lower 0 1 ∷ (upper 1 1 ∷ [])) ∷ []))

-- x at most 1, which is closed, or more, which is open
abbrev pub half_closed_records : List Record
half_closed_records = record { path = []; act = Split 0 1 strong }
    ∷ (record { path = lower 0 1 ∷ []; act = Closed strong } ∷ [])

abbrev pub half_closed_paths : List (List Branch)
half_closed_paths = (upper 0 1 ∷ []) ∷ []
