-- Private: the recording of a node in `src/state.rt`.
-- How the lists of a search change when a path is taken and when a node in hand is recorded.
use Rattle.std.specs.Prelude.{◌≡◌, ℕ, Bool, true, false, List, ◌++◌, ◌∷◌, [], slice_get, ℤ, Option, Some, remove}
use Rattle.lin_bound.specs.Problem.{ProblemData}
use Rattle.lin_bound.specs.declared.region.Region.{Region}
use Rattle.lin_bound.specs.declared.path.Branch.{Branch}
use Rattle.lin_bound.specs.declared.mult.Mult.{Mult}
use Rattle.cert_tree.specs.declared.records.Act.{Act}
use Rattle.cert_tree.specs.declared.records.Act.TheVariants.{Closed, Split}
use Rattle.lin_bound.specs.Box.{box_at, lower, upper}
use Rattle.lin_bound.specs.Bound.{Closes}
use Rattle.simplex_proposer.specs.declared.proposal.Proposal.{Proposal}
use Rattle.search_core.specs.declared.event.Hand.{Hand}
use Rattle.search_core.specs.declared.event.Seen.TheVariants.{Looked}
use Rattle.search_core.specs.Core.{CoreState, Holds, IsTaken}

-- the path that was opened last moves to the hand
pub record IsLastTaken (before : CoreState) (worker : ℕ) (after : CoreState) : Type 0 where
  pub path : List Branch
  pub last : before.left ≡ after.left ++ path ∷ []
  pub taken : IsTaken before worker path after

-- the point is the low ends of the box of the worker's node, if a value was looked at for that
abbrev pub IsLowOf : ProblemData → CoreState → ℕ → List ℕ → Type 0
IsLowOf p state worker point = (hand : Hand) (seen : Option ℤ)
    → Holds state.hands worker hand → hand.seen ≡ Looked seen → point ≡ (box_at p hand.path).low

-- the box is that of the worker's node, if it has one
abbrev pub IsBoxOf : ProblemData → CoreState → ℕ → Region → Type 0
IsBoxOf p state worker box =
    (hand : Hand) → Holds state.hands worker hand → box ≡ box_at p hand.path

-- the multipliers close the box of the worker's node for the value that it looked at
pub record ClosesAtOnce (p : ProblemData) (state : CoreState) (worker : ℕ)
    (mult : Mult) : Type 0 where
  pub hand : Hand
  pub seen : Option ℤ
  pub held : Holds state.hands worker hand
  pub looked : hand.seen ≡ Looked seen
  pub closes : Closes p (box_at p hand.path) mult seen

-- what is proposed then: the multipliers, and no place
abbrev pub without_place : Mult → Proposal
without_place mult = record { mult = mult; var = 0; at = 0 }

-- the node in hand at a place goes to the records with what was done
pub record Moves (before : CoreState) (place : ℕ) (hand : Hand) (act : Act)
    (after : CoreState) : Type 0 where
  pub there : slice_get before.hands place ≡ Some hand
  pub hands : after.hands ≡ remove before.hands place
  pub records : after.records ≡ before.records ++ record { path = hand.path; act = act } ∷ []
  pub budget : after.budget ≡ before.budget
  pub best : after.best ≡ before.best

pub record IsClosing (before : CoreState) (place : ℕ) (mult : Mult)
    (after : CoreState) : Type 0 where
  pub hand : Hand
  pub moves : Moves before place hand (Closed mult) after
  pub left : after.left ≡ before.left

-- the children of a path that is split, the one that is taken next the last
abbrev pub children_in_turn : Bool → List Branch → ℕ → ℕ → List (List Branch)
children_in_turn true path var at = (path ++ lower var at ∷ []) ∷ ((path ++ upper var at ∷ []) ∷ [])
children_in_turn false path var at = (path ++ upper var at ∷ []) ∷ ((path ++ lower var at ∷ []) ∷ [])

-- and its children are open
pub record IsSplitting (before : CoreState) (place var at : ℕ) (mult : Mult) (is_upper_next : Bool)
    (after : CoreState) : Type 0 where
  pub hand : Hand
  pub moves : Moves before place hand (Split var at mult) after
  pub left : after.left ≡ before.left ++ children_in_turn is_upper_next hand.path var at
