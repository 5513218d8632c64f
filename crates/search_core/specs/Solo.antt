-- Private: the search of one worker.
-- How one worker goes on, event by event.
use Rattle.std.specs.Prelude.{◌≡◌, ◌+◌, List, [], ◌∷◌, length, IsPermutation}
use Rattle.lin_bound.specs.Problem.{ProblemData}
use Rattle.lin_bound.specs.declared.region.Region.{Region}
use Rattle.search_core.specs.Search.{value_in}
use Rattle.search_core.specs.Core.{CoreState, Runs}
use Rattle.search_core.specs.Moves.{IsBoxOf}
use Rattle.search_core.specs.declared.event.Event.{Event}
use Rattle.search_core.specs.declared.event.Seen.TheVariants.{Looked}
use Rattle.search_core.specs.declared.event.Hand.{Hand}

-- some events lead from the one state to the other
abbrev pub Reaches : ProblemData → CoreState → CoreState → Type 0
Reaches p before after = (events : List Event) × Runs p before events after

-- worker 0 has the one node in hand, and looked at the best value
pub record IsAlone (state : CoreState) : Type 0 where
  pub hand : Hand
  pub only : IsPermutation state.hands (hand ∷ [])
  pub worker : hand.worker ≡ 0
  pub looked : hand.seen ≡ Looked (value_in state.best)

-- an open path was taken, and the best value looked at for it
pub record IsBegun (before after : CoreState) : Type 0 where
  pub reaches : (p : ProblemData) → Reaches p before after
  pub alone : IsAlone after
  pub budget : after.budget ≡ before.budget
  pub records : after.records ≡ before.records

-- some points were offered, and the same nodes are in hand and recorded
pub record IsAllOffered (p : ProblemData) (before after : CoreState) : Type 0 where
  pub reaches : Reaches p before after
  pub hands : after.hands ≡ before.hands
  pub budget : after.budget ≡ before.budget
  pub records : after.records ≡ before.records

-- and the best value was looked at again for the node in hand, whose box is the same
pub record IsInformed (p : ProblemData) (before after : CoreState) : Type 0 where
  pub reaches : Reaches p before after
  pub alone : IsAlone after
  pub same : (box : Region) → IsBoxOf p before 0 box → IsBoxOf p after 0 box
  pub budget : after.budget ≡ before.budget
  pub records : after.records ≡ before.records

-- one more node is recorded, and none is in hand
pub record IsAdvanced (p : ProblemData) (before after : CoreState) : Type 0 where
  pub reaches : Reaches p before after
  pub idle : after.hands ≡ []
  pub budget : after.budget ≡ before.budget
  pub more : length after.records ≡ length before.records + 1
