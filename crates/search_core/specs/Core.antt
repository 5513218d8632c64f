-- Private: the machine of the search: its state and its events.
-- The state of a search, its events, and what each of them does. Lists of paths and of nodes in
-- hand are in any order.
use Rattle.std.specs.Prelude.{◌≡◌, ℕ, ◌+◌, ◌<◌, ◌≤◌, List, ◌∷◌, ◌++◌, [], length, slice_get}
use Rattle.std.specs.Prelude.{Contains, IsPermutation, ℤ, Option, Some, ◌⊎◌}
use Rattle.lin_bound.specs.Sums.{nat_at}
use Rattle.lin_bound.specs.Problem.{ProblemData, variables, row_count, cost_at, IsFeasible}
use Rattle.lin_bound.specs.Box.{box_at, Splits, lower}
use Rattle.lin_bound.specs.Bound.{IsMult, Closes, plain}
use Rattle.lin_bound.specs.Laws.{NotAbove}
use Rattle.lin_bound.specs.declared.region.Region.{Region}
use Rattle.lin_bound.specs.declared.path.Branch.{Branch}
use Rattle.lin_bound.specs.declared.mult.Mult.{Mult}
use Rattle.cert_tree.specs.declared.records.Act.TheVariants.{Closed, Split}
use Rattle.cert_tree.specs.declared.records.Record.{Record}
use Rattle.cert_tree.specs.Records.{children_of}
use Rattle.cert_tree.specs.Partial.{PlainlyOpen}
use Rattle.search_core.specs.Nodes.{IsAbove, IsClosed}
use Rattle.search_core.specs.Search.{Found, value_in}
use Rattle.simplex_proposer.specs.declared.proposal.Proposal.{Proposal}
use Rattle.search_core.specs.declared.event.Seen.{Seen}
use Rattle.search_core.specs.declared.event.Seen.TheVariants.{NotLooked, Looked}
use Rattle.search_core.specs.declared.event.Hand.{Hand}
use Rattle.search_core.specs.declared.event.Event.{Event}
use Rattle.search_core.specs.declared.event.Event.TheVariants.{Take, Look, Handle, Offer, Drop}
use Rattle.search_core.specs.declared.event.Stepped.{Stepped}
use Rattle.search_core.specs.declared.event.Stepped.TheVariants.{Done, NotEnabled}

-- the open paths, the nodes in hand, the best point offered so far, what was recorded, and how many
-- nodes may be
pub record CoreState : Type 0 where
  pub budget : ℕ
  pub left : List (List Branch)
  pub hands : List Hand
  pub best : Option Found
  pub records : List Record

-- the nodes that were begun: the budget is spent where they are as many as it
abbrev pub begun : CoreState → ℕ
begun state = length state.records + length state.hands

-- the worker has this node in hand, or some node
abbrev pub Holds : List Hand → ℕ → Hand → Type 0
Holds hands worker hand = Contains hands hand × (hand.worker ≡ worker)

abbrev pub IsBusy : List Hand → ℕ → Type 0
IsBusy hands worker = (hand : Hand) × Holds hands worker hand

-- and it is at this place
abbrev pub IsHeldAt : List Hand → ℕ → ℕ → Type 0
IsHeldAt hands worker place =
    (hand : Hand) × (slice_get hands place ≡ Some hand) × (hand.worker ≡ worker)

-- the multipliers proposed or plain ones close the box
abbrev pub IsClosable : ProblemData → Region → Option ℤ → Proposal → Type 0
IsClosable p box seen proposal =
    Closes p box proposal.mult seen
    ⊎ ((number : ℕ) × (number ≤ row_count p) × Closes p box (plain p number) seen)

-- the box has more than one point
abbrev pub HasMore : ProblemData → Region → Type 0
HasMore p box = (i : ℕ) × (i < variables p) × (nat_at box.low i < nat_at box.high i)

-- the node in hand that may be handled, and the value seen for it
pub record IsReady (p : ProblemData) (state : CoreState) (worker : ℕ)
    (proposal : Proposal) : Type 0 where
  pub hand : Hand
  pub seen : Option ℤ
  pub held : Holds state.hands worker hand
  pub looked : hand.seen ≡ Looked seen
  pub able : IsClosable p (box_at p hand.path) seen proposal ⊎ HasMore p (box_at p hand.path)

-- Where an event is enabled.
abbrev pub IsEnabled : ProblemData → CoreState → Event → Type 0
IsEnabled p state (Take worker path) =
    Contains state.left path × ¬ IsBusy state.hands worker × (begun state < state.budget)
IsEnabled p state (Look worker) = IsBusy state.hands worker
IsEnabled p state (Handle worker proposal) = IsReady p state worker proposal
IsEnabled p state (Offer worker point) = IsFeasible p point
IsEnabled p state (Drop worker) = IsBusy state.hands worker

-- a node in hand
abbrev pub in_hand : ℕ → List Branch → Seen → Hand
in_hand worker path seen = record { worker = worker; path = path; seen = seen }

-- one of the nodes in hand is another afterwards
pub record Replaced (before after : List Hand) (old new : Hand) : Type 0 where
  pub others : List Hand
  pub taken : IsPermutation before (old ∷ others)
  pub put : IsPermutation after (new ∷ others)

-- the path moves to the hand, and no value is looked at
pub record IsTaken (before : CoreState) (worker : ℕ) (path : List Branch)
    (after : CoreState) : Type 0 where
  pub left : IsPermutation before.left (path ∷ after.left)
  pub hands : IsPermutation after.hands (in_hand worker path NotLooked ∷ before.hands)
  pub budget : after.budget ≡ before.budget
  pub best : after.best ≡ before.best
  pub records : after.records ≡ before.records

-- the best value is kept beside the node
pub record IsLooked (before : CoreState) (worker : ℕ) (after : CoreState) : Type 0 where
  pub hand : Hand
  pub held : Holds before.hands worker hand
  pub hands : Replaced before.hands after.hands hand
      (in_hand worker hand.path (Looked (value_in before.best)))
  pub budget : after.budget ≡ before.budget
  pub left : after.left ≡ before.left
  pub best : after.best ≡ before.best
  pub records : after.records ≡ before.records

-- the point is the best where its cost is above the best so far
abbrev pub IsBestOf : ProblemData → List ℕ → Option Found → Option Found → Type 0
IsBestOf p point before after =
    (IsAbove (cost_at p point) (value_in before) × (after ≡ Some (cost_at p point, point)))
    ⊎ (NotAbove p point (value_in before) × (after ≡ before))

pub record IsOffered (p : ProblemData) (before : CoreState) (point : List ℕ)
    (after : CoreState) : Type 0 where
  pub best : IsBestOf p point before.best after.best
  pub budget : after.budget ≡ before.budget
  pub left : after.left ≡ before.left
  pub hands : after.hands ≡ before.hands
  pub records : after.records ≡ before.records

-- a closed record, with the multipliers proposed or plain ones, which close the box
pub record IsClosedBy (p : ProblemData) (before : CoreState) (hand : Hand) (seen : Option ℤ)
    (proposal : Proposal) (after : CoreState) : Type 0 where
  pub mult : Mult
  pub legal : IsMult p mult
  pub closed : IsClosed p (box_at p hand.path) seen proposal mult
  pub records : after.records ≡ before.records
      ++ record { path = hand.path; act = Closed mult } ∷ []
  pub left : after.left ≡ before.left

-- a split record at a place that divides the box, where nothing closes it; both children are open
pub record IsSplitBy (p : ProblemData) (before : CoreState) (hand : Hand) (seen : Option ℤ)
    (proposal : Proposal) (after : CoreState) : Type 0 where
  pub var : ℕ
  pub at : ℕ
  pub legal : IsMult p proposal.mult
  pub unclosed : ¬ Closes p (box_at p hand.path) proposal.mult seen
  pub plainly : PlainlyOpen p (box_at p hand.path) seen
  pub splits : Splits (lower var at) (box_at p hand.path)
  pub records : after.records ≡ before.records
      ++ record { path = hand.path; act = Split var at proposal.mult } ∷ []
  pub left : IsPermutation after.left
      (children_of hand.path (Split var at proposal.mult) ++ before.left)

-- the node in hand is recorded, and the hand is empty
pub record IsRecorded (p : ProblemData) (before : CoreState) (worker : ℕ) (proposal : Proposal)
    (after : CoreState) : Type 0 where
  pub hand : Hand
  pub seen : Option ℤ
  pub held : Holds before.hands worker hand
  pub looked : hand.seen ≡ Looked seen
  pub hands : IsPermutation before.hands (hand ∷ after.hands)
  pub done : IsClosedBy p before hand seen proposal after
      ⊎ IsSplitBy p before hand seen proposal after
  pub budget : after.budget ≡ before.budget
  pub best : after.best ≡ before.best

-- the path is open again
pub record IsDropped (before : CoreState) (worker : ℕ) (after : CoreState) : Type 0 where
  pub hand : Hand
  pub held : Holds before.hands worker hand
  pub hands : IsPermutation before.hands (hand ∷ after.hands)
  pub left : IsPermutation after.left (hand.path ∷ before.left)
  pub budget : after.budget ≡ before.budget
  pub best : after.best ≡ before.best
  pub records : after.records ≡ before.records

-- What an event does where it is enabled.
abbrev pub Performs : ProblemData → CoreState → Event → CoreState → Type 0
Performs p before (Take worker path) after = IsTaken before worker path after
Performs p before (Look worker) after = IsLooked before worker after
Performs p before (Handle worker proposal) after = IsRecorded p before worker proposal after
Performs p before (Offer worker point) after = IsOffered p before point after
Performs p before (Drop worker) after = IsDropped before worker after

-- The outcome of an event: done where it is enabled, and else nothing changes.
abbrev pub Outcome : Type 0 → Type 0 → Type 0 → Stepped → Type 0
Outcome enabled performed unchanged Done = enabled × performed
Outcome enabled performed unchanged NotEnabled = ¬ enabled × unchanged

abbrev pub Steps : ProblemData → CoreState → Event → Stepped → CoreState → Type 0
Steps p before event outcome after =
    Outcome (IsEnabled p before event) (Performs p before event after) (after ≡ before) outcome

-- the multipliers that an event brings fit the problem
abbrev pub Fits : ProblemData → Event → Type 0
Fits p (Take worker path) = Unit {0}
Fits p (Look worker) = Unit {0}
Fits p (Handle worker proposal) = IsMult p proposal.mult
Fits p (Offer worker point) = Unit {0}
Fits p (Drop worker) = Unit {0}

-- one event after the other
abbrev pub Runs : ProblemData → CoreState → List Event → CoreState → Type 0
Runs p before [] after = after ≡ before
Runs p before (event ∷ events) after =
    (outcome : Stepped) × (middle : CoreState) × Steps p before event outcome middle
    × Runs p middle events after
