-- Private: the laws of the machine.
-- What is known of a search after any list of events of any number of workers.
use Rattle.std.specs.Prelude.{◌≡◌, ℕ, List, [], ◌∷◌, ◌++◌, Contains, ℤ, Option, None, Some, ◌⊎◌}
use Rattle.lin_bound.specs.Problem.{ProblemData, cost_at, IsFeasible}
use Rattle.lin_bound.specs.Box.{box_at}
use Rattle.lin_bound.specs.Laws.{NotAbove}
use Rattle.lin_bound.specs.declared.path.Branch.{Branch}
use Rattle.lin_bound.specs.declared.mult.Mult.{Mult}
use Rattle.cert_tree.specs.declared.records.Act.TheVariants.{Split}
use Rattle.cert_tree.specs.Partial.{PlainlyOpen}
use Rattle.cert_tree.specs.declared.records.Record.{Record}
use Rattle.search_core.specs.Search.{Found, value_in}
use Rattle.search_core.specs.Core.{CoreState, Holds, IsEnabled, Performs, Runs}
use Rattle.search_core.specs.Kept.{IsKept}
use Rattle.search_core.specs.declared.event.Seen.TheVariants.{Looked}
use Rattle.search_core.specs.declared.event.Hand.{Hand}
use Rattle.simplex_proposer.specs.declared.proposal.Proposal.{Proposal}
use Rattle.search_core.specs.declared.event.Event.{Event}
use Rattle.search_core.specs.declared.event.Event.TheVariants.{Handle, Offer}

-- a problem, and how far its search is
pub record CoreData : Type 0 where
  pub problem : ProblemData
  pub state : CoreState

-- the state that a search begins with: the path of the whole box is open
abbrev pub start : ℕ → CoreState
start budget = record { budget = budget; left = [] ∷ []; hands = []; best = None; records = [] }

-- the state of a search that goes on with these records and open paths
abbrev pub going_on : ℕ → List Record → List (List Branch) → Option Found → CoreState
going_on budget records left best =
    record { budget = budget; left = left; hands = []; best = best; records = records }

-- What holds of a search holds after any list of events.
abbrev pub RunsKeep : Type 0
RunsKeep = (p : ProblemData) (before after : CoreState) (events : List Event)
    → IsKept p before → Runs p before events after → IsKept p after

-- a feasible point is offered by one of the events
abbrev pub IsOfferedIn : ProblemData → List Event → List ℕ → Type 0
IsOfferedIn p events point =
    IsFeasible p point × ((worker : ℕ) × Contains events (Offer worker point))

-- the best is that of before or the offered point, and no offered point is above it
pub record IsBestOffered (p : ProblemData) (before after : CoreState)
    (events : List Event) : Type 0 where
  pub offered : (after.best ≡ before.best)
      ⊎ ((point : List ℕ) × IsOfferedIn p events point
      × (after.best ≡ Some (cost_at p point, point)))
  pub greatest : (point : List ℕ) → IsOfferedIn p events point
      → NotAbove p point (value_in after.best)

abbrev pub BestIsOffered : Type 0
BestIsOffered =
    (p : ProblemData) (before after : CoreState) (events : List Event)
    → Runs p before events after → IsBestOffered p before after events

-- one of the events split the box of this path under these multipliers: the worker had the path in
-- hand and had looked at a value, for which the box was plainly open, and the event made this
-- record
pub record WasOpen (p : ProblemData) (before after : CoreState) (events : List Event)
    (path : List Branch) (var at : ℕ) (mult : Mult) : Type 0 where
  pub past : List Event
  pub worker : ℕ
  pub proposal : Proposal
  pub later : List Event
  pub whole : events ≡ past ++ Handle worker proposal ∷ later
  pub mult_is : mult ≡ proposal.mult
  pub moment : CoreState
  pub next : CoreState
  pub reached : Runs p before past moment
  pub enabled : IsEnabled p moment (Handle worker proposal)
  pub performed : Performs p moment (Handle worker proposal) next
  pub onward : Runs p next later after
  pub hand : Hand
  pub held : Holds moment.hands worker hand
  pub path_is : hand.path ≡ path
  pub seen : Option ℤ
  pub looked : hand.seen ≡ Looked seen
  pub plainly : PlainlyOpen p (box_at p path) seen
  pub made : next.records ≡ moment.records ++ record { path = path; act = Split var at mult } ∷ []

-- Each split record was there before, or one of the events made it, of a box that was plainly open
-- for the value that its worker had looked at.
abbrev pub SplitsWereOpen : Type 0
SplitsWereOpen =
    (p : ProblemData) (before after : CoreState) (events : List Event) (path : List Branch)
    (var at : ℕ) (mult : Mult)
    → Runs p before events after
    → Contains after.records (record { path = path; act = Split var at mult })
    → Contains before.records (record { path = path; act = Split var at mult })
    ⊎ WasOpen p before after events path var at mult
