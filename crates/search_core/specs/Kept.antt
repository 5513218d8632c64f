-- Private: the invariant of the machine.
-- What holds of a search after any list of events.
use Rattle.std.specs.Prelude.{ℕ, ◌≤◌, ◌==◌, if◌then◌else◌, List, ◌++◌, map, All, sum_by, ℤ, Option}
use Rattle.std.specs.Prelude.{None}
use Rattle.lin_bound.specs.Problem.{ProblemData}
use Rattle.lin_bound.specs.declared.path.Branch.{Branch}
use Rattle.cert_tree.specs.declared.records.Record.{Record}
use Rattle.cert_tree.specs.Records.{IsBalanced}
use Rattle.cert_tree.specs.Laws.{IsPlainlyRight}
use Rattle.cert_tree.specs.Multipliers.{ActIsLegal}
use Rattle.cert_tree.specs.Values.{IsAtMost}
use Rattle.search_core.specs.Search.{IsFound, value_in}
use Rattle.search_core.specs.Core.{CoreState, begun}
use Rattle.search_core.specs.declared.event.Seen.{Seen}
use Rattle.search_core.specs.declared.event.Seen.TheVariants.{NotLooked, Looked}
use Rattle.search_core.specs.declared.event.Hand.{Hand}

abbrev pub path_held : Hand → List Branch
path_held hand = hand.path

-- how many nodes a worker has in hand
abbrev pub one_of : ℕ → Hand → ℕ
one_of worker hand = if worker == hand.worker then 1 else 0

abbrev pub nodes_of : ℕ → List Hand → ℕ
nodes_of worker hands = sum_by (one_of worker) hands

-- the value looked at, where there is one, is not above the best
abbrev pub SeenBelow : Option ℤ → Seen → Type 0
SeenBelow best NotLooked = Unit {0}
SeenBelow best (Looked seen) = IsAtMost seen best

-- Records with open paths and nodes in hand are balanced. The best value is that of a feasible
-- point. Each closed record is closed for the best value, or for no value while there is none. Each
-- split record divides its box, which was plainly open. No worker has two nodes, none looked at a
-- value above the best, and no more nodes were begun than may be.
pub record IsKept (p : ProblemData) (state : CoreState) : Type 0 where
  pub balanced : IsBalanced state.records (state.left ++ map path_held state.hands)
  pub found : IsFound p state.best
  pub right : All
      (λ (done : Record). IsPlainlyRight p (value_in state.best) None done.path done.act)
      state.records
  pub legal : All (λ (done : Record). ActIsLegal p done.act) state.records
  pub one_each : (worker : ℕ) → nodes_of worker state.hands ≤ 1
  pub seen : All (λ (hand : Hand). SeenBelow (value_in state.best) hand.seen) state.hands
  pub within : begun state ≤ state.budget
