-- Private: `handle_node`: what comes of one box.
-- What comes of one box, and where a box is split.
use Rattle.std.specs.Prelude.{◌≡◌, ℕ, ◌+◌, ◌/◌, length, ℤ, Option, None, Some, ◌⊎◌}
use lib.Signed.{◌<ℤ◌}
use Rattle.lin_bound.specs.Sums.{nat_at}
use Rattle.lin_bound.specs.Problem.{ProblemData, variables, cost_at, IsFeasible}
use Rattle.lin_bound.specs.Box.{Splits, IsOnePoint, lower}
use Rattle.lin_bound.specs.Bound.{IsMult, Closes}
use Rattle.lin_bound.specs.declared.region.Region.{Region}
use Rattle.lin_bound.specs.declared.mult.Mult.{Mult}
use Rattle.cert_tree.specs.Partial.{PlainlyOpen}
use Rattle.search_core.specs.Boxes.{IsFirstRoom, HasNoRoom, IsPlainlyClosed}
use Rattle.simplex_proposer.specs.declared.proposal.Proposal.{Proposal}
use Rattle.search_core.specs.declared.node.Work.{Work}
use Rattle.search_core.specs.declared.node.Handled.{Handled}
use Rattle.search_core.specs.declared.node.Handled.TheVariants.{Closed, Split, Better}

-- the middle of the first variable with room
pub record IsFirstMiddle (box : Region) (var at : ℕ) : Type 0 where
  pub first : IsFirstRoom box var
  pub middle : at ≡ (nat_at box.low var + nat_at box.high var) / 2

-- the place proposed, where that divides the box
pub record IsProposed (box : Region) (proposal : Proposal) (var at : ℕ) : Type 0 where
  pub var_is : var ≡ proposal.var
  pub at_is : at ≡ proposal.at
  pub splits : Splits (lower proposal.var proposal.at) box

-- and where it doesn't, the middle of the first variable with room
abbrev pub IsFallback : Region → Proposal → ℕ → ℕ → Type 0
IsFallback box proposal var at =
    ¬ Splits (lower proposal.var proposal.at) box × IsFirstMiddle box var at

abbrev pub IsSplitAt : Region → Proposal → ℕ → ℕ → Type 0
IsSplitAt box proposal var at = IsProposed box proposal var at ⊎ IsFallback box proposal var at

-- a box without room is not split
abbrev pub IsSplitPlace : Region → Proposal → Option (ℕ × ℕ) → Type 0
IsSplitPlace box proposal None = HasNoRoom box
IsSplitPlace box proposal (Some place) = IsSplitAt box proposal place.0 place.1

-- the cost is above the value, where there is one
abbrev pub IsAbove : ℤ → Option ℤ → Type 0
IsAbove cost None = Unit {0}
IsAbove cost (Some seen) = seen <ℤ cost

-- the box is one point that is feasible and costs more than the value
pub record IsBetter (p : ProblemData) (box : Region) (seen : Option ℤ) : Type 0 where
  pub one : IsOnePoint p box
  pub feasible : IsFeasible p box.low
  pub above : IsAbove (cost_at p box.low) seen

-- neither the multipliers proposed nor plain ones close the box, and it has more than one point
pub record IsSplit (p : ProblemData) (box : Region) (seen : Option ℤ) (proposal : Proposal)
    (chosen : Mult) (var at : ℕ) : Type 0 where
  pub chosen_is : chosen ≡ proposal.mult
  pub unclosed : ¬ Closes p box proposal.mult seen
  pub plainly : PlainlyOpen p box seen
  pub place : IsSplitAt box proposal var at

-- the box is closed by the multipliers proposed, and if these don't close it, by the first plain
-- ones that do
abbrev pub IsClosed : ProblemData → Region → Option ℤ → Proposal → Mult → Type 0
IsClosed p box seen proposal chosen =
    ((chosen ≡ proposal.mult) × Closes p box proposal.mult seen)
    ⊎ (¬ Closes p box proposal.mult seen × IsPlainlyClosed p box seen chosen)

-- room for one lambda a row and one count a variable
pub record IsWork (p : ProblemData) (work : Work) : Type 0 where
  pub mult : IsMult p work.mult
  pub point : length work.point ≡ variables p

-- What comes of a box: it is closed by the multipliers chosen, or split, or a better point.
abbrev pub IsHandled : ProblemData → Region → Option ℤ → Proposal → Mult → Handled → Type 0
IsHandled p box seen proposal chosen Closed = IsClosed p box seen proposal chosen
IsHandled p box seen proposal chosen (Split var at) = IsSplit p box seen proposal chosen var at
IsHandled p box seen proposal chosen Better = IsBetter p box seen
