-- What a box that no plain multipliers close comes to, and that a better point is always found out.
use Rattle.std.proofs.Common.{ℕ, ◌+◌, List, arith, inl, inr}
use Rattle.std.specs.Prelude.{ℤ, pos, ◌+ℤ◌, Option, None, Some}
use Rattle.std.proofs.lemmas.Int.{ints, by_lt_z}
use Rattle.lin_bound.specs.Problem.{ProblemData, row_count, cost_at}
use Rattle.lin_bound.specs.Box.{IsRegion, IsInBox, IsOnePoint, Splits, lower}
use Rattle.lin_bound.specs.Bound.{Closes, plain}
use Rattle.lin_bound.specs.Laws.{NotAbove}
use Rattle.lin_bound.specs.declared.region.Region.{Region}
use Rattle.lin_bound.specs.declared.mult.Mult.{Mult}
use Rattle.lin_bound.proofs.OnePoint.{bound_of_cost}
use Rattle.lin_bound.proofs.Duality.{closed_holds_none}
use Rattle.cert_tree.specs.Partial.{PlainlyOpen}
use Rattle.search_core.specs.Boxes.{HasRoom, HasNoRoom, IsOpenBelow}
use Rattle.search_core.specs.Nodes.{IsSplitAt, IsAbove, IsBetter}
use Rattle.simplex_proposer.specs.declared.proposal.Proposal.{Proposal}
use Rattle.search_core.proofs.Steps.{one_point, open_feasible}

-- where a box is split there is room
split_room : (box : Region) (proposal : Proposal) (var at : ℕ) → IsSplitAt box proposal var at → (i : ℕ) × HasRoom box i
split_room box proposal var at place = elim place [
  | inl proposed ↦ (proposal.var, (proposed.splits.var, omega (arith, proposed.splits.low, proposed.splits.high)))
  | inr fallback ↦ (var, fallback.1.first.room)
]

pub plainly_open : (p : ProblemData) (box : Region) (seen : Option ℤ) (proposal : Proposal) (var at : ℕ) → IsRegion p box → IsOpenBelow p box seen (row_count p + 1) → IsSplitAt box proposal var at → PlainlyOpen p box seen
plainly_open p box seen proposal var at region none place =
    let room = split_room box proposal var at place in
    record {
      more = (room.0, omega (arith, room.1.0, region.low_each), room.1.1);
      unclosed = λ number h. none number (omega (arith, h));
    }

open_is_above : (p : ProblemData) (box : Region) (seen : Option ℤ) → IsOnePoint p box → ¬ Closes p box (plain p 0) seen → IsAbove (cost_at p box.low) seen
open_is_above p box None one none = tt
open_is_above p box (Some z) one none =
    by_lt_z (cost_at p box.low) (z +ℤ pos 1)
    (λ lt. absurd (none (omega (arith, ints, bound_of_cost p box one, lt))))
    (λ le. omega (arith, ints, le))

pub is_better : (p : ProblemData) (box : Region) (seen : Option ℤ) → IsRegion p box → IsOpenBelow p box seen (row_count p + 1) → HasNoRoom box → IsBetter p box seen
is_better p box seen region none narrow =
    let one : IsOnePoint p box = one_point p box region narrow in
    record {
      one = one;
      feasible = open_feasible p box seen region one none;
      above = open_is_above p box seen one (none 0 (omega arith));
    }

pub above_not_below : (p : ProblemData) (x : List ℕ) (seen : Option ℤ) → IsAbove (cost_at p x) seen → NotAbove p x seen → ⊥
above_not_below p x None above below = below
above_not_below p x (Some z) above below = omega (arith, ints, above, below)

-- a closed box holds no better point
pub closed_not_better : (p : ProblemData) (box : Region) (mult : Mult) (seen : Option ℤ) → IsRegion p box → Closes p box mult seen → ¬ IsBetter p box seen
closed_not_better p box mult seen region closed better =
    let inside : IsInBox p box box.low = record { low = λ i h. omega arith; high = region.ordered } in
    above_not_below p box.low seen better.above (closed_holds_none p box mult seen box.low closed better.feasible inside)

-- and a box with room is not one point
pub open_not_better : (p : ProblemData) (box : Region) (seen : Option ℤ) → PlainlyOpen p box seen → ¬ IsBetter p box seen
open_not_better p box seen plainly better = omega (arith, plainly.more.2, better.one plainly.more.0 plainly.more.1)

-- a box is divided where it is split
pub place_splits : (box : Region) (proposal : Proposal) (var at : ℕ) → IsSplitAt box proposal var at → Splits (lower var at) box
place_splits box proposal var at place = elim place [
  | inl proposed ↦ rw (proposed.var_is, proposed.at_is) proposed.splits
  | inr fallback ↦ record {
    var = fallback.1.first.room.0;
    low = omega (arith, fallback.1.middle, fallback.1.first.room.1);
    high = omega (arith, fallback.1.middle, fallback.1.first.room.1);
  }
]
