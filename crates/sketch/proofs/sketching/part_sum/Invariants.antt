use Rattle.std.proofs.Common.{◌≡◌, ℕ}
use Rattle.lin_bound.specs.Sums.{sum_below, int_at, nat_at}
use Rattle.sketch.specs.Parts.{IsSumOf64}
use Rattle.sketch.specs.Lines.{numbers_of}
use Rattle.sketch.proofs.sketching.part_sum.Given as goal

abbrev pub invariant-loop-member : goal.invariant-loop-member
invariant-loop-member l = record {
  value : l.sum ≡ sum_below (λ (k : ℕ). int_at (numbers_of l.problem l.line) (nat_at l.part k)) l.member-index;
  range : IsSumOf64 l.member-index l.sum;
}
