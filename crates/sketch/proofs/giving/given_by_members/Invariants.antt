use Rattle.std.proofs.Common.{◌≡◌}
use Rattle.lin_bound.specs.Sums.{sum_below}
use Rattle.sketch.specs.Lines.{numbers_of}
use Rattle.sketch.proofs.Gifts.{gift}
use Rattle.sketch.proofs.giving.given_by_members.Given as goal

abbrev pub invariant-loop-place : goal.invariant-loop-place
invariant-loop-place l = l.total ≡ sum_below (gift (numbers_of l.problem l.line) l.part l.counts) l.place
