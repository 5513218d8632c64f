use Rattle.std.proofs.Common.{◌≡◌, ◌+◌}
use Rattle.lin_bound.specs.Sums.{sum_below}
use Rattle.lin_bound.specs.Bound.{part_of}
use Rattle.lin_bound.proofs.wide.add_gains.Given as goal

abbrev pub invariant-loop-place : goal.invariant-loop-place
invariant-loop-place l = l.total ≡ sum_below (part_of l.problem l.region l.mult) (l.start + l.place)
