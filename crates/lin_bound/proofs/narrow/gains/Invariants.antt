use Rattle.std.proofs.Common.{◌≡◌, ◌≤◌, ◌-◌}
use Rattle.lin_bound.specs.Sums.{sum_below}
use Rattle.lin_bound.specs.Problem.{variables}
use Rattle.lin_bound.specs.Bound.{part_of}
use Rattle.lin_bound.proofs.narrow.gains.Given as goal

abbrev pub invariant-loop-start : goal.invariant-loop-start
invariant-loop-start l = (l.start ≤ variables l.problem) × (l.total ≡ sum_below (part_of l.problem l.region l.mult) l.start)

abbrev pub decreases-loop-start : goal.decreases-loop-start
decreases-loop-start l = variables l.problem - l.start
