use Rattle.std.proofs.Common.{◌≡◌}
use Rattle.lin_bound.specs.Problem.{value_at}
use Rattle.lin_bound.proofs.points.value_of.Given as goal

abbrev pub invariant-loop-place : goal.invariant-loop-place
invariant-loop-place l = l.total ≡ value_at l.coefficients l.counts l.place
