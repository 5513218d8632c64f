use Rattle.lin_bound.proofs.Weights.{IsTaking}
use Rattle.lin_bound.proofs.wide.take_row.Given as goal

abbrev pub invariant-loop-place : goal.invariant-loop-place
invariant-loop-place l = IsTaking l.fn.weights l.weights l.multiplier l.coefficients l.place
