use Rattle.lin_bound.specs.Weights.{AreWeights}
use Rattle.lin_bound.proofs.wide.weigh.Given as goal

abbrev pub invariant-loop-row : goal.invariant-loop-row
invariant-loop-row l = AreWeights l.problem l.mult l.row l.start l.weights
