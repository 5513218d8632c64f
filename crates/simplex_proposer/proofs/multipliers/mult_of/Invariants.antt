use Rattle.std.proofs.Common.{◌≡◌, length}
use Rattle.lin_bound.specs.Problem.{row_count}
use Rattle.simplex_proposer.specs.Multipliers.{AreSmall}
use Rattle.simplex_proposer.proofs.multipliers.mult_of.Given as goal

abbrev pub invariant-loop-place : goal.invariant-loop-place
invariant-loop-place l = AreSmall l.lambda.items × (length l.lambda.items ≡ row_count l.problem)
