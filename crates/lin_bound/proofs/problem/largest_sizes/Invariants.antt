use Rattle.std.proofs.Common.{◌≡◌, length}
use Rattle.lin_bound.proofs.Weights.{AreSizes}
use Rattle.lin_bound.proofs.problem.largest_sizes.Given as goal

abbrev pub invariant-loop-row : goal.invariant-loop-row
invariant-loop-row l = AreSizes l.rows l.sizes l.row × (length l.sizes ≡ 64)
