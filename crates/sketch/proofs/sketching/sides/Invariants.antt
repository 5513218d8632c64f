use Rattle.std.proofs.Common.{◌≡◌, take}
use Rattle.sketch.proofs.sketching.sides.Given as goal

abbrev pub invariant-loop-row : goal.invariant-loop-row
invariant-loop-row l = l.sides ≡ take l.row l.problem.rhs
