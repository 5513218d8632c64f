use Rattle.std.proofs.Common.{◌≡◌, take, map}
use Rattle.sketch.specs.Sketched.{means_of}
use Rattle.sketch.proofs.sketching.rows_of_means.Given as goal

abbrev pub invariant-loop-row : goal.invariant-loop-row
invariant-loop-row l = l.rows ≡ map (means_of l.parts) (take l.row l.problem.rows)
