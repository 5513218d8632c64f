use Rattle.std.proofs.Common.{◌≡◌, take, map}
use Rattle.sketch.specs.Refined.{numbers_at}
use Rattle.sketch.proofs.refining.rows_at.Given as goal

abbrev pub invariant-loop-row : goal.invariant-loop-row
invariant-loop-row l = l.rows ≡ map (numbers_at l.part) (take l.row l.problem.rows)
