use Rattle.std.proofs.Common.{◌≡◌, map}
use Rattle.std.specs.List.{range_with_len}
use Rattle.sketch.specs.Refined.{side_left}
use Rattle.sketch.proofs.refining.sides_left.Given as goal

abbrev pub invariant-loop-row : goal.invariant-loop-row
invariant-loop-row l = l.sides ≡ map (side_left l.problem l.others) (range_with_len 0 l.row)
