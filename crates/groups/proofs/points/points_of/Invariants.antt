use Rattle.std.proofs.Common.{◌≡◌, take, map}
use Rattle.groups.specs.Points as spec
use Rattle.groups.proofs.points.points_of.Given as goal

abbrev pub invariant-loop-row : goal.invariant-loop-row
invariant-loop-row l = l.points.items ≡ map (spec.point_of l.columns) (take l.row-index l.rows)
