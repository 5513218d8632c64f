use Rattle.std.proofs.Common.{◌≡◌}
use Rattle.quadtree.specs.Points as spec
use Rattle.quadtree.specs.Places.{points_at}
use Rattle.quadtree.proofs.columns.means.Given as goal

abbrev pub invariant-loop-column : goal.invariant-loop-column
invariant-loop-column l = l.rep.items ≡ spec.means l.column (points_at l.points l.places)
