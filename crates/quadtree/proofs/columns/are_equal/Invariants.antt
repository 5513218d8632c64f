use Rattle.std.proofs.Common.{◌≡◌, true}
use Rattle.std.specs.List.{list_all, range_with_len}
use Rattle.quadtree.specs.Points.{agree}
use Rattle.quadtree.specs.Places.{points_at}
use Rattle.quadtree.proofs.columns.are_equal.Given as goal

abbrev pub invariant-loop-column : goal.invariant-loop-column
invariant-loop-column l = list_all (agree (points_at l.points l.places)) (range_with_len 0 l.column) ≡ true
