use Rattle.std.proofs.Common.{◌≡◌, true}
use Rattle.std.specs.List.{list_all, range_with_len}
use Rattle.quadtree.specs.Points.{is_column_near}
use Rattle.quadtree.specs.Places.{points_at}
use Rattle.quadtree.proofs.columns.are_near.Given as goal

abbrev pub invariant-loop-column : goal.invariant-loop-column
invariant-loop-column l =
    list_all (is_column_near l.radius (points_at l.points l.places)) (range_with_len 0 l.column) ≡ true
