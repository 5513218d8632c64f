use Rattle.std.proofs.Common.{◌≡◌, take, true}
use Rattle.std.specs.List.{list_all}
use Rattle.quadtree.specs.Points.{is_near}
use Rattle.quadtree.specs.Places.{points_at}
use Rattle.quadtree.proofs.columns.is_column_near.Given as goal

abbrev pub invariant-loop-place : goal.invariant-loop-place
invariant-loop-place l = list_all (is_near l.mean l.radius l.column) (points_at l.points (take l.place-index l.places)) ≡ true
