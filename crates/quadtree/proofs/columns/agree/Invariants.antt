use Rattle.std.proofs.Common.{◌≡◌, take, true}
use Rattle.std.specs.List.{list_all}
use Rattle.quadtree.specs.Points.{is_at}
use Rattle.quadtree.specs.Places.{points_at}
use Rattle.quadtree.proofs.columns.agree.Given as goal

abbrev pub invariant-loop-place : goal.invariant-loop-place
invariant-loop-place l = list_all (is_at l.number l.column) (points_at l.points (take l.place-index l.places)) ≡ true
