use Rattle.std.proofs.Common.{◌≡◌, ◌≤◌, ◌*◌, ◌^◌, take, unsigned_abs}
use Rattle.quadtree.specs.Points.{column_sum}
use Rattle.quadtree.specs.Places.{points_at}
use Rattle.quadtree.proofs.columns.column_sum.Given as goal

abbrev pub invariant-loop-place : goal.invariant-loop-place
invariant-loop-place l =
    (l.sum ≡ column_sum l.column (points_at l.points (take l.place-index l.places))) × (unsigned_abs l.sum ≤ l.place-index * 10 ^ 12)
