use Rattle.std.proofs.Common.{List}
use Rattle.quadtree.specs.Points.{Point, is_above}
use Rattle.quadtree.specs.Places.{ArePlaces, IsCut, points_at}
use Rattle.quadtree.proofs.Halving.{Halved}
use Rattle.quadtree.proofs.dividing.divide_by.Given as goal

abbrev pub invariant-loop-length : goal.invariant-loop-length
invariant-loop-length l =
    ArePlaces l.points l.places
    × ((lists : List (List Point)) → IsCut (points_at l.points l.fn.places) l.lengths lists → Halved l.points (is_above l.fn.mean l.column) lists l.places l.next.items l.start l.length-index)
