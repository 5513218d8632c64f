use Rattle.std.proofs.Common.{List, ◌∷◌, [], take, length}
use Rattle.quadtree.specs.Groups.{divided, tests_of}
use Rattle.quadtree.specs.Places.{ArePlaces, IsCut, points_at}
use Rattle.quadtree.proofs.dividing.divide.Given as goal

abbrev pub invariant-loop-column : goal.invariant-loop-column
invariant-loop-column l =
    ArePlaces l.points l.places
    × IsCut (points_at l.points l.places) l.room.lengths.items (divided (tests_of l.column (points_at l.points l.fn.places)) (points_at l.points l.fn.places ∷ []))
