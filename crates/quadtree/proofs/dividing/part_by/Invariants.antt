use Rattle.quadtree.specs.Places.{is_place_above}
use Rattle.quadtree.proofs.Parting.{Parts}
use Rattle.quadtree.proofs.dividing.part_by.Given as goal

abbrev pub invariant-loop-at : goal.invariant-loop-at
invariant-loop-at l = Parts (is_place_above l.fn.points l.fn.mean l.fn.column) l.initial.places l.places l.above.items l.middle l.at
