use Rattle.std.proofs.Common.{◌≡◌, take}
use Rattle.quadtree.specs.Groups.{ids}
use Rattle.quadtree.specs.Places.{points_at}
use Rattle.quadtree.proofs.group.ids_of.Given as goal

abbrev pub invariant-loop-place : goal.invariant-loop-place
invariant-loop-place l = l.members.items ≡ ids (points_at l.points (take l.place-index l.places))
