use Rattle.std.proofs.Common.{length}
use Rattle.quadtree.proofs.SplitTurns.{Splits, left_of}
use Rattle.quadtree.proofs.splitting.split_places.Given as goal

abbrev pub invariant-loop-length : goal.invariant-loop-length
invariant-loop-length l = Splits l.size l.radius l.points l.places l.pending.items l.groups.items l.start

abbrev pub decreases-loop-length : goal.decreases-loop-length
decreases-loop-length l = left_of (length l.points) l.start (length l.pending.items)
