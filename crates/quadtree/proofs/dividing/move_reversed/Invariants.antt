use Rattle.std.proofs.Common.{◌≡◌, ◌++◌, reverse}
use Rattle.std.specs.Vec.{vec_len}
use Rattle.quadtree.proofs.dividing.move_reversed.Given as goal

abbrev pub invariant-loop-length : goal.invariant-loop-length
invariant-loop-length l = l.lengths.items ++ reverse l.more.items ≡ l.fn.lengths.items ++ reverse l.fn.more.items

abbrev pub decreases-loop-length : goal.decreases-loop-length
decreases-loop-length l = vec_len l.more
