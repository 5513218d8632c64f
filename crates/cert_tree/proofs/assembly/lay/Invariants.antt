use Rattle.std.proofs.Common.{length}
use Rattle.cert_tree.proofs.Laying.{IsLaying}
use Rattle.cert_tree.proofs.assembly.lay.Given as goal

abbrev pub invariant-loop-path : goal.invariant-loop-path
invariant-loop-path l = IsLaying l.fn.pieces.items l.pending.items l.nodes l.pieces.items

abbrev pub decreases-loop-path : goal.decreases-loop-path
decreases-loop-path l = length l.pieces.items
