use Rattle.cert_tree.proofs.Walking.{IsWalking}
use Rattle.cert_tree.proofs.possible.most_left.Given as goal

abbrev pub invariant-loop-number : goal.invariant-loop-number
invariant-loop-number l = IsWalking l.problem l.fn.best l.nodes l.pending.items l.most l.number
