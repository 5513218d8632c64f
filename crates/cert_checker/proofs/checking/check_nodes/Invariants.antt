use Rattle.cert_checker.proofs.FirstFaults.{IsWalking}
use Rattle.cert_checker.proofs.checking.check_nodes.Given as goal

abbrev pub invariant-loop-node : goal.invariant-loop-node
invariant-loop-node l = IsWalking l.problem l.best l.nodes l.walk.cuts.items l.walk.region l.node-index
