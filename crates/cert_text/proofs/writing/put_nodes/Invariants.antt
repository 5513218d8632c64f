use Rattle.std.proofs.Common.{map, take}
use Rattle.cert_text.specs.Certs.{node_row}
use Rattle.cert_text.specs.Rules.{Puts}
use Rattle.cert_text.proofs.writing.put_nodes.Given as goal

abbrev pub invariant-loop-node : goal.invariant-loop-node
invariant-loop-node l = Puts l.fn.out.items l.out.items (map node_row (take l.node-index l.nodes))
