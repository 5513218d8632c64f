use Rattle.std.proofs.Common.{[], ◌∷◌, subst}
use Rattle.cert_tree.specs.declared.nodes.TreeNode.{TreeNode}
use Rattle.cert_text.specs.Certs.{node_row}
use Rattle.cert_text.specs.Rules.{Puts}
use Rattle.cert_text.proofs.Texts.{puts_more}
use Rattle.cert_text.proofs.writing.put_nodes.Goals as goal

pub loop-node-preserved : goal.loop-node-preserved
loop-node-preserved c =
    let now = c.loop-node.out.items in
    let new = c.put_node.new.out.items in
    puts_more node_row c.args.out.now.items now new [] c.args.nodes.now c.loop-node.node-index c.node-item.result c.loop-node-test.true c.loop-node.invariant
    (subst (λ (node : TreeNode). Puts now new (node_row node ∷ [])) c.node-item.is c.in_ok-put_node.ensures)
