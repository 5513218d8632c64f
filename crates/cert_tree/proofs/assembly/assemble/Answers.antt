use Rattle.std.proofs.Common.{List}
use Rattle.std.proofs.lemmas.Result.{IfOk-weaker}
use Rattle.cert_tree.specs.declared.nodes.TreeNode.{TreeNode}
use Rattle.cert_tree.specs.Trees.{IsLaid, IsAssembled}
use Rattle.cert_tree.proofs.Laying.{gathered_fit, laid_of_gathered}
use Rattle.cert_tree.proofs.assembly.assemble.Goals as goal

pub lay-requires : goal.lay-requires
lay-requires c =
    gathered_fit c.args.records.items c.args.left.items c.in_ok-pieces.pieces.items c.sort_by.new.self.items c.in_ok-pieces.ensures c.requires c.in_ok-sort_by.ensures.permutation

pub returns : goal.returns
returns c =
    IfOk-weaker c.lay.result (IsLaid c.sort_by.new.self.items) (IsAssembled c.args.records.items c.args.left.items)
    (λ (nodes : List TreeNode) made. laid_of_gathered c.args.records.items c.args.left.items c.in_ok-pieces.pieces.items c.sort_by.new.self.items nodes c.in_ok-pieces.ensures c.in_ok-sort_by.ensures.permutation made)
    c.lay.ensures
