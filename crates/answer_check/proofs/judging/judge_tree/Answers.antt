use Rattle.std.proofs.Common.{sym, subst, List}
use Rattle.std.specs.Prelude.{All}
use Rattle.cert_tree.specs.Multipliers.{HasLegalMult}
use Rattle.cert_tree.specs.declared.nodes.TreeNode.{TreeNode}
use Rattle.answer_check.proofs.Programs.{legal_nodes}
use Rattle.answer_check.proofs.judging.judge_tree.Goals as goal

pub check_nodes-requires-clause-mults : goal.check_nodes-requires-clause-mults
check_nodes-requires-clause-mults c =
    let problem = c.args.problem.now in
    let cert = c.args.cert.now in
    subst (λ (nodes : List TreeNode). All (HasLegalMult problem) nodes) (sym c.as_slice.ensures)
    (legal_nodes problem cert.rows cert.nodes c.requires.shape.rows c.requires.cert.nodes)
