use Rattle.std.proofs.Common.{◌≡◌, ◌∷◌, [], ◌++◌, subst, arith}
use Rattle.std.proofs.Common.{ℕ, List, sym}
use Rattle.cert_tree.specs.declared.nodes.TreeNode.{TreeNode}
use Rattle.bound_tests.proofs.Growing.{IsGrowing, one_more, all_there}
use Rattle.bound_tests.proofs.checker.tree_of.Goals as goal

pub loop-line-preserved : goal.loop-line-preserved
loop-line-preserved c =
    let grown = one_more c.loop-line.nodes.items c.in_ok-node.node c.loop-line.trees c.trees_after-trees.result c.trees_after-trees.ensures c.in_ok-node.ensures c.loop-line.invariant in
    let is : c.push.new.self.items ≡ c.loop-line.nodes.items ++ c.in_ok-node.node ∷ [] = c.in_ok-push.ensures.items in
    subst (λ (nodes : List TreeNode). IsGrowing nodes c.trees_after-trees.result) (sym is) grown

pub returns-clause-whole : goal.returns-clause-whole
returns-clause-whole c =
    let none : c.loop-line.trees ≡ 0 = omega arith in
    all_there c.loop-line.nodes.items (subst (λ (trees : ℕ). IsGrowing c.loop-line.nodes.items trees) none c.loop-line.invariant)
