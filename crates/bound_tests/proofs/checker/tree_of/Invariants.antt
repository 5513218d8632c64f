use Rattle.bound_tests.proofs.Growing.{IsGrowing}
use Rattle.bound_tests.proofs.checker.tree_of.Given as goal

abbrev pub invariant-loop-line : goal.invariant-loop-line
invariant-loop-line l = IsGrowing l.nodes.items l.trees
