use Rattle.cert_tree.specs.Records.{IsBalanced}
use Rattle.bound_tests.proofs.trees.tree_of.Given as goal

abbrev pub invariant-loop-step : goal.invariant-loop-step
invariant-loop-step l = IsBalanced l.records.items l.left.items
