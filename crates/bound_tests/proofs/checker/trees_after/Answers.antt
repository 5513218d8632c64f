use Rattle.bound_tests.proofs.Growing.{split_counts, leaf_counts, open_counts}
use Rattle.bound_tests.proofs.checker.trees_after.Goals as goal

pub returns-in-Split : goal.returns-in-Split
returns-in-Split c = λ rest whole. rw c.in-Split.is (split_counts c.args.trees c.in-Split.var c.in-Split.at c.in-Split.mult c.requires.some rest whole)

pub returns-in-Leaf : goal.returns-in-Leaf
returns-in-Leaf c = λ rest whole. rw c.in-Leaf.is (leaf_counts c.args.trees c.in-Leaf.field-0 c.requires.some rest whole)

pub returns-in-Open : goal.returns-in-Open
returns-in-Open c = λ rest whole. rw c.in-Open.is (open_counts c.args.trees c.requires.some rest whole)
