use Rattle.bound_tests.proofs.Worked.{half_closed_balanced, half_closed_partly, half_closed_mults}
use Rattle.bound_tests.proofs.trees.left_of_half_closed.Goals as goal

pub assemble-requires : goal.assemble-requires
assemble-requires c =
    half_closed_balanced _ _ c.in_ok-records.ensures.records c.in_ok-records.ensures.left

pub most_left-requires-clause-parts : goal.most_left-requires-clause-parts
most_left-requires-clause-parts c =
    half_closed_partly c.in_ok-problem.problem _ _ c.in_ok-tree.tree c.in_ok-problem.ensures c.in_ok-records.ensures.records c.in_ok-records.ensures.left c.assembled_partly.ensures c.in_ok-tree.ensures

pub most_left-requires-clause-mults : goal.most_left-requires-clause-mults
most_left-requires-clause-mults c =
    half_closed_mults c.in_ok-problem.problem _ _ c.in_ok-tree.tree c.in_ok-problem.ensures c.in_ok-records.ensures.records c.assembled_legal.ensures c.in_ok-tree.ensures
