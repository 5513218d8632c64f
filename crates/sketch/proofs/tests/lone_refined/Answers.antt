use Rattle.std.proofs.Common.{refl, arith}
use Rattle.sketch.proofs.WorkedLemmas.{one_parts, none_small}
use Rattle.sketch.proofs.Cuts.{each_is_part}
use Rattle.sketch.specs.Worked.{lone, one_part}
use Rattle.sketch.proofs.tests.lone_refined.Goals as goal

pub refine_problem-requires-clause-part : goal.refine_problem-requires-clause-part
refine_problem-requires-clause-part c = rw c.in_ok-problem.ensures (each_is_part lone one_part 0 one_parts (omega arith))

pub refine_problem-requires-clause-each : goal.refine_problem-requires-clause-each
refine_problem-requires-clause-each c = rw c.in_ok-problem.ensures refl

pub refine_problem-requires-clause-small : goal.refine_problem-requires-clause-small
refine_problem-requires-clause-small c = none_small
