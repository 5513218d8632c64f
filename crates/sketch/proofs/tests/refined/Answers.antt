use Rattle.std.proofs.Common.{◌≤◌, ◌^◌, refl}
use Rattle.std.specs.Prelude.{unsigned_abs}
use mir.Syntax.{w128}
use mir.Val.{to_z, of_z}
use Rattle.std.proofs.lemmas.Int.{to_z-of_z}
use Rattle.sketch.proofs.WorkedLemmas.{one_small}
use Rattle.sketch.proofs.tests.refined.Goals as goal

pub refine_problem-requires-clause-part : goal.refine_problem-requires-clause-part
refine_problem-requires-clause-part c = rw c.in_ok-problem.ensures c.requires.part

pub refine_problem-requires-clause-each : goal.refine_problem-requires-clause-each
refine_problem-requires-clause-each c = rw c.in_ok-problem.ensures refl

pub refine_problem-requires-clause-small : goal.refine_problem-requires-clause-small
refine_problem-requires-clause-small c =
    let small : unsigned_abs (to_z w128 (of_z w128 c.args.others)) ≤ 2 ^ 100 = rw (to_z-of_z w128 c.args.others c.ranges.others) c.requires.small in
    one_small (to_z w128 (of_z w128 c.args.others)) small
