use Rattle.std.proofs.Common.{◌+◌, arith, add-one}
use Rattle.sketch.proofs.Sketches.{uppers_small}
use Rattle.sketch.proofs.sketching.upper_sum.Goals as goal

pub overflow_add-sum : goal.overflow_add-sum
overflow_add-sum c =
    let small = rw add-one at (uppers_small c.args.problem.now c.args.part.now c.requires.even c.requires.part (c.loop-member.member-index + 1) (omega arith)) in
    omega (arith, small, c.loop-member.invariant, c.upper-sum.ensures.value)
