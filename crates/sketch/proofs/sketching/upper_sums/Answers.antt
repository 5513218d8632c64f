use Rattle.sketch.proofs.Sketches.{item_is_part}
use Rattle.sketch.proofs.sketching.upper_sums.Goals as goal

pub upper_sum-requires-clause-part : goal.upper_sum-requires-clause-part
upper_sum-requires-clause-part c =
    item_is_part c.args.problem.now c.args.parts.now c.loop-part.part-index c.part-item.result c.as_slice.result.now c.requires.parts c.loop-part-test.true c.part-item.is c.as_slice.ensures
