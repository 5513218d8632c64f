use Rattle.std.proofs.Common.{length}
use Rattle.std.specs.Prelude.{int_div, pos}
use Rattle.std.proofs.lemmas.Int.{to_z-of_z}
use mir.Syntax.{w64}
use Rattle.sketch.proofs.Means.{stored_mean, mean_fits}
use Rattle.sketch.proofs.sketching.mean.Goals as goal

pub overflow_cast-result-2 : goal.overflow_cast-result-2
overflow_cast-result-2 c =
    rw (stored_mean c.part_sum-sum.result (length c.args.part.now) c.part_sum-sum.ensures.range c.part_sum-sum.ensures.few)
    (mean_fits c.part_sum-sum.result (length c.args.part.now) c.part_sum-sum.ensures.range)

pub returns : goal.returns
returns c =
    let fits = mean_fits c.part_sum-sum.result (length c.args.part.now) c.part_sum-sum.ensures.range in
    rw (stored_mean c.part_sum-sum.result (length c.args.part.now) c.part_sum-sum.ensures.range c.part_sum-sum.ensures.few, to_z-of_z w64 (int_div c.part_sum-sum.result (pos (length c.args.part.now))) fits, c.part_sum-sum.ensures.value)
