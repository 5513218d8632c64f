use Rattle.std.proofs.Common.{rules, ◌≡◌, ◌+◌, arith}
use Rattle.std.specs.Prelude.{pos, ◌*ℤ◌}
use Rattle.std.proofs.lemmas.Int.{to_z-of_z}
use mir.Syntax.{w128}
use mir.Val.{SFits}
use Rattle.lin_bound.specs.Sums.{int_at, nat_at}
use Rattle.lin_bound.proofs.Values.{value_more, value_fits_wide}
use Rattle.lin_bound.proofs.Sizes.{stored}
use Rattle.lin_bound.proofs.points.value_of.Goals as goal

pub overflow_add-total : goal.overflow_add-total
overflow_add-total c =
    let fits : SFits w128 c.part-total.result = search rules in
    let part_is : c.part-total.result ≡ int_at c.args.coefficients.now c.loop-place.place *ℤ pos (nat_at c.args.counts.now c.loop-place.place) = search rules in
    let sum_is = value_more c.args.coefficients.now c.args.counts.now c.loop-place.place _ c.part-total.result c.loop-place.invariant part_is in
    simp to_z-of_z (value_fits_wide c.args.coefficients.now c.args.counts.now _ (c.loop-place.place + 1) _ c.requires.small (omega arith) sum_is)

pub loop-place-preserved : goal.loop-place-preserved
loop-place-preserved c =
    let fits : SFits w128 c.part-total.result = search rules in
    let part_is : c.part-total.result ≡ int_at c.args.coefficients.now c.loop-place.place *ℤ pos (nat_at c.args.counts.now c.loop-place.place) = search rules in
    let sum_is = value_more c.args.coefficients.now c.args.counts.now c.loop-place.place _ c.part-total.result c.loop-place.invariant part_is in
    stored _ c.part-total.result _ fits (value_fits_wide c.args.coefficients.now c.args.counts.now _ (c.loop-place.place + 1) _ c.requires.small (omega arith) sum_is) sum_is
