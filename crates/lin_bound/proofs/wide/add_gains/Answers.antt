use Rattle.std.proofs.Common.{◌≡◌, ◌+◌, ◌<◌, arith, rules}
use Rattle.std.proofs.lemmas.Int.{to_z-of_z}
use Rattle.std.specs.Prelude.{◌+ℤ◌}
use mir.Syntax.{w128}
use mir.Val.{SFits, to_z}
use Rattle.lin_bound.specs.Sums.{int_at}
use Rattle.lin_bound.specs.Problem.{variables}
use Rattle.lin_bound.specs.Bound.{weight}
use Rattle.lin_bound.proofs.Sizes.{high_small, block_more, parts_fit, fits_small, stored}
use Rattle.lin_bound.proofs.wide.add_gains.Goals as goal

pub gain-total-requires-clause-small : goal.gain-total-requires-clause-small
gain-total-requires-clause-small c =
    let fits : SFits w128 (int_at c.args.weights.now c.loop-place.place) = search rules in
    let weight_is : int_at c.args.weights.now c.loop-place.place ≡ weight c.args.problem.now c.args.mult.now (c.args.start + c.loop-place.place) = c.requires.weights c.loop-place.place c.loop-place-test.true in
    let below : c.args.start + c.loop-place.place < variables c.args.problem.now = omega (arith, c.requires.block, c.loop-place-test.true) in
    simp to_z-of_z (high_small c.args.problem.now c.args.region.now c.args.mult.now c.variables-legal.ensures.legal c.requires.region c.requires.mult (c.args.start + c.loop-place.place) below (int_at c.args.weights.now c.loop-place.place) c.as_slice-high.result.now weight_is c.as_slice-high.ensures)

pub overflow_add-total : goal.overflow_add-total
overflow_add-total c =
    let fits : SFits w128 (int_at c.args.weights.now c.loop-place.place) = search rules in
    let weight_is : int_at c.args.weights.now c.loop-place.place ≡ weight c.args.problem.now c.args.mult.now (c.args.start + c.loop-place.place) = c.requires.weights c.loop-place.place c.loop-place-test.true in
    let below : c.args.start + c.loop-place.place < variables c.args.problem.now = omega (arith, c.requires.block, c.loop-place-test.true) in
    let gain_fits : SFits w128 c.gain-total.result = search rules in
    let gain_is = simp to_z-of_z at c.gain-total.ensures in
    let sum_is = block_more c.args.problem.now c.args.region.now c.args.mult.now c.args.start c.loop-place.place _ (int_at c.args.weights.now c.loop-place.place) c.gain-total.result c.as_slice-low.result.now c.as_slice-high.result.now c.loop-place.invariant weight_is c.as_slice-low.ensures c.as_slice-high.ensures gain_is in
    let sum_fits = fits_small (to_z w128 c.loop-place.total-bits +ℤ c.gain-total.result) (parts_fit c.args.problem.now c.args.region.now c.args.mult.now c.variables-legal.ensures.legal c.requires.region c.requires.mult (c.args.start + (c.loop-place.place + 1)) _ (omega (arith, below)) sum_is) in
    simp to_z-of_z sum_fits

pub loop-place-preserved : goal.loop-place-preserved
loop-place-preserved c =
    let fits : SFits w128 (int_at c.args.weights.now c.loop-place.place) = search rules in
    let weight_is : int_at c.args.weights.now c.loop-place.place ≡ weight c.args.problem.now c.args.mult.now (c.args.start + c.loop-place.place) = c.requires.weights c.loop-place.place c.loop-place-test.true in
    let below : c.args.start + c.loop-place.place < variables c.args.problem.now = omega (arith, c.requires.block, c.loop-place-test.true) in
    let gain_fits : SFits w128 c.gain-total.result = search rules in
    let gain_is = simp to_z-of_z at c.gain-total.ensures in
    let sum_is = block_more c.args.problem.now c.args.region.now c.args.mult.now c.args.start c.loop-place.place _ (int_at c.args.weights.now c.loop-place.place) c.gain-total.result c.as_slice-low.result.now c.as_slice-high.result.now c.loop-place.invariant weight_is c.as_slice-low.ensures c.as_slice-high.ensures gain_is in
    let sum_fits = fits_small (to_z w128 c.loop-place.total-bits +ℤ c.gain-total.result) (parts_fit c.args.problem.now c.args.region.now c.args.mult.now c.variables-legal.ensures.legal c.requires.region c.requires.mult (c.args.start + (c.loop-place.place + 1)) _ (omega (arith, below)) sum_is) in
    stored _ c.gain-total.result _ gain_fits sum_fits sum_is
