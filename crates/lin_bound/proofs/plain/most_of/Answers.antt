use Rattle.std.proofs.Common.{◌+◌, ◌<◌, ◌≤◌, arith, rules}
use Rattle.std.proofs.lemmas.Int.{to_z-of_z}
use Rattle.std.specs.Prelude.{◌+ℤ◌}
use mir.Syntax.{w64}
use mir.Val.{SFits, to_z}
use Rattle.lin_bound.specs.Sums.{int_at, nat_at}
use Rattle.lin_bound.specs.Problem.{variables}
use Rattle.lin_bound.proofs.Sizes.{stored_narrow}
use Rattle.lin_bound.proofs.PlainBounds.{part_light, load_more, load_fits, greatest_more}
use Rattle.lin_bound.proofs.plain.most_of.Goals as goal

pub most_part-total-requires-clause-small : goal.most_part-total-requires-clause-small
most_part-total-requires-clause-small c =
    let fits : SFits w64 (int_at c.args.coefficients.now c.loop-variable.variable) = search rules in
    let below : c.loop-variable.variable < variables c.args.problem.now = omega (arith, c.variables-variable-end.ensures.count, c.loop-variable-test.true) in
    let within : nat_at c.as_slice-high.result.now c.loop-variable.variable ≤ nat_at c.args.problem.now.upper c.loop-variable.variable = rw c.as_slice-high.ensures (c.requires.region.within c.loop-variable.variable below) in
    simp to_z-of_z (part_light c.args.problem.now.upper c.args.coefficients.now c.loop-variable.variable (variables c.args.problem.now) (nat_at c.as_slice-high.result.now c.loop-variable.variable) below within c.requires.light)

pub overflow_add-total : goal.overflow_add-total
overflow_add-total c =
    let fits : SFits w64 (int_at c.args.coefficients.now c.loop-variable.variable) = search rules in
    let below : c.loop-variable.variable < variables c.args.problem.now = omega (arith, c.variables-variable-end.ensures.count, c.loop-variable-test.true) in
    let within : nat_at c.as_slice-high.result.now c.loop-variable.variable ≤ nat_at c.args.problem.now.upper c.loop-variable.variable = rw c.as_slice-high.ensures (c.requires.region.within c.loop-variable.variable below) in
    let part_fits : SFits w64 c.most_part-total.result = search rules in
    let part_is = simp to_z-of_z at c.most_part-total.ensures.value in
    let total = to_z w64 c.loop-variable.total-bits in
    let part_small = simp to_z-of_z at c.most_part-total.ensures.small in
    let small = load_more c.args.problem.now.upper c.args.coefficients.now c.loop-variable.variable (nat_at c.as_slice-high.result.now c.loop-variable.variable) total c.most_part-total.result c.loop-variable.invariant.1 part_small within in
    let sum_fits = load_fits c.args.problem.now.upper c.args.coefficients.now (c.loop-variable.variable + 1) (variables c.args.problem.now) (total +ℤ c.most_part-total.result) (omega (arith, below)) small c.requires.light in
    simp to_z-of_z sum_fits

pub loop-variable-preserved : goal.loop-variable-preserved
loop-variable-preserved c =
    let fits : SFits w64 (int_at c.args.coefficients.now c.loop-variable.variable) = search rules in
    let below : c.loop-variable.variable < variables c.args.problem.now = omega (arith, c.variables-variable-end.ensures.count, c.loop-variable-test.true) in
    let within : nat_at c.as_slice-high.result.now c.loop-variable.variable ≤ nat_at c.args.problem.now.upper c.loop-variable.variable = rw c.as_slice-high.ensures (c.requires.region.within c.loop-variable.variable below) in
    let part_fits : SFits w64 c.most_part-total.result = search rules in
    let part_is = simp to_z-of_z at c.most_part-total.ensures.value in
    let total = to_z w64 c.loop-variable.total-bits in
    let part_small = simp to_z-of_z at c.most_part-total.ensures.small in
    let small = load_more c.args.problem.now.upper c.args.coefficients.now c.loop-variable.variable (nat_at c.as_slice-high.result.now c.loop-variable.variable) total c.most_part-total.result c.loop-variable.invariant.1 part_small within in
    let sum_fits = load_fits c.args.problem.now.upper c.args.coefficients.now (c.loop-variable.variable + 1) (variables c.args.problem.now) (total +ℤ c.most_part-total.result) (omega (arith, below)) small c.requires.light in
    let sum_is = greatest_more c.args.coefficients.now c.args.region.now c.loop-variable.variable _ c.most_part-total.result c.as_slice-low.result.now c.as_slice-high.result.now c.loop-variable.invariant.0 c.as_slice-low.ensures c.as_slice-high.ensures part_is in (
      stored_narrow _ c.most_part-total.result _ part_fits sum_fits sum_is,
      simp to_z-of_z small,
    )
