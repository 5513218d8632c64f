use Rattle.std.proofs.Common.{◌≡◌, arith, rules}
use Rattle.std.specs.Prelude.{pos, ◌-ℤ◌, ◌*ℤ◌}
use Rattle.std.proofs.lemmas.Int.{to_z-of_z}
use mir.Syntax.{w128}
use mir.Val.{SFits}
use Rattle.lin_bound.specs.Sums.{int_at}
use Rattle.lin_bound.proofs.Weights.{take_more}
use Rattle.lin_bound.proofs.wide.take_row.Goals as goal

pub loop-place-preserved : goal.loop-place-preserved
loop-place-preserved c =
    let fits : SFits w128 c.less.result = search rules in
    let next_is : c.less.result ≡ int_at c.loop-place.weights c.loop-place.place -ℤ (pos c.args.multiplier *ℤ int_at c.args.coefficients.now c.loop-place.place) = search rules in
    simp to_z-of_z (take_more c.args.weights.now c.loop-place.weights c.args.multiplier c.args.coefficients.now c.loop-place.place c.less.result (omega arith) next_is c.loop-place.invariant)
