-- The products fit, and are those of the numbers.
use Rattle.std.proofs.Common.{◌*ℤ◌, rules, SFits}
use Rattle.std.proofs.lemmas.Int.{to_z-of_z}
use Rattle.bound_query.proofs.Truths.{scaled_fits}
use Rattle.bound_query.proofs.truth.order_of_numbers.Goals as goal
use mir.Syntax.{w128}

pub overflow_mul-left : goal.overflow_mul-left
overflow_mul-left c =
    let mant = c.ranges.mant in
    let power : SFits w128 c.power_of_ten.result = search rules in
    simp to_z-of_z (scaled_fits c.args.mant c.power_of_ten.result c.args.places c.requires.mant c.requires.places c.power_of_ten.ensures)

pub overflow_mul-right : goal.overflow_mul-right
overflow_mul-right c =
    let other = c.ranges.other in
    let power : SFits w128 c.power_of_ten-2.result = search rules in
    simp to_z-of_z (scaled_fits c.args.other c.power_of_ten-2.result c.args.scale c.requires.other c.requires.scale c.power_of_ten-2.ensures)

pub returns : goal.returns
returns c =
    let mant = c.ranges.mant in
    let other = c.ranges.other in
    let power : SFits w128 c.power_of_ten.result = search rules in
    let power_2 : SFits w128 c.power_of_ten-2.result = search rules in
    let left : SFits w128 (c.args.mant *ℤ c.power_of_ten.result) = scaled_fits c.args.mant c.power_of_ten.result c.args.places c.requires.mant c.requires.places c.power_of_ten.ensures in
    let right : SFits w128 (c.args.other *ℤ c.power_of_ten-2.result) = scaled_fits c.args.other c.power_of_ten-2.result c.args.scale c.requires.other c.requires.scale c.power_of_ten-2.ensures in
    simp (c.power_of_ten.ensures, c.power_of_ten-2.ensures) at (simp to_z-of_z at c.cmp.ensures)
