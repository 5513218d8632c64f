use Rattle.std.proofs.Common.{refl, ◌^◌, rules, SFits, w64, lit<}
use Rattle.std.specs.Prelude.{◌*ℤ◌}
use Rattle.std.specs.Int.{w128}
use Rattle.std.proofs.lemmas.Int.{to_z-of_z, fits_signed_mul}
use Rattle.groups.proofs.NumberLemmas.{quotient_fits, product_small, ten_to_some}
use Rattle.groups.proofs.radii.radius_in.Goals as goal

pub div_euclid-requires-clause-nonzero : goal.div_euclid-requires-clause-nonzero
div_euclid-requires-clause-nonzero c =
    let fits : SFits w128 c.tens-2.result = search rules in
    simp to_z-of_z (rw c.tens-2.ensures.value (ten_to_some c.args.radius.scale))

pub overflow_cast-result : goal.overflow_cast-result
overflow_cast-result c =
    let mant_fits : SFits w128 c.args.radius.mant = search rules in
    let unit_fits : SFits w128 c.tens.result = search rules in
    let other_fits : SFits w128 c.tens-2.result = search rules in
    let product_fits : SFits w128 (c.args.radius.mant *ℤ c.tens.result) = fits_signed_mul w128 c.args.radius.mant c.tens.result (10 ^ 12) (10 ^ 6) c.requires.near c.tens.ensures.small (lit< tt) in
    let result_fits : SFits w128 c.div_euclid.result = search rules in
    let is = simp to_z-of_z at c.div_euclid.ensures in
    simp to_z-of_z (rw (is, c.tens-2.ensures.value) (quotient_fits (c.args.radius.mant *ℤ c.tens.result) (10 ^ c.args.radius.scale) (product_small c.args.radius.mant c.tens.result c.requires.near c.tens.ensures.small)))

pub returns : goal.returns
returns c =
    let mant_fits : SFits w128 c.args.radius.mant = search rules in
    let unit_fits : SFits w128 c.tens.result = search rules in
    let other_fits : SFits w128 c.tens-2.result = search rules in
    let product_fits : SFits w128 (c.args.radius.mant *ℤ c.tens.result) = fits_signed_mul w128 c.args.radius.mant c.tens.result (10 ^ 12) (10 ^ 6) c.requires.near c.tens.ensures.small (lit< tt) in
    let result_fits : SFits w128 c.div_euclid.result = search rules in
    let is = simp to_z-of_z at c.div_euclid.ensures in
    let small : SFits w64 c.div_euclid.result = rw (is, c.tens-2.ensures.value) (quotient_fits (c.args.radius.mant *ℤ c.tens.result) (10 ^ c.args.radius.scale) (product_small c.args.radius.mant c.tens.result c.requires.near c.tens.ensures.small)) in
    simp to_z-of_z (rw (is, c.tens.ensures.value, c.tens-2.ensures.value, c.scale_of.ensures.value) refl)
