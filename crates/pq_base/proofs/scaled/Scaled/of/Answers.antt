use Rattle.std.proofs.Common.{◌∙◌, ap, ℕ, ◌*◌, ◌^◌, rules, SFits}
use Rattle.std.specs.Int.{w128}
use Rattle.std.proofs.lemmas.Int.{to_z-of_z}
use Rattle.pq_base.proofs.SameNumbers.{same_from_magnitudes}
use Rattle.pq_base.proofs.scaled.Scaled.of.Goals as goal

pub returns : goal.returns
returns c =
    let fits : SFits w128 c.args.mant = c.ranges.mant in
    let magnitude = simp to_z-of_z at c.unsigned_abs.ensures.value in
    let fits_result : SFits w128 c.with_sign_of.result = search rules in
    let sign = simp to_z-of_z at c.with_sign_of.ensures in
    let same = c.without_zeros-magnitude.ensures.same ∙ ap (λ (n : ℕ). n * 10 ^ c.without_zeros-magnitude.result.1) magnitude in
    simp to_z-of_z (rw sign (same_from_magnitudes c.args.mant c.without_zeros-magnitude.result.0 c.args.scale c.without_zeros-magnitude.result.1 same))
