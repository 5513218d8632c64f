use Rattle.std.proofs.Common.{◌∙◌, arith, ap, rules, SFits, w64, ℕ, min, ◌*◌, ◌^◌, ◌+◌, ◌-◌}
use Rattle.std.specs.Int.{w128}
use Rattle.std.proofs.lemmas.Int.{to_z-of_z}
use Rattle.pq_base.proofs.SameNumbers.{no_units, units_in_range, units_out_of_range}
use Rattle.pq_base.proofs.scaled.Scaled.units.Goals as goal

pub returns-then-scale-self : goal.returns-then-scale-self
returns-then-scale-self c = λ units same.
    let number = c.args.self.now in
    no_units number.mant units number.scale c.args.scale (omega arith) (number.shortest (omega arith)) same

pub returns-then-magnitude-gt-MOST_UNITS : goal.returns-then-magnitude-gt-MOST_UNITS
returns-then-magnitude-gt-MOST_UNITS c =
    let number = c.args.self.now in
    let fits : SFits w128 number.mant = search rules in
    let magnitude = simp to_z-of_z at c.capped_magnitude.ensures in
    let tens = c.times_tens-magnitude.ensures ∙ ap (λ (n : ℕ). min (n * 10 ^ (c.args.scale - number.scale)) (10 ^ 12 + 1)) magnitude in
    units_out_of_range number.mant number.scale c.args.scale c.times_tens-magnitude.result (omega arith) tens (omega arith)

pub returns : goal.returns
returns c =
    let number = c.args.self.now in
    let fits : SFits w128 number.mant = search rules in
    let magnitude = simp to_z-of_z at c.capped_magnitude.ensures in
    let tens = c.times_tens-magnitude.ensures ∙ ap (λ (n : ℕ). min (n * 10 ^ (c.args.scale - number.scale)) (10 ^ 12 + 1)) magnitude in
    let found = units_in_range number.mant number.scale c.args.scale c.times_tens-magnitude.result (omega arith) tens (omega arith) in
    let fits_units : SFits w64 c.units_with_sign_of.result = search rules in
    let sign = simp to_z-of_z at c.units_with_sign_of.ensures in
    simp to_z-of_z (rw sign found)
