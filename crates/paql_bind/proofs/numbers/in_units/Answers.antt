-- A product with at most 10 to the power of 6.
use Rattle.std.proofs.Common.{◌≤◌, ◌^◌, rules, SFits, lit<}
use Rattle.std.specs.Int.{w128}
use Rattle.std.specs.Prelude.{◌*ℤ◌, unsigned_abs}
use Rattle.std.proofs.lemmas.Int.{unsigned_abs-mul, fits_signed_mul, to_z-of_z}
use Rattle.std.proofs.Math.Nat.{mul-le-mul_left}
use Rattle.paql_bind.proofs.numbers.in_units.Goals as goal

pub returns-clause-small : goal.returns-clause-small
returns-clause-small c =
    let number_fits : SFits w128 c.args.number = search rules in
    let unit_fits : SFits w128 c.from.result = search rules in
    let unit_small : unsigned_abs c.from.result ≤ 10 ^ 6 = search rules in
    let fits : SFits w128 (c.args.number *ℤ c.from.result) = fits_signed_mul w128 c.args.number c.from.result (10 ^ 12) (10 ^ 6) c.requires.number unit_small (lit< tt) in
    simp to_z-of_z (rw (unsigned_abs-mul c.args.number c.from.result) (mul-le-mul_left (unsigned_abs c.args.number) unit_small))
