use Rattle.std.proofs.Common.{arith, refl, mul-le-mul_left}
use Rattle.std.specs.Prelude.{unsigned_abs, pos, ◌*ℤ◌}
use Rattle.std.proofs.lemmas.Int.{ints, to_z-of_z, unsigned_abs-mul}
use mir.Syntax.{w64}
use mir.Val.{SFits}
use Rattle.lin_bound.proofs.Sizes.{part_stored}
use Rattle.lin_bound.proofs.PlainBounds.{least_low, least_high}
use Rattle.lin_bound.proofs.plain.least_part.Goals as goal

pub returns-then-coefficient-ge0-clause-value : goal.returns-then-coefficient-ge0-clause-value
returns-then-coefficient-ge0-clause-value c =
    let fits : SFits w64 c.args.coefficient = c.ranges.coefficient in
    let sign = simp to_z-of_z at c.if-coefficient-ge0.true in
    part_stored c.args.coefficient c.args.low _ fits (omega arith) (omega (arith, c.requires.small, mul-le-mul_left (unsigned_abs c.args.coefficient) c.requires.ends)) (least_low c.args.coefficient c.args.low c.args.high c.requires.ends (omega (arith, ints, sign)))

pub returns-then-coefficient-ge0-clause-small : goal.returns-then-coefficient-ge0-clause-small
returns-then-coefficient-ge0-clause-small c =
    let fits : SFits w64 c.args.coefficient = c.ranges.coefficient in
    let stored = part_stored c.args.coefficient c.args.low (c.args.coefficient *ℤ pos c.args.low) fits (omega arith) (omega (arith, c.requires.small, mul-le-mul_left (unsigned_abs c.args.coefficient) c.requires.ends)) refl in
    rw stored (omega (arith, unsigned_abs-mul c.args.coefficient (pos c.args.low), mul-le-mul_left (unsigned_abs c.args.coefficient) c.requires.ends))

pub returns-else-coefficient-ge0-clause-value : goal.returns-else-coefficient-ge0-clause-value
returns-else-coefficient-ge0-clause-value c =
    let fits : SFits w64 c.args.coefficient = c.ranges.coefficient in
    let sign = simp to_z-of_z at c.if-coefficient-ge0.false in
    part_stored c.args.coefficient c.args.high _ fits c.requires.count c.requires.small (least_high c.args.coefficient c.args.low c.args.high c.requires.ends (omega (arith, ints, sign)))
