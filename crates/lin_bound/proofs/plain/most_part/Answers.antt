use Rattle.std.proofs.Common.{arith, refl, mul-le-mul_left}
use Rattle.std.specs.Prelude.{unsigned_abs, pos, ◌*ℤ◌}
use Rattle.std.proofs.lemmas.Int.{ints, to_z-of_z, unsigned_abs-mul}
use mir.Syntax.{w64}
use mir.Val.{SFits}
use Rattle.lin_bound.proofs.Sizes.{part_stored}
use Rattle.lin_bound.proofs.PlainBounds.{greatest_high, greatest_low}
use Rattle.lin_bound.proofs.plain.most_part.Goals as goal

pub returns-then-cost-ge0-clause-value : goal.returns-then-cost-ge0-clause-value
returns-then-cost-ge0-clause-value c =
    let fits : SFits w64 c.args.cost = c.ranges.cost in
    let sign = simp to_z-of_z at c.if-cost-ge0.true in
    part_stored c.args.cost c.args.high _ fits c.requires.count c.requires.small (greatest_high c.args.cost c.args.low c.args.high c.requires.ends (omega (arith, ints, sign)))

pub returns-else-cost-ge0-clause-value : goal.returns-else-cost-ge0-clause-value
returns-else-cost-ge0-clause-value c =
    let fits : SFits w64 c.args.cost = c.ranges.cost in
    let sign = simp to_z-of_z at c.if-cost-ge0.false in
    part_stored c.args.cost c.args.low _ fits (omega arith) (omega (arith, c.requires.small, mul-le-mul_left (unsigned_abs c.args.cost) c.requires.ends)) (greatest_low c.args.cost c.args.low c.args.high c.requires.ends (omega (arith, ints, sign)))

pub returns-else-cost-ge0-clause-small : goal.returns-else-cost-ge0-clause-small
returns-else-cost-ge0-clause-small c =
    let fits : SFits w64 c.args.cost = c.ranges.cost in
    let stored = part_stored c.args.cost c.args.low (c.args.cost *ℤ pos c.args.low) fits (omega arith) (omega (arith, c.requires.small, mul-le-mul_left (unsigned_abs c.args.cost) c.requires.ends)) refl in
    rw stored (omega (arith, unsigned_abs-mul c.args.cost (pos c.args.low), mul-le-mul_left (unsigned_abs c.args.cost) c.requires.ends))
