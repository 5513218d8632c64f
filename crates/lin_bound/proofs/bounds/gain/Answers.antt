use Rattle.std.proofs.Common.{arith, mul-le-mul_left}
use Rattle.std.specs.Prelude.{unsigned_abs}
use Rattle.std.proofs.lemmas.Int.{ints, to_z-of_z}
use mir.Syntax.{w128}
use mir.Val.{SFits}
use Rattle.lin_bound.proofs.Sizes.{gain_stored}
use Rattle.lin_bound.proofs.PlainBounds.{greatest_high, greatest_low}
use Rattle.lin_bound.proofs.bounds.gain.Goals as goal

pub returns-then-each-ge0 : goal.returns-then-each-ge0
returns-then-each-ge0 c =
    let fits : SFits w128 c.args.each = c.ranges.each in
    let sign = simp to_z-of_z at c.if-each-ge0.true in
    gain_stored c.args.each c.from.result c.args.high _ fits c.from.ensures (omega arith) c.requires.small (greatest_high c.args.each c.args.low c.args.high c.requires.ends (omega (arith, ints, sign)))

pub returns-else-each-ge0 : goal.returns-else-each-ge0
returns-else-each-ge0 c =
    let fits : SFits w128 c.args.each = c.ranges.each in
    let sign = simp to_z-of_z at c.if-each-ge0.false in
    gain_stored c.args.each c.from-else-each-ge0.result c.args.low _ fits c.from-else-each-ge0.ensures (omega arith) (omega (arith, c.requires.small, mul-le-mul_left (unsigned_abs c.args.each) c.requires.ends)) (greatest_low c.args.each c.args.low c.args.high c.requires.ends (omega (arith, ints, sign)))
