use Rattle.std.proofs.Common.{arith}
use Rattle.groups.proofs.WorkedLemmas.{worked_more}
use Rattle.groups.proofs.tests.entries.Goals as goal

pub loop-units-preserved : goal.loop-units-preserved
loop-units-preserved c =
    let value = c.unsigned_abs.ensures.value in
    let few = c.if-unsigned_abs-gt1000000000000.false in
    worked_more c.loop-units.list c.loop-units.units-index _ _ _ c.in_ok-row.field-0 c.push.new.self c.loop-units.invariant c.in_ok-row.ensures c.in_ok-push.ensures.ok (omega (arith, value, few))
