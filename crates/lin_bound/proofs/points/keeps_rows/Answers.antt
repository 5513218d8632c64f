use Rattle.std.proofs.Common.{arith}
use Rattle.lin_bound.proofs.Values.{light_is_small}
use Rattle.lin_bound.proofs.points.keeps_rows.Goals as goal

pub value_of-requires-clause-small : goal.value_of-requires-clause-small
value_of-requires-clause-small c =
    light_is_small c.args.problem.now c.row.result.now _ c.counts.result.now _ c.row.ensures.value c.counts.ensures (c.row.ensures.legal.row_loads c.loop-row.row (omega arith)) c.requires.each c.requires.within
