use Rattle.std.proofs.Common.{arith, length}
use Rattle.lin_bound.proofs.Weights.{block_fits, block_taken}
use Rattle.lin_bound.proofs.wide.weigh.Goals as goal

pub take_row-requires-clause-fits : goal.take_row-requires-clause-fits
take_row-requires-clause-fits c =
    block_fits c.args.problem.now c.args.mult.now _ c.loop-row.row c.args.start (length c.args.weights.now) c.loop-row.weights c.row.result.now c.as_slice-multipliers.result.now
    c.requires.light c.requires.block (omega (arith, c.row_count-row-end.ensures.count, c.loop-row-test.true)) (omega (arith, c.loop-row.auto.weights, c.set_costs.auto.weights)) c.loop-row.invariant
    c.row.ensures.value c.as_slice-multipliers.ensures (c.row.ensures.legal.row_each c.loop-row.row (omega (arith, c.row_count-row-end.ensures.count, c.loop-row-test.true)))

pub loop-row-preserved : goal.loop-row-preserved
loop-row-preserved c =
    block_taken c.args.problem.now c.args.mult.now c.loop-row.row c.args.start (length c.args.weights.now) c.loop-row.weights c.take_row.new.weights c.row.result.now c.as_slice-multipliers.result.now
    (omega (arith, c.loop-row.auto.weights, c.set_costs.auto.weights)) (omega (arith, c.take_row.auto.weights, c.loop-row.auto.weights, c.set_costs.auto.weights)) c.loop-row.invariant
    c.row.ensures.value c.as_slice-multipliers.ensures c.take_row.ensures
