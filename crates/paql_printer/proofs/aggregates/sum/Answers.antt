-- One term more, after its sign.
use Rattle.std.proofs.Common.{arith}
use Rattle.paql_printer.proofs.ListLemmas.{sum_step}
use Rattle.paql_printer.proofs.aggregates.sum.Goals as goal

pub loop-at-preserved : goal.loop-at-preserved
loop-at-preserved c =
    sum_step c.args.package.now c.args.writer.now c.loop-at.writer c.sign.new.writer c.term.new.writer c.args.items.now c.loop-at.at c.index-items-at.result (omega arith) c.loop-at.invariant c.index-items-at.is c.in_ok-sign.ensures c.in_ok-term.ensures
