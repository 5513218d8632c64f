use Rattle.std.proofs.Common.{arith, refl}
use Rattle.version_store.proofs.CountingTables.{counting_more}
use Rattle.version_store.proofs.totals.count_of.Goals as goal

pub loop-born-preserved : goal.loop-born-preserved
loop-born-preserved c = counting_more c.args.version c.args.versions.now c.loop-born.count c.from-count.result c.loop-born.born-index _ _ c.loop-born.invariant (omega arith) refl c.from-count.ensures
