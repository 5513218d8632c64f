use Rattle.std.proofs.Common.{arith, refl}
use Rattle.version_store.proofs.Written.{row_asked, writing_more}
use Rattle.version_store.proofs.updating.with_values.Goals as goal

pub eval-meets-requires-clause-fits : goal.eval-meets-requires-clause-fits
eval-meets-requires-clause-fits c = row_asked c.args.table.now c.args.condition.now c.rows-rows.result.now c.loop-place.place c.index-rows-place.result c.as_slice.result.now c.requires.rows c.requires.asked c.rows-rows.ensures (omega arith) c.index-rows-place.is c.as_slice.ensures

pub loop-place-preserved : goal.loop-place-preserved
loop-place-preserved c =
    writing_more c.args.version c.args.table.now c.args.sets.now c.args.condition.now c.rows-rows.result.now c.versions-versions.result.now c.loop-place.entries c.push.new.self c.loop-place.written c.from.result c.loop-place.place c.index-rows-place.result c.as_slice.result.now c.in_ok-cells.cells c.eval-meets.result _ c.born_anew-born.result _
    c.loop-place.invariant c.rows-rows.ensures c.versions-versions.ensures (omega arith) c.index-rows-place.is refl c.as_slice.ensures c.eval-meets.ensures c.in_ok-cells.ensures c.born_anew-born.ensures c.in_ok-push.ensures.ok c.from.ensures
