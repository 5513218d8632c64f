use Rattle.std.proofs.Common.{arith, refl}
use Rattle.version_store.proofs.Written.{leaving_more, row_asked}
use Rattle.version_store.proofs.deleting.without_rows.Goals as goal

pub eval-goes-requires-clause-fits : goal.eval-goes-requires-clause-fits
eval-goes-requires-clause-fits c = row_asked c.args.table.now c.args.condition.now c.rows-rows.result.now c.loop-place.place c.index-rows-place.result c.as_slice.result.now c.requires.rows c.requires.asked c.rows-rows.ensures (omega arith) c.index-rows-place.is c.as_slice.ensures

pub loop-place-preserved : goal.loop-place-preserved
loop-place-preserved c =
    leaving_more c.args.table.now c.args.condition.now c.rows-rows.result.now c.versions-versions.result.now c.loop-place.entries c.push_unless.new.entries c.loop-place.gone c.from.result c.loop-place.place c.index-rows-place.result c.as_slice.result.now c.eval-goes.result _ _
    c.loop-place.invariant c.rows-rows.ensures c.versions-versions.ensures (omega arith) c.index-rows-place.is refl c.as_slice.ensures c.eval-goes.ensures c.in_ok-push_unless.ensures c.from.ensures
