use Rattle.std.proofs.Common.{arith}
use Rattle.version_store.specs.Faults.{change_faults}
use Rattle.version_store.proofs.PerformingAll.{performing_done, performing_more, performing_refused}
use Rattle.version_store.proofs.performing.perform_all.Goals as goal

pub returns-in-Err : goal.returns-in-Err
returns-in-Err c = performing_refused c.args.high c.args.version c.args.draft.now c.loop-place.draft c.args.changes.now c.loop-place.rows c.loop-place.place c.index-changes-place.result c.of_change.result c.loop-place.invariant (omega arith) c.index-changes-place.is (c.of_change.ensures (change_faults c.args.high c.loop-place.draft c.index-changes-place.result) c.in-Err.ensures)

pub loop-place-preserved : goal.loop-place-preserved
loop-place-preserved c = performing_more c.args.high c.args.version c.args.draft.now c.loop-place.draft c.perform.new.self c.args.changes.now c.loop-place.rows c.loop-place.place c.index-changes-place.result c.in-Ok.count c.saturating_add-rows.result c.loop-place.invariant c.requires.columns (omega arith) c.index-changes-place.is c.in-Ok.ensures c.saturating_add-rows.ensures

pub returns : goal.returns
returns c = performing_done c.args.high c.args.version c.args.draft.now c.loop-place.draft c.args.changes.now c.loop-place.rows c.loop-place.place c.loop-place.invariant (omega arith)
