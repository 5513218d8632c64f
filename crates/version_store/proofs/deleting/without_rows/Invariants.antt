use Rattle.version_store.proofs.Written.{IsLeaving}
use Rattle.version_store.proofs.deleting.without_rows.Given as goal

abbrev pub invariant-loop-place : goal.invariant-loop-place
invariant-loop-place l = IsLeaving l.table l.condition l.entries l.gone l.place
