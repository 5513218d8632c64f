use Rattle.version_store.proofs.PerformingAll.{IsPerforming}
use Rattle.version_store.proofs.performing.perform_all.Given as goal

abbrev pub invariant-loop-place : goal.invariant-loop-place
invariant-loop-place l = IsPerforming l.high l.version l.fn.draft l.draft l.changes l.rows l.place
