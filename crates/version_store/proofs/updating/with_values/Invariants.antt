use Rattle.version_store.proofs.Written.{IsWriting}
use Rattle.version_store.proofs.updating.with_values.Given as goal

abbrev pub invariant-loop-place : goal.invariant-loop-place
invariant-loop-place l = IsWriting l.version l.table l.sets l.condition l.entries l.written l.place
