use Rattle.std.proofs.Common.{◌≡◌}
use Rattle.version_store.specs.Faults.{insert_faults}
use Rattle.version_store.proofs.Steps.{faults_from}
use Rattle.version_store.proofs.inserting.check_rows.Given as goal

abbrev pub invariant-loop-place : goal.invariant-loop-place
invariant-loop-place l = insert_faults l.schema 1 l.rows ≡ faults_from l.schema l.place l.rows
