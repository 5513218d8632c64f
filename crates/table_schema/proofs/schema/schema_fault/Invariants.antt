use Rattle.std.proofs.Common.{◌≡◌}
use Rattle.table_schema.specs.Columns.{schema_faults}
use Rattle.table_schema.proofs.ColumnLemmas.{faults_from}
use Rattle.table_schema.proofs.schema.schema_fault.Given as goal

abbrev pub invariant-loop-place : goal.invariant-loop-place
invariant-loop-place l = schema_faults l.columns ≡ faults_from l.place l.columns
