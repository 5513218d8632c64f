use Rattle.std.proofs.Common.{◌≡◌, drop}
use Rattle.snapshots.specs.States.{table_named}
use Rattle.snapshots.proofs.snapshot.Snapshot.table.Given as goal

abbrev pub invariant-loop-table : goal.invariant-loop-table
invariant-loop-table l = table_named l.name l.tables ≡ table_named l.name (drop l.table-index l.tables)
