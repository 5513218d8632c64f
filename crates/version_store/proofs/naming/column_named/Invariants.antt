use Rattle.std.proofs.Common.{◌≡◌, drop}
use Rattle.version_store.specs.Faults.{column_named}
use Rattle.version_store.proofs.naming.column_named.Given as goal

abbrev pub invariant-loop-column : goal.invariant-loop-column
invariant-loop-column l = column_named l.name l.columns ≡ column_named l.name (drop l.column-index l.columns)
