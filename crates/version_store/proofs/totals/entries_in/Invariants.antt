use Rattle.std.proofs.Common.{◌≡◌, ◌+◌, drop}
use Rattle.version_store.specs.Counts.{entries_in}
use Rattle.version_store.proofs.totals.entries_in.Given as goal

abbrev pub invariant-loop-table : goal.invariant-loop-table
invariant-loop-table l = entries_in l.tables ≡ l.count + entries_in (drop l.table-index l.tables)
