use Rattle.std.proofs.Common.{◌≡◌, ◌+◌, drop}
use Rattle.version_store.specs.Counts.{written_in}
use Rattle.version_store.proofs.totals.written_in.Given as goal

abbrev pub invariant-loop-table : goal.invariant-loop-table
invariant-loop-table l = written_in l.version l.tables ≡ l.count + written_in l.version (drop l.table-index l.tables)
