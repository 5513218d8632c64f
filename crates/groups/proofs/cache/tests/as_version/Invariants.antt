use Rattle.std.proofs.Common.{◌≡◌, take}
use Rattle.groups.proofs.cache.tests.as_version.Given as goal

abbrev pub invariant-loop-table : goal.invariant-loop-table
invariant-loop-table l = l.tables ≡ take l.table-index l.snapshot.tables
