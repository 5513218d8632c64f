use Rattle.std.proofs.Common.{◌≡◌, drop}
use Rattle.version_store.specs.Faults.{is_among}
use Rattle.version_store.proofs.partitioning.is_named.Given as goal

abbrev pub invariant-loop-other : goal.invariant-loop-other
invariant-loop-other l = is_among l.name l.before ≡ is_among l.name (drop l.other-index l.before)
