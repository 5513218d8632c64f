use Rattle.std.proofs.Common.{◌≡◌, ◌+◌, drop}
use Rattle.version_store.specs.Keeping.{fresh_in}
use Rattle.version_store.proofs.versions.fresh_in.Given as goal

abbrev pub invariant-loop-one : goal.invariant-loop-one
invariant-loop-one l = fresh_in l.kept ≡ l.count + fresh_in (drop l.one-index l.kept)
