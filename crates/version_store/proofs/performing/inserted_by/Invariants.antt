use Rattle.std.proofs.Common.{◌≡◌, ◌+◌, drop}
use Rattle.version_store.specs.Histories.{insert_count}
use Rattle.version_store.proofs.performing.inserted_by.Given as goal

abbrev pub invariant-loop-change : goal.invariant-loop-change
invariant-loop-change l = insert_count l.changes ≡ l.count + insert_count (drop l.change-index l.changes)
