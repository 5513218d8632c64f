use Rattle.std.proofs.Common.{◌≡◌, take}
use Rattle.snapshots.specs.States.{schemas_of}
use Rattle.snapshots.proofs.snapshot.copied_schemas.Given as goal

abbrev pub invariant-loop-shared : goal.invariant-loop-shared
invariant-loop-shared l = l.copy.items ≡ schemas_of (take l.shared-index l.tables)
