use Rattle.std.proofs.Common.{subst, sym}
use Rattle.snapshots.specs.declared.snapshot.Snapshot.{Snapshot}
use Rattle.version_store.specs.Laws.{HaveRows}
use Rattle.version_store.proofs.store.VersionStore.snapshot_at.Goals as goal

pub returns-in-Ok-clause-rows : goal.returns-in-Ok-clause-rows
returns-in-Ok-clause-rows c = subst (λ (some : Snapshot). HaveRows some.tables) (sym c.in-Ok.ensures) c.kept_at.ensures.rows
