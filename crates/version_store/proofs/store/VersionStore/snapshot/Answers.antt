use Rattle.std.proofs.Common.{arith}
use Rattle.version_store.proofs.Keeping.{low_within}
use Rattle.version_store.proofs.KeepingAt.{rows_shared}
use Rattle.version_store.proofs.store.VersionStore.snapshot.Goals as goal

pub kept_at-requires-clause-low : goal.kept_at-requires-clause-low
kept_at-requires-clause-low c = omega (arith, low_within c.args.self.now c.version.ensures.accepted, c.version.ensures.value)

pub returns-clause-rows : goal.returns-clause-rows
returns-clause-rows c = rows_shared c.share.result c.kept_at.result.now c.share.ensures c.kept_at.ensures.rows
