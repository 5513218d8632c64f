use Rattle.std.proofs.Common.{arith}
use Rattle.version_store.proofs.Keeping.{low_within}
use Rattle.version_store.proofs.store.VersionStore.low.Goals as goal

pub returns-clause-within : goal.returns-clause-within
returns-clause-within c = rw (← c.self.view_is) (omega (arith, c.self.invariant.low, low_within c.self.inside.commits.items c.self.invariant.accepted))
