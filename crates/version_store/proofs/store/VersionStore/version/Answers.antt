use Rattle.std.proofs.Common.{arith}
use Rattle.version_store.proofs.Keeping.{few_versions}
use Rattle.version_store.proofs.store.VersionStore.version.Goals as goal

pub returns-clause-few : goal.returns-clause-few
returns-clause-few c = omega (arith, few_versions c.self.inside.commits.items c.self.invariant.accepted)
