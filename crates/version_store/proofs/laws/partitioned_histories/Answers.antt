use Rattle.version_store.proofs.Allowing.{partitioned_history}
use Rattle.version_store.proofs.laws.partitioned_histories.Goals as goal

pub returns : goal.returns
returns c = partitioned_history
