use Rattle.version_store.proofs.Counting.{counted_history}
use Rattle.version_store.proofs.laws.counted_entries.Goals as goal

pub returns : goal.returns
returns c = counted_history
