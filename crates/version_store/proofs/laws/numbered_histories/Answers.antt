use Rattle.version_store.proofs.Numbering.{numbered_history}
use Rattle.version_store.proofs.laws.numbered_histories.Goals as goal

pub returns : goal.returns
returns c = numbered_history
