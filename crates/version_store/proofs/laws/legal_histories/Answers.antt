use Rattle.version_store.proofs.Legally.{legal_history}
use Rattle.version_store.proofs.laws.legal_histories.Goals as goal

pub returns : goal.returns
returns c = legal_history
