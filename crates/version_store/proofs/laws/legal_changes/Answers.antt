use Rattle.version_store.proofs.Legally.{legal_change}
use Rattle.version_store.proofs.laws.legal_changes.Goals as goal

pub returns : goal.returns
returns c = legal_change
