use Rattle.search_core.proofs.Histories.{splits_were_open}
use Rattle.search_core.proofs.laws.splits_were_open.Goals as goal

pub returns : goal.returns
returns c = splits_were_open
