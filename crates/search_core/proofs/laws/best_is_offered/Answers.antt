use Rattle.search_core.proofs.Histories.{best_is_offered}
use Rattle.search_core.proofs.laws.best_is_offered.Goals as goal

pub returns : goal.returns
returns c = best_is_offered
