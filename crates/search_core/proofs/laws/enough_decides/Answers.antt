use Rattle.search_core.proofs.Ending.{enough_decides}
use Rattle.search_core.proofs.laws.enough_decides.Goals as goal

pub returns : goal.returns
returns c = enough_decides
