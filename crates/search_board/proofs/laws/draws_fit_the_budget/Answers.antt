use Rattle.search_board.proofs.Ranks.{draws_fit}
use Rattle.search_board.proofs.laws.draws_fit_the_budget.Goals as goal

pub returns : goal.returns
returns c = draws_fit
