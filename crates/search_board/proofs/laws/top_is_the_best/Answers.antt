use Rattle.search_board.proofs.Ranks.{top_best}
use Rattle.search_board.proofs.laws.top_is_the_best.Goals as goal

pub returns : goal.returns
returns c = top_best
