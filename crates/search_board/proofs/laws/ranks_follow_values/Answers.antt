use Rattle.search_board.proofs.Ranks.{ranks_follow}
use Rattle.search_board.proofs.laws.ranks_follow_values.Goals as goal

pub returns : goal.returns
returns c = ranks_follow
