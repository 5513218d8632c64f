use Rattle.search_board.proofs.Ranks.{none_offered}
use Rattle.search_board.proofs.laws.none_is_no_offer.Goals as goal

pub returns : goal.returns
returns c = none_offered
