use Rattle.std.proofs.Common.{rules}
use Rattle.search_board.proofs.Seats.{splits}
use Rattle.search_board.proofs.board.Board.split.Goals as goal

pub split_seat-requires : goal.split_seat-requires
split_seat-requires c = (search rules, search rules, splits _ _ _ (search rules))
