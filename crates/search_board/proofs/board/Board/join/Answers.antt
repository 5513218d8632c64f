use Rattle.std.proofs.Common.{rules}
use Rattle.search_board.proofs.Seats.{joins}
use Rattle.search_board.proofs.board.Board.join.Goals as goal

pub join_seat-requires : goal.join_seat-requires
join_seat-requires c = (search rules, search rules, c.from.invariant.0, search rules, joins _ _ _ _ _ c.into.invariant.1)
