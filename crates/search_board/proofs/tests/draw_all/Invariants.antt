use Rattle.std.specs.Prelude.{◌≡◌}
use Rattle.search_board.proofs.tests.draw_all.Given as goal

abbrev pub invariant-loop : goal.invariant-loop
invariant-loop g l = l.seat.board ≡ l.board
