use Rattle.std.specs.Prelude.{◌≡◌}
use Rattle.sub_deque.proofs.tests.take_turns.Given as goal

abbrev pub invariant-loop : goal.invariant-loop
invariant-loop l = l.seat.board ≡ l.board
