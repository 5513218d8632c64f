use Rattle.std.specs.Prelude.{◌≡◌}
use Rattle.sub_deque.proofs.tests.steal_all.Given as goal

abbrev pub invariant-loop : goal.invariant-loop
invariant-loop l = l.thief.lane ≡ l.fn.thief.lane
