use Rattle.std.specs.Prelude.{◌≡◌}
use Rattle.sub_deque.proofs.tests.push_all.Given as goal

abbrev pub invariant-loop-at : goal.invariant-loop-at
invariant-loop-at l = l.owner.lane ≡ l.fn.owner.lane
