use Rattle.std.specs.Prelude.{◌≡◌, ◌++◌}
use Rattle.crossbeam_deque.specs.Handles.{worker_flavor, worker_view}
use Rattle.sub_deque.specs.Views.{whole_view}
use Rattle.sub_deque.proofs.lane.drain_joined.Given as goal

abbrev pub invariant-loop : goal.invariant-loop
invariant-loop l = (worker_flavor l.worker ≡ 1)
    × (worker_view l.worker ≡ whole_view l.fn.owner.put (l.fn.owner.popped ++ l.left.items) l.fn.thief.stolen)
