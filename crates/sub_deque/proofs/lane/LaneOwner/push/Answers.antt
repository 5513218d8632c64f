use Rattle.std.proofs.Common.{rules}
use Rattle.sub_deque.proofs.Accounts.{pushes}
use Rattle.sub_deque.proofs.lane.LaneOwner.push.Goals as goal

pub push_as-requires-clause-pushes : goal.push_as-requires-clause-pushes
push_as-requires-clause-pushes c = pushes _ _ _ (search rules)
