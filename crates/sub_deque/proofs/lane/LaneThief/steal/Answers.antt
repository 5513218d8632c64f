use Rattle.std.proofs.Common.{rules}
use Rattle.sub_deque.proofs.Accounts.{steals}
use Rattle.sub_deque.proofs.lane.LaneThief.steal.Goals as goal

pub steal_as-requires-clause-takes : goal.steal_as-requires-clause-takes
steal_as-requires-clause-takes c = steals _ _ (search rules)
