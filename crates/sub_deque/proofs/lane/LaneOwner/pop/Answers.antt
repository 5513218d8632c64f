use Rattle.std.proofs.Common.{rules}
use Rattle.sub_deque.proofs.Accounts.{pops}
use Rattle.sub_deque.proofs.lane.LaneOwner.pop.Goals as goal

pub pop_as-requires-clause-lifo : goal.pop_as-requires-clause-lifo
pop_as-requires-clause-lifo c = λ lifo. pops _ _ (search rules)
