use Rattle.sub_deque.specs.Rule.{IsAccount}
use Rattle.std.proofs.Common.{rules, sym, ap, subst}
use Rattle.sub_deque.specs.declared.view.LaneView.{LaneView}
use Rattle.sub_deque.proofs.Accounts.{pops, joins, drained}
use Rattle.sub_deque.proofs.lane.drain_joined.Goals as goal

pub absorb-requires-clause-rule : goal.absorb-requires-clause-rule
absorb-requires-clause-rule c = joins _ _ _ _ (search rules) (search rules)

pub pop_as-requires-clause-lifo : goal.pop_as-requires-clause-lifo
pop_as-requires-clause-lifo c = λ lifo. pops _ _ (ap (λ (v : LaneView). v.owns) c.loop.invariant.1)

pub returns-in_default : goal.returns-in_default
returns-in_default c = subst (IsAccount c.args.owner.put c.args.owner.popped c.args.thief.stolen) (sym c.reserve.ensures.items) (drained c.args.owner.put c.args.owner.popped c.args.thief.stolen c.loop.left.items _ c.loop.invariant.1 c.in_default.ensures.rule.1)
