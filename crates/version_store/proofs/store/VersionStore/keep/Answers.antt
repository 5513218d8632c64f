use Rattle.std.proofs.Common.{ap, arith, length}
use Rattle.version_store.proofs.KeepingAt.{given_up, keep_stored}
use Rattle.version_store.proofs.store.VersionStore.keep.Goals as goal

pub overflow_sub-ready : goal.overflow_sub-ready
overflow_sub-ready c = (given_up c.self.inside.commits.items c.args.self.now c.args.commit c.self.inside.kept.items c.self.inside.low c.args.ready.low c.args.ready.rows c.args.ready.version c.self.invariant c.self.view_is c.requires.ready).0

pub invariant_of-self-2 : goal.invariant_of-self-2
invariant_of-self-2 c = keep_stored c.self.inside.commits.items c.args.self.now c.put-2.new.list.items c.reserve.new.self.items c.args.commit c.self.inside.kept.items c.reserve-else-is_err.new.self.items c.drop_first.new.list.items c.put.new.list.items c.self.inside.low c.args.ready.low c.args.ready.rows c.args.ready.version
    c.self.invariant c.self.view_is c.requires.columns c.requires.ready c.reserve.ensures.items c.put-2.ensures c.reserve-else-is_err.ensures.items c.drop_first.ensures.items c.put.ensures

pub drop_first-requires : goal.drop_first-requires
drop_first-requires c = omega (arith, (given_up c.self.inside.commits.items c.args.self.now c.args.commit c.self.inside.kept.items c.self.inside.low c.args.ready.low c.args.ready.rows c.args.ready.version c.self.invariant c.self.view_is c.requires.ready).1, ap length c.reserve-else-is_err.ensures.items)
