use Rattle.snapshots.proofs.EntryLemmas.{pushed}
use Rattle.snapshots.proofs.entries.Entries.push.Goals as goal

pub returns-clause-ok : goal.returns-clause-ok
returns-clause-ok c =
    pushed c.self.inside.rows.items c.reserve.new.self.items c.put.new.list.items c.self.inside.versions.items c.reserve-else-is_err.new.self.items c.put-2.new.list.items
    c.args.self.now c.args.id c.args.row c.args.born c.self.invariant c.self.view_is c.reserve.ensures.items c.reserve-else-is_err.ensures.items c.put.ensures c.put-2.ensures
