use Rattle.std.proofs.Common.{length, ap}
use Rattle.snapshots.proofs.EntryLemmas.{count_shown}
use Rattle.snapshots.proofs.entries.Entries.len.Goals as goal

pub returns : goal.returns
returns c = count_shown c.self.inside.rows.items c.self.inside.versions.items c.args.self.now (length c.as_slice.result.now) c.self.invariant c.self.view_is (ap length c.as_slice.ensures.value)
