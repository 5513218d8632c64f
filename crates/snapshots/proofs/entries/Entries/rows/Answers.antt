use Rattle.snapshots.proofs.EntryLemmas.{rows_shown}
use Rattle.snapshots.proofs.entries.Entries.rows.Goals as goal

pub returns : goal.returns
returns c = rows_shown c.self.inside.rows.items c.self.inside.versions.items c.args.self.now c.as_slice.result.now c.self.invariant c.self.view_is c.as_slice.ensures.value
