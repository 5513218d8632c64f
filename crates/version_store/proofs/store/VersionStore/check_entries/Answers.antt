use Rattle.version_store.specs.declared.faults.CommitKind.TheVariants.{LimitRows}
use Rattle.version_store.specs.declared.limits.TheConstants.{MAX_ENTRIES}
use Rattle.version_store.proofs.Keeping.{above_due, above_fine, entries_with_is}
use Rattle.std.proofs.Common.{arith}
use Rattle.version_store.proofs.store.VersionStore.check_entries.Goals as goal

pub returns-then-entries-gt-MAX_ENTRIES : goal.returns-then-entries-gt-MAX_ENTRIES
returns-then-entries-gt-MAX_ENTRIES c =
    let is = entries_with_is c.args.self.now c.args.low c.in-Some-entries_with.entries c.in-Some.fresh c.args.version c.args.tables.now c.requires.most c.requires.version c.in-Some.ensures c.in-Some-entries_with.ensures in
    above_due MAX_ENTRIES _ c.in-Some-entries_with.entries LimitRows c.of_commit.result is c.if-entries-gt-MAX_ENTRIES.true c.of_commit.ensures

pub returns : goal.returns
returns c =
    let is = entries_with_is c.args.self.now c.args.low c.in-Some-entries_with.entries c.in-Some.fresh c.args.version c.args.tables.now c.requires.most c.requires.version c.in-Some.ensures c.in-Some-entries_with.ensures in
    (c.in-Some.ensures, above_fine MAX_ENTRIES _ LimitRows (omega (arith, is, c.if-entries-gt-MAX_ENTRIES.false)))
