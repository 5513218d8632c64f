use Rattle.groups.proofs.WorkedLemmas.{always, always_cut, always_shown, nothing_right}
use Rattle.groups.proofs.cache.tests.the_ninth_drops_the_first.Goals as goal

pub loop-version-init : goal.loop-version-init
loop-version-init g c =
    (nothing_right (always c.in_ok-tables.tables.tables) c.new-cache.result c.new-cache.ensures, c.in_ok-tables.ensures.cut)

pub count-requires-clause-one : goal.count-requires-clause-one
count-requires-clause-one g c =
    let tables = c.in_ok-tables.tables.tables in
    record {
      shown = always tables;
      right = c.loop-version.invariant.0;
      current = always_shown tables c.loop-version.version c.in_ok-snapshot.snapshot c.in_ok-snapshot.ensures;
    }

pub count-requires-clause-cut : goal.count-requires-clause-cut
count-requires-clause-cut g c =
    always_cut c.in_ok-tables.tables.tables c.loop-version.version c.in_ok-snapshot.snapshot c.in_ok-snapshot.ensures c.loop-version.invariant.1

pub loop-version-preserved : goal.loop-version-preserved
loop-version-preserved g c =
    let tables = c.in_ok-tables.tables.tables in
    let current = always_shown tables c.loop-version.version c.in_ok-snapshot.snapshot c.in_ok-snapshot.ensures in
    (c.in_ok-count.ensures (always tables) c.loop-version.invariant.0 current, c.loop-version.invariant.1)
