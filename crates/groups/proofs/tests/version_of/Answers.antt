use Rattle.groups.proofs.WorkedLemmas.{one_cut}
use Rattle.groups.proofs.tests.version_of.Goals as goal

pub returns-clause-cut : goal.returns-clause-cut
returns-clause-cut c =
    one_cut c.in_ok-table.table c.in_ok-shared.shared c.new-tables.result c.push.new.self c.args.version c.in_ok-snapshot.snapshot c.in_ok-table.ensures c.in_ok-shared.ensures c.new-tables.ensures c.in_ok-push.ensures.ok c.in_ok-snapshot.ensures
