use Rattle.paql.proofs.Starting.{without_memory}
use Rattle.paql.proofs.top.paql_top.Goals as goal

pub returns-in_default-new-clause-does : goal.returns-in_default-new-clause-does
returns-in_default-new-clause-does g c = without_memory c.in-Some.command c.args.words.now _ _ c.in-Some.ensures
