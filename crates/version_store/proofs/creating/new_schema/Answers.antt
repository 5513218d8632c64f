use Rattle.version_store.proofs.Judging.{made_due}
use Rattle.version_store.proofs.creating.new_schema.Goals as goal

pub returns-clause-judged : goal.returns-clause-judged
returns-clause-judged c = made_due c.args.columns.now c.in-Ok.copy c.in-Err.fault c.made_fault.result c.in-Ok.ensures c.in-Err.ensures.0 c.made_fault.ensures
