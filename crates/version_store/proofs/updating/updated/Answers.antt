use Rattle.std.proofs.Common.{◌∙◌}
use Rattle.version_store.proofs.Written.{rewritten_is, count_is}
use Rattle.version_store.proofs.updating.updated.Goals as goal

pub returns-in-Ok-clause-new : goal.returns-in-Ok-clause-new
returns-in-Ok-clause-new c = c.in-Ok.ensures.new ∙ rewritten_is c.args.table.now c.args.version c.args.sets.now c.args.filter.now c.in_ok-condition.condition c.in_ok-condition.ensures.bound

pub returns-in-Ok-clause-rows : goal.returns-in-Ok-clause-rows
returns-in-Ok-clause-rows c = c.in-Ok.ensures.count ∙ count_is c.args.table.now c.args.filter.now c.in_ok-condition.condition c.in_ok-condition.ensures.bound
