use Rattle.version_store.proofs.Judging.{refused_condition}
use Rattle.version_store.proofs.Written.{all_asked, pred_asked}
use Rattle.version_store.proofs.conditions.bound_condition.Goals as goal

pub returns-in_default-clause-asked : goal.returns-in_default-clause-asked
returns-in_default-clause-asked c = all_asked c.args.table.now.columns

pub returns-in-Ok-clause-asked : goal.returns-in-Ok-clause-asked
returns-in-Ok-clause-asked c = pred_asked c.args.table.now.columns c.as_slice.result.now c.in-Some.pred c.in-Ok.bound c.columns-columns.ensures.legal c.in-Ok.ensures.refused c.in-Ok.ensures.bound

pub returns-in-Err-Refused-clause-judged : goal.returns-in-Err-Refused-clause-judged
returns-in-Err-Refused-clause-judged c = refused_condition c.args.table.now c.args.filter.now c.in-Some.pred c.as_slice.result.now c.in-Err-Refused.refusal c.in-Some.is c.as_slice.ensures (rw c.in-Err-Refused.field-0-is at c.in-Err-Refused.ensures.refused)
