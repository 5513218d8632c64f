use Rattle.std.proofs.Common.{◌≤◌, lit≤}
use Rattle.bound_query.specs.Fits.{rows_for}
use Rattle.bound_query.specs.declared.queries.Op.{Op}
use Rattle.bound_query.specs.declared.queries.Op.TheVariants as ops
use Rattle.answer_check.proofs.tests.condition.Goals as goal

by_op : (op : Op) → rows_for op ≤ 2
by_op ops.Le = lit≤ tt
by_op ops.Lt = lit≤ tt
by_op ops.Ge = lit≤ tt
by_op ops.Gt = lit≤ tt
by_op ops.Eq = lit≤ tt
by_op ops.Between = lit≤ tt

pub returns-clause-rows : goal.returns-clause-rows
returns-clause-rows c = by_op c.args.op
