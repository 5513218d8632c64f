use Rattle.std.proofs.Common.{arith}
use Rattle.std.proofs.lemmas.Result.{err_from_is_err_and}
use Rattle.version_store.proofs.Judging.{groups_due}
use Rattle.version_store.proofs.partitioning.check_groups.Goals as goal

pub returns-in_err-check_group : goal.returns-in_err-check_group
returns-in_err-check_group c =
    let p = err_from_is_err_and c.from_residual.result c.from_residual.ensures.1 in
    rw (p.1, p.2) (groups_due c.args.schema.now c.args.names.now c.loop-place.place c.index-names-place.result c.in_err-check_group.field-0.0 c.loop-place.invariant (omega arith) c.index-names-place.is c.in_err-check_group.ensures)
