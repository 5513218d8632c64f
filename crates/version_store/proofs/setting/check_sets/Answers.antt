use Rattle.std.proofs.Common.{arith}
use Rattle.std.proofs.lemmas.Result.{err_from_is_err_and}
use Rattle.version_store.proofs.Judging.{sets_due}
use Rattle.version_store.proofs.setting.check_sets.Goals as goal

pub returns-in_err-check_set : goal.returns-in_err-check_set
returns-in_err-check_set c =
    let p = err_from_is_err_and c.from_residual.result c.from_residual.ensures.1 in
    rw (p.1, p.2) (sets_due c.args.schema.now c.args.sets.now c.loop-place.place c.index-sets-place.result c.in_err-check_set.field-0.0 c.loop-place.invariant (omega arith) c.index-sets-place.is c.in_err-check_set.ensures)
