-- The first constraint with a fault.
use Rattle.std.proofs.Common.{arith}
use Rattle.std.proofs.lemmas.Result.{err_from_is_err_and}
use Rattle.paql_bind.specs.Constraints.{conjunct_faults}
use Rattle.paql_bind.specs.Scopes.{seen}
use Rattle.paql_bind.proofs.FaultLemmas.{fault_at}
use Rattle.paql_bind.proofs.constraints.check_conjuncts.Goals as goal

pub returns-in_err-check_conjunct : goal.returns-in_err-check_conjunct
returns-in_err-check_conjunct c =
    let p = err_from_is_err_and c.from_residual.result c.from_residual.ensures.1 in
    rw (p.1, p.2) (fault_at (conjunct_faults (seen c.args.scope.now)) c.args.conjuncts.now c.loop-conjunct.conjunct-index c.conjunct-item.result c.in_err-check_conjunct.field-0.0 (omega arith) c.conjunct-item.is c.loop-conjunct.invariant c.in_err-check_conjunct.ensures)
