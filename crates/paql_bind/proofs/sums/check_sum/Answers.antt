-- The first term with a fault.
use Rattle.std.proofs.Common.{arith}
use Rattle.std.proofs.lemmas.Result.{err_from_is_err_and}
use Rattle.paql_bind.specs.Sums.{item_faults}
use Rattle.paql_bind.specs.Scopes.{seen}
use Rattle.paql_bind.proofs.FaultLemmas.{fault_at}
use Rattle.paql_bind.proofs.sums.check_sum.Goals as goal

pub returns-in_err-check_term : goal.returns-in_err-check_term
returns-in_err-check_term c =
    let p = err_from_is_err_and c.from_residual.result c.from_residual.ensures.1 in
    rw (p.1, p.2) (fault_at (item_faults (seen c.args.scope.now)) c.args.items.now c.loop-item.item-index c.item-item.result c.in_err-check_term.field-0.0 (omega arith) c.item-item.is c.loop-item.invariant c.in_err-check_term.ensures)
