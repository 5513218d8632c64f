-- The first literal with a fault.
use Rattle.std.proofs.Common.{arith}
use Rattle.std.proofs.lemmas.Result.{err_from_is_err_and}
use Rattle.paql_bind.specs.Conditions.{against_lit}
use Rattle.paql_bind.specs.Scopes.{seen}
use Rattle.paql_bind.proofs.FaultLemmas.{fault_at}
use Rattle.paql_bind.proofs.conditions.check_list.Goals as goal

pub returns-in_err-check_against : goal.returns-in_err-check_against
returns-in_err-check_against c =
    let p = err_from_is_err_and c.from_residual.result c.from_residual.ensures.1 in
    rw (p.1, p.2) (fault_at (against_lit (seen c.args.scope.now) c.args.column.now) c.args.list.now c.loop-lit.lit-index c.lit-item.result c.in_err-check_against.field-0.0 (omega arith) c.lit-item.is c.loop-lit.invariant c.in_err-check_against.ensures)
