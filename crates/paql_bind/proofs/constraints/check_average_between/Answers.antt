-- The column's fault comes first.
use Rattle.std.proofs.Common.{◌++◌}
use Rattle.std.proofs.lemmas.Result.{err_from_is_err_and}
use Rattle.paql_bind.specs.Names.{summed_faults, number_faults}
use Rattle.paql_bind.specs.Scopes.{seen}
use Rattle.paql_bind.proofs.FaultLemmas.{fault_first}
use Rattle.paql_bind.proofs.constraints.check_average_between.Goals as goal

pub returns-in_err-check_summed : goal.returns-in_err-check_summed
returns-in_err-check_summed c =
    let p = err_from_is_err_and c.from_residual.result c.from_residual.ensures.1 in
    rw (p.1, p.2) (fault_first (summed_faults (seen c.args.scope.now) c.args.column.now) (number_faults c.args.low ++ number_faults c.args.high) c.in_err-check_summed.field-0.0 c.in_err-check_summed.ensures)
