-- The first part with a fault.
use Rattle.std.proofs.Common.{List, sym, ap, ◌∙◌, subst, flat_map, arith}
use Rattle.std.proofs.lemmas.Result.{err_from_is_err_and}
use Rattle.paql_bind.specs.Conditions.{pred_faults}
use Rattle.paql_bind.specs.Faults.{Refuses}
use Rattle.paql_bind.specs.Scopes.{seen}
use Rattle.paql_bind.specs.declared.faults.Refusal.{Refusal}
use Rattle.paql_bind.proofs.FaultLemmas.{fault_at}
use Rattle.paql_bind.proofs.ConditionLemmas.{faults_or, faults_and}
use Rattle.paql_bind.proofs.conditions.+checks.Goals as goal

pub check_parts-returns-in_err-check_pred : goal.check_parts-returns-in_err-check_pred
check_parts-returns-in_err-check_pred t c =
    let p = err_from_is_err_and c.from_residual.result c.from_residual.ensures.1 in
    rw (p.1, p.2) (fault_at (pred_faults (seen c.args.scope.now)) c.args.parts.now c.loop-part.part-index c.part-item.result c.in_err-check_pred.field-0.0 (omega arith) c.part-item.is c.loop-part.invariant c.in_err-check_pred.ensures)

pub check_pred-returns-in-Or : goal.check_pred-returns-in-Or
check_pred-returns-in-Or t c =
    let scope = seen c.args.scope.now in
    let faults = ap (pred_faults scope) c.in-Or.is ∙ (faults_or scope c.in-Or.parts ∙ ap (flat_map (pred_faults scope)) (sym c.as_slice.ensures)) in
    subst (λ (of : List Refusal). Refuses of c.check_parts.result) (sym faults) c.check_parts.ensures

pub check_pred-returns-in-And : goal.check_pred-returns-in-And
check_pred-returns-in-And t c =
    let scope = seen c.args.scope.now in
    let faults = ap (pred_faults scope) c.in-And.is ∙ (faults_and scope c.in-And.parts ∙ ap (flat_map (pred_faults scope)) (sym c.as_slice-in-And.ensures)) in
    subst (λ (of : List Refusal). Refuses of c.check_parts-in-And.result) (sym faults) c.check_parts-in-And.ensures
