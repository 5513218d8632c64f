use Rattle.paql_engine.proofs.MadeReady.{names_told}
use Rattle.paql_engine.proofs.preparing.ready.Goals as goal

pub returns-in_ok-refusal-in-Err-Refused : goal.returns-in_ok-refusal-in-Err-Refused
returns-in_ok-refusal-in-Err-Refused c =
    let first = rw c.in-Err-Refused.field-0-is at c.in-Err-Refused.ensures.refused in
    names_told c.args.snapshot.now.tables c.args.query.now c.schemas.result.now c.in-Err-Refused.fault c.in_ok-refusal-in-Err-Refused.refusal c.told.result
    c.schemas.ensures first c.in_ok-refusal-in-Err-Refused.ensures c.told.ensures
