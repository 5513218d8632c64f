use Rattle.paql_engine.proofs.Asked.{names_refused}
use Rattle.paql_engine.proofs.asking.find.Goals as goal

pub returns-in_ok-binding-in-Err-Refused : goal.returns-in_ok-binding-in-Err-Refused
returns-in_ok-binding-in-Err-Refused g c =
    let first = rw c.in-Err-Refused.field-0-is at c.in-Err-Refused.ensures.refused in
    names_refused c.args.snapshot.now.tables c.args.query.now c.args.snapshot.now.version c.schemas.result.now c.in-Err-Refused.fault c.in_ok-binding-in-Err-Refused.field-0
    c.schemas.ensures first c.in_ok-binding-in-Err-Refused.ensures
