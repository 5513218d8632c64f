use Rattle.pq_base.specs.Shown.{shown}
use Rattle.session_server.proofs.Heard.{broken_ends, heard_ends, unwritten_ends}
use Rattle.session_server.proofs.Told.{is_told}
use Rattle.session_server.proofs.checking.check_answer.Goals as goal

pub returns-in-All-clause-ends : goal.returns-in-All-clause-ends
returns-in-All-clause-ends g c =
    heard_ends _ _ _ _ _ _ c.in-Ok.line c.in-Ok.ensures (rw c.deref.ensures.value at c.in-All.ensures)

pub returns-in-Ok-clause-ends : goal.returns-in-Ok-clause-ends
returns-in-Ok-clause-ends g c =
    unwritten_ends _ _ _ _ _ _ c.in-Ok.line _ c.in-Ok.ensures (rw c.deref.ensures.value at c.in-Failed.ensures)

pub returns-clause-ends : goal.returns-clause-ends
returns-clause-ends g c = broken_ends _ _ _ _ _ c.in-Err.end c.in-Err.ensures

pub returns-clause-complete : goal.returns-clause-complete
returns-clause-complete g c =
    let sink = shown g.K.Sink.written g.K.Sink.faults c.args.sink.now in
    is_told _ _ _ _ sink sink c.in-Err.end (broken_ends _ _ _ _ sink c.in-Err.end c.in-Err.ensures)
