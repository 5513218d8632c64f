use Rattle.paql_engine.proofs.Asked.{are_asked, solves, form_refused}
use Rattle.paql_engine.proofs.asking.solve.Goals as goal

pub answer-requires : goal.answer-requires
answer-requires g c =
    are_asked c.args.snapshot.now.tables c.args.query.now c.args.bound.now c.rows_asked-rows.result.now c.requires.rows c.requires.good c.requires.bound c.rows_asked-rows.ensures

pub returns-in-Reply : goal.returns-in-Reply
returns-in-Reply g c =
    let said = rw c.in-Reply.is at c.in_ok-reply.ensures in
    solves c.args.snapshot.now.tables c.args.query.now c.args.bound.now c.rows_asked-rows.result.now c.args.snapshot.now.version c.in-Reply.reply c.in-Reply.kept
    c.requires.good c.requires.bound c.rows_asked-rows.ensures said

pub returns-in-Refused : goal.returns-in-Refused
returns-in-Refused g c =
    let said = rw c.in-Refused.is at c.in_ok-reply.ensures in
    form_refused c.args.snapshot.now.tables c.args.query.now c.args.bound.now c.rows_asked-rows.result.now c.args.snapshot.now.version c.in-Refused.fault
    c.requires.good c.requires.bound c.rows_asked-rows.ensures said
