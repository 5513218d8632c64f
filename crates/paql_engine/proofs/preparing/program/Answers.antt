use Rattle.paql_engine.proofs.Asked.{are_asked}
use Rattle.paql_engine.proofs.MadeReady.{formless_told, made_ready}
use Rattle.paql_engine.proofs.preparing.program.Goals as goal

pub translate-requires : goal.translate-requires
translate-requires c =
    are_asked c.args.snapshot.now.tables c.args.query.now c.args.bound.now c.rows_asked.result.now c.requires.rows c.requires.good c.requires.bound c.rows_asked.ensures

pub returns-in-Err : goal.returns-in-Err
returns-in-Err c =
    formless_told c.args.snapshot.now.tables c.args.query.now c.args.bound.now c.rows_asked.result.now c.in-Err.fault c.formless.result
    c.requires.good c.requires.bound c.rows_asked.ensures c.in-Err.ensures c.formless.ensures

pub returns-in-Ok : goal.returns-in-Ok
returns-in-Ok c =
    made_ready c.args.snapshot.now.tables c.args.query.now c.args.bound.now c.rows_asked.result.now c.in-Ok.linear
    c.requires.rows c.requires.good c.requires.bound c.rows_asked.ensures c.in-Ok.ensures
