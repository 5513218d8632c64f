use Rattle.session_proto.specs.Causes.{text_cause}
use Rattle.paql_engine.specs.Conversation.{over}
use Rattle.paql_engine.proofs.Performing.{after_fault, refuses_frame}
use Rattle.paql_engine.proofs.machine.Machine.refuse.Goals as goal

pub returns-clause-refuses : goal.returns-clause-refuses
returns-clause-refuses c = λ vault first bytes written words framed fault.
    let cause = text_cause c.args.fault c.args.at in
    refuses_frame first bytes written words cause vault c.args.self.now c.refused-answered.result c.owed_for.result c.owe.result c.owe.new.self c.refused-answered.ensures c.owed_for.ensures c.owe.ensures
    (after_fault first bytes written words cause (over vault c.args.self.now) framed fault) fault
