use Rattle.std.proofs.Common.{sym}
use Rattle.paql_engine.specs.Conversation.{over}
use Rattle.paql_engine.specs.Stages.{stage_of}
use Rattle.paql_engine.proofs.Serving.{input_ends, told_ended, own_machine}
use Rattle.paql_engine.proofs.machine.Machine.input_ended.Goals as goal

pub returns-clause-continues : goal.returns-clause-continues
returns-clause-continues c = λ vault first bytes written serving.
    let machine = own_machine c.self.inside.session c.self.inside.framer c.self.inside.waiting c.self.inside.owed c.self.inside.taken (stage_of c.self.inside.stage) in
    input_ends c.end_of.result first bytes written (over vault machine) (rw (sym c.self.view_is) at c.requires) c.end_of.ensures (rw (sym c.self.view_is) at serving)

pub returns-clause-told : goal.returns-clause-told
returns-clause-told c = told_ended c.end_of.result c.self.inside.framer c.end_of.ensures
