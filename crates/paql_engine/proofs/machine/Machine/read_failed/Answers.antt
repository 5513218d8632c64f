use Rattle.std.proofs.Common.{sym}
use Rattle.paql_engine.specs.Conversation.{over}
use Rattle.paql_engine.specs.Stages.{stage_of}
use Rattle.paql_engine.proofs.Serving.{read_fails, own_machine}
use Rattle.paql_engine.proofs.machine.Machine.read_failed.Goals as goal

pub returns-clause-continues : goal.returns-clause-continues
returns-clause-continues c = λ vault first bytes written serving.
    let machine = own_machine c.self.inside.session c.self.inside.framer c.self.inside.waiting c.self.inside.owed c.self.inside.taken (stage_of c.self.inside.stage) in
    read_fails first bytes written (over vault machine) (rw (sym c.self.view_is) at c.requires) (rw (sym c.self.view_is) at serving)
