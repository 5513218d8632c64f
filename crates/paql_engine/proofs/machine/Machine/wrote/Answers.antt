use Rattle.std.proofs.Common.{refl, sym}
use Rattle.paql_engine.specs.Conversation.{over}
use Rattle.paql_engine.specs.Stages.{stage_of}
use Rattle.paql_engine.proofs.Serving.{writes_some, own_machine}
use Rattle.paql_engine.proofs.machine.Machine.wrote.Goals as goal

pub returns-clause-value : goal.returns-clause-value
returns-clause-value c = rw (sym c.self.view_is, c.advance.ensures) refl

pub returns-clause-writes : goal.returns-clause-writes
returns-clause-writes c = λ vault first bytes written serving.
    let machine = own_machine c.self.inside.session c.self.inside.framer c.self.inside.waiting c.self.inside.owed c.self.inside.taken (stage_of c.self.inside.stage) in
    let wished = rw (sym c.self.view_is) at c.requires.wished in
    rw (sym c.self.view_is, c.advance.ensures) (writes_some c.args.count first bytes written (over vault machine) wished (rw (sym c.self.view_is) at serving))
