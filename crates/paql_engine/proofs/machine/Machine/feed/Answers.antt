use Rattle.std.proofs.Common.{sym}
use Rattle.paql_engine.specs.Conversation.{over}
use Rattle.paql_engine.specs.Stages.{stage_of}
use Rattle.paql_engine.proofs.Serving.{feeds, turns_fed, told_fed, own_machine}
use Rattle.paql_engine.proofs.machine.Machine.feed.Goals as goal

pub returns-clause-feeds : goal.returns-clause-feeds
returns-clause-feeds c = λ vault first bytes written serving.
    let machine = own_machine c.self.inside.session c.self.inside.framer c.self.inside.waiting c.self.inside.owed c.self.inside.taken (stage_of c.self.inside.stage) in
    rw c.stage_after.ensures (feeds first bytes written c.args.piece.now (over vault machine) c.feed.new.self c.feed.result (rw (sym c.self.view_is) at c.requires.wished) (rw (sym c.self.view_is) at c.requires.room)
    c.feed.ensures.ok (rw (sym c.self.view_is) at serving))

pub returns-clause-told : goal.returns-clause-told
returns-clause-told c = rw c.stage_after.ensures (told_fed c.feed.result)

pub returns-clause-turns : goal.returns-clause-turns
returns-clause-turns c =
    let machine = own_machine c.self.inside.session c.self.inside.framer c.self.inside.waiting c.self.inside.owed c.self.inside.taken (stage_of c.self.inside.stage) in
    rw c.stage_after.ensures (turns_fed c.args.piece.now machine c.args.self.now c.feed.new.self c.feed.result c.self.view_is c.requires.wished c.requires.room c.requires.some c.feed.ensures.ok)
