-- Each answer of the framer leads to a wish.
use Rattle.std.proofs.Common.{sym, subst}
use Rattle.session_proto.specs.Input.{given_of, content_of, IsNext}
use Rattle.session_proto.specs.declared.framer.Framed.{Framed}
use Rattle.version_store.specs.Vaults.{holding}
use Rattle.paql_engine.specs.Conversation.{over}
use Rattle.paql_engine.specs.Stages.{stage_of}
use Rattle.paql_engine.proofs.Serving.{opens, own_machine}
use Rattle.paql_engine.proofs.Framing.{frames_too_long, needs_more, has_body}
use Rattle.paql_engine.proofs.machine.Machine.frame.Goals as goal

pub returns-in-Ok-Need-clause-continues : goal.returns-in-Ok-Need-clause-continues
returns-in-Ok-Need-clause-continues g c = λ first bytes written serving.
    let vault = holding g.V.Vault.held g.V.Vault.own g.V.Vault.stake c.args.vault.now in
    let machine = own_machine c.self.inside.session c.self.inside.framer c.self.inside.waiting c.self.inside.owed c.self.inside.taken (stage_of c.self.inside.stage) in
    let next = subst (λ (f : Framed). IsNext c.self.inside.framer (given_of f) c.next.new.self) c.in-Ok-Need.field-0-is c.in-Ok-Need.ensures.ok in
    let free = rw (sym c.self.view_is) at c.requires.free in
    let quiet = rw (sym c.self.view_is) at c.requires.quiet in
    let is = opens first bytes written (over vault machine) free quiet (rw (sym c.self.view_is) at serving) in
    needs_more first bytes written vault machine c.next.new.self c.need.result c.need.new.self quiet next c.need.ensures is

pub returns-in-Ok-TooLong-clause-continues : goal.returns-in-Ok-TooLong-clause-continues
returns-in-Ok-TooLong-clause-continues g c = λ first bytes written serving.
    let vault = holding g.V.Vault.held g.V.Vault.own g.V.Vault.stake c.args.vault.now in
    let machine = own_machine c.self.inside.session c.self.inside.framer c.self.inside.waiting c.self.inside.owed c.self.inside.taken (stage_of c.self.inside.stage) in
    let next = subst (λ (f : Framed). IsNext c.self.inside.framer (given_of f) c.next.new.self) c.in-Ok-TooLong.field-0-is c.in-Ok-TooLong.ensures.ok in
    let free = rw (sym c.self.view_is) at c.requires.free in
    let quiet = rw (sym c.self.view_is) at c.requires.quiet in
    let is = opens first bytes written (over vault machine) free quiet (rw (sym c.self.view_is) at serving) in
    rw c.end-in-Ok-TooLong.ensures.stage (frames_too_long first bytes written (over vault machine) c.next.new.self next is)

pub returns-in-Ok-Body-clause-continues : goal.returns-in-Ok-Body-clause-continues
returns-in-Ok-Body-clause-continues g c = λ first bytes written serving.
    let vault = holding g.V.Vault.held g.V.Vault.own g.V.Vault.stake c.args.vault.now in
    let machine = own_machine c.self.inside.session c.self.inside.framer c.self.inside.waiting c.self.inside.owed c.self.inside.taken (stage_of c.self.inside.stage) in
    let next = subst (λ (f : Framed). IsNext c.self.inside.framer (given_of f) c.next.new.self) c.in-Ok-Body.field-0-is c.in-Ok-Body.ensures.ok in
    let free = rw (sym c.self.view_is) at c.requires.free in
    let quiet = rw (sym c.self.view_is) at c.requires.quiet in
    let is = opens first bytes written (over vault machine) free quiet (rw (sym c.self.view_is) at serving) in
    c.finish.ensures.finishes first bytes written (has_body first bytes written (content_of c.in-Ok-Body.body) (over vault machine) c.next.new.self next is)
