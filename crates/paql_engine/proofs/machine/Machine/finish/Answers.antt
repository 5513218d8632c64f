-- With its body the frame of the statement that waits is whole.
use Rattle.std.proofs.Common.{◌≡◌, Some, sym}
use Rattle.session_proto.specs.Input.{content_of}
use Rattle.version_store.specs.Vaults.{holding}
use Rattle.paql_engine.specs.Conversation.{over}
use Rattle.paql_engine.specs.Stages.{stage_of}
use Rattle.paql_engine.proofs.Performing.{after_body, waiting_is}
use Rattle.paql_engine.proofs.Serving.{own_machine}
use Rattle.paql_engine.proofs.machine.Machine.finish.Goals as goal

pub returns-in-Some-clause-finishes : goal.returns-in-Some-clause-finishes
returns-in-Some-clause-finishes g c = λ first bytes written has.
    let vault = holding g.V.Vault.held g.V.Vault.own g.V.Vault.stake c.args.vault.now in
    let machine = own_machine c.self.inside.session c.self.inside.framer c.self.inside.waiting c.self.inside.owed c.self.inside.taken (stage_of c.self.inside.stage) in
    let body = rw (sym c.self.view_is) at has in
    let waits : c.self.inside.waiting ≡ Some c.in-Some.statement = cc c.in-Some.ensures.value in
    let is = waiting_is body.words c.self.inside.waiting c.in-Some.statement waits body.waits in
    c.perform.ensures.performs first bytes written body.words (rw c.take.ensures.after (after_body first bytes written (content_of c.args.body.now) (over vault machine) body)) is
