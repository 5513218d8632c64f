use Rattle.std.proofs.Common.{◌≡◌, Some}
use Rattle.session_proto.specs.Input.{content_of}
use Rattle.version_store.specs.Vaults.{holding}
use Rattle.session_server.proofs.Scripts.{after_body, waiting_is, load_no_query}
use Rattle.session_server.proofs.checking.script.Script.finish.Goals as goal

pub returns-in-Some-clause-finishes : goal.returns-in-Some-clause-finishes
returns-in-Some-clause-finishes g c = λ vault source now has.
    let before = holding g.V.Vault.held g.V.Vault.own g.V.Vault.stake c.args.vault.now in
    let waits : c.args.self.now.waiting ≡ Some c.in-Some.statement = cc c.in-Some.ensures.value in
    let is = waiting_is has.words c.args.self.now.waiting c.in-Some.statement waits has.waits in
    c.perform.ensures.performs vault source now has.words (rw c.take.ensures.after (after_body vault before source now (content_of c.args.body.now) c.args.self.now has)) is
    (load_no_query has.words has.stands.body.bytes c.in-Some.statement has.stands.wanted is)
