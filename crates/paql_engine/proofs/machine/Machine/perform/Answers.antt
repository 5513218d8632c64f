use Rattle.std.proofs.Common.{sym}
use Rattle.session_proto.specs.Input.{content_of}
use Rattle.version_store.specs.Vaults.{holding}
use Rattle.paql_engine.specs.Stages.{stage_of}
use Rattle.paql_engine.proofs.Performing.{performs_frame}
use Rattle.paql_engine.proofs.Serving.{own_machine}
use Rattle.paql_engine.proofs.machine.Machine.perform.Goals as goal

pub returns-clause-performs : goal.returns-clause-performs
returns-clause-performs g c = λ first bytes written words after is.
    let before = holding g.V.Vault.held g.V.Vault.own g.V.Vault.stake c.args.vault.now in
    let now = holding g.V.Vault.held g.V.Vault.own g.V.Vault.stake c.step-answered.new.vault in
    let machine = own_machine c.self.inside.session c.self.inside.framer c.self.inside.waiting c.self.inside.owed c.self.inside.taken (stage_of c.self.inside.stage) in
    performs_frame first bytes written words c.args.statement (content_of c.args.body.now) before now machine c.step-answered.new.self c.step-answered.result c.owed_for.result c.owe.result c.owe.new.self
    c.step-answered.ensures.ok c.step-answered.ensures.grows c.step-answered.ensures.err c.step-answered.ensures.sees c.owed_for.ensures c.owe.ensures (rw (sym c.self.view_is) at after) is
