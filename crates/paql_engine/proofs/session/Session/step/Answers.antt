use Rattle.std.proofs.Common.{refl}
use Rattle.paql_ast.specs.declared.statements.Statement.TheVariants as statements
use Rattle.session_proto.specs.Input.{content_of}
use Rattle.version_store.specs.Vaults.{holding}
use Rattle.paql_engine.specs.State.{session_over}
use Rattle.paql_engine.proofs.LoadedRows.{performs_load}
use Rattle.paql_engine.proofs.Rows.{performs}
use Rattle.paql_engine.proofs.session.Session.step.Goals as goal

pub returns-in-Begin-clause-ok : goal.returns-in-Begin-clause-ok
returns-in-Begin-clause-ok g c =
    let before = holding g.V.Vault.held g.V.Vault.own g.V.Vault.stake c.args.vault.now in
    let after = holding g.V.Vault.held g.V.Vault.own g.V.Vault.stake c.args.vault.now in
    performs (session_over before c.args.self.now) (session_over after c.begin.new.self) statements.Begin c.args.statement (content_of c.args.body.now) c.begin.result c.in-Begin.is (c.begin.ensures.ok before)

pub returns-in-Commit-clause-ok : goal.returns-in-Commit-clause-ok
returns-in-Commit-clause-ok g c =
    let before = holding g.V.Vault.held g.V.Vault.own g.V.Vault.stake c.args.vault.now in
    let after = holding g.V.Vault.held g.V.Vault.own g.V.Vault.stake c.commit.new.vault in
    performs (session_over before c.args.self.now) (session_over after c.commit.new.self) statements.Commit c.args.statement (content_of c.args.body.now) c.commit.result c.in-Commit.is c.commit.ensures.ok

pub returns-in-Rollback-clause-ok : goal.returns-in-Rollback-clause-ok
returns-in-Rollback-clause-ok g c =
    let before = holding g.V.Vault.held g.V.Vault.own g.V.Vault.stake c.args.vault.now in
    let after = holding g.V.Vault.held g.V.Vault.own g.V.Vault.stake c.args.vault.now in
    performs (session_over before c.args.self.now) (session_over after c.roll_back.new.self) statements.Rollback c.args.statement (content_of c.args.body.now) c.roll_back.result c.in-Rollback.is (c.roll_back.ensures.ok before)

pub returns-in-Query-clause-ok : goal.returns-in-Query-clause-ok
returns-in-Query-clause-ok g c =
    let before = holding g.V.Vault.held g.V.Vault.own g.V.Vault.stake c.args.vault.now in
    let after = holding g.V.Vault.held g.V.Vault.own g.V.Vault.stake c.ask.new.vault in
    performs (session_over before c.args.self.now) (session_over after c.ask.new.self) (statements.Query c.in-Query.query) c.args.statement (content_of c.args.body.now) c.ask.result c.in-Query.is c.ask.ensures.ok

pub returns-in-Load-clause-ok : goal.returns-in-Load-clause-ok
returns-in-Load-clause-ok g c =
    let before = holding g.V.Vault.held g.V.Vault.own g.V.Vault.stake c.args.vault.now in
    let after = holding g.V.Vault.held g.V.Vault.own g.V.Vault.stake c.load.new.vault in
    performs_load (session_over before c.args.self.now) (session_over after c.args.self.now) c.in-Load.table c.in-Load.bytes c.args.statement (content_of c.args.body.now) c.load.result c.in-Load.is c.load.ensures.ok

pub returns-in-Certificate-clause-ok : goal.returns-in-Certificate-clause-ok
returns-in-Certificate-clause-ok g c =
    let vault = holding g.V.Vault.held g.V.Vault.own g.V.Vault.stake c.args.vault.now in
    performs (session_over vault c.args.self.now) (session_over vault c.args.self.now) statements.Certificate c.args.statement (content_of c.args.body.now) c.certificate.result c.in-Certificate.is (c.certificate.ensures vault)

pub returns-in_default : goal.returns-in_default
returns-in_default g c =
    let before = holding g.V.Vault.held g.V.Vault.own g.V.Vault.stake c.args.vault.now in
    let after = holding g.V.Vault.held g.V.Vault.own g.V.Vault.stake c.change_or_pass.new.vault in
    record {
      ok = performs (session_over before c.args.self.now) (session_over after c.change_or_pass.new.self) c.args.statement c.args.statement (content_of c.args.body.now) c.change_or_pass.result refl c.change_or_pass.ensures.ok;
      grows = c.change_or_pass.ensures.grows;
      err = c.change_or_pass.ensures.err;
      sees = c.change_or_pass.ensures.sees;
    }
