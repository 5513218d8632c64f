use Rattle.std.proofs.Common.{◌≡◌, false, refl, rules}
use Rattle.std.specs.Prelude.{IsTrue}
use Rattle.paql_ast.specs.declared.statements.Statement.TheVariants as statements
use Rattle.version_store.specs.Vaults.{holding}
use Rattle.paql_engine.specs.Performed.{is_exact}
use Rattle.paql_engine.specs.Steps.{by_sketch}
use Rattle.paql_engine.specs.declared.session.Answer.TheVariants.{Made}
use Rattle.paql_engine.proofs.Rows.{asked_steps, query_refused, version_refused}
use Rattle.paql_engine.proofs.session.Session.ask.Goals as goal

pub returns-then-not-is_exact-clause-ok : goal.returns-then-not-is_exact-clause-ok
returns-then-not-is_exact-clause-ok g c =
    let vault = holding g.V.Vault.held g.V.Vault.own g.V.Vault.stake c.args.vault.now in
    let no : is_exact c.args.query.now.method ≡ false = search rules in
    c.pass_over.ensures vault (statements.Query c.args.query.now) (by_sketch c.args.query.now refl no)

pub returns-in-Err-Unkept-clause-ok : goal.returns-in-Err-Unkept-clause-ok
returns-in-Err-Unkept-clause-ok g c =
    let before = holding g.V.Vault.held g.V.Vault.own g.V.Vault.stake c.args.vault.now in
    let after = holding g.V.Vault.held g.V.Vault.own g.V.Vault.stake c.look.new.vault in
    let exact : IsTrue (is_exact c.args.query.now.method) = search rules in
    let looks = rw c.in-Err-Unkept.field-0-is at c.in-Err-Unkept.ensures.looks in
    version_refused before after c.args.self.now c.args.self.now.queue c.args.self.now.kept c.args.query.now c.in-Err-Unkept.asked c.in-Err-Unkept.low c.in-Err-Unkept.high c.refused.result
    c.look.ensures.sees refl exact looks c.refused.ensures

pub returns-in-Reply-clause-ok : goal.returns-in-Reply-clause-ok
returns-in-Reply-clause-ok g c =
    let before = holding g.V.Vault.held g.V.Vault.own g.V.Vault.stake c.args.vault.now in
    let after = holding g.V.Vault.held g.V.Vault.own g.V.Vault.stake c.look.new.vault in
    let exact : IsTrue (is_exact c.args.query.now.method) = search rules in
    let said = rw c.in-Reply.is at c.in_ok-reply.ensures in
    asked_steps before after c.args.self.now c.self.inside.queue c.self.inside.kept c.args.query.now c.in-Ok.snapshot c.in-Reply.reply c.in-Reply.kept (Made c.in-Reply.reply)
    c.look.ensures.sees c.self.view_is exact c.in-Ok.ensures.looks said refl

pub returns-clause-ok : goal.returns-clause-ok
returns-clause-ok g c =
    let before = holding g.V.Vault.held g.V.Vault.own g.V.Vault.stake c.args.vault.now in
    let after = holding g.V.Vault.held g.V.Vault.own g.V.Vault.stake c.look.new.vault in
    let exact : IsTrue (is_exact c.args.query.now.method) = search rules in
    let said = rw c.in-Refused.is at c.in_ok-reply.ensures in
    query_refused before after c.args.self.now c.args.self.now.queue c.args.self.now.kept c.args.query.now c.in-Ok.snapshot said.0 c.in-Refused.refusal c.refused-in-Refused.result
    c.look.ensures.sees refl exact c.in-Ok.ensures.looks said.1 said.2 c.refused-in-Refused.ensures
