use Rattle.std.proofs.Common.{◌≡◌, None, sym, ◌∙◌, rules}
use Rattle.paql_ast.specs.declared.statements.Statement.TheVariants as statements
use Rattle.version_store.specs.Histories.{History}
use Rattle.version_store.specs.Vaults.{holding}
use Rattle.paql_engine.specs.Steps.{at_commit}
use Rattle.paql_engine.proofs.Rows.{unopened, commit_accepted, commit_declined, grows_joined, grows_seen, seen_on_err}
use Rattle.paql_engine.proofs.session.Session.commit.Goals as goal

pub returns-in-Ok-clause-ok : goal.returns-in-Ok-clause-ok
returns-in-Ok-clause-ok g c =
    let before = holding g.V.Vault.held g.V.Vault.own g.V.Vault.stake c.args.vault.now in
    let after = holding g.V.Vault.held g.V.Vault.own g.V.Vault.stake c.commit.new.self in
    commit_accepted before after c.args.self.now c.self.inside.queue c.take.new.self c.self.inside.kept c.in-Some.queue c.len.result c.in-Ok.committed
    c.self.view_is (sym c.take.ensures.value ∙ c.in-Some.is) c.take.ensures.after c.len.ensures (rw c.in-Ok.is at c.commit.ensures.answers)

pub returns-in-Ok-clause-grows : goal.returns-in-Ok-clause-grows
returns-in-Ok-clause-grows g c =
    let before = holding g.V.Vault.held g.V.Vault.own g.V.Vault.stake c.args.vault.now in
    let after = holding g.V.Vault.held g.V.Vault.own g.V.Vault.stake c.commit.new.self in
    grows_joined before after c.in-Some.queue c.in-Ok.committed (rw c.in-Ok.is at c.commit.ensures.answers)

pub returns-in-Err-clause-ok : goal.returns-in-Err-clause-ok
returns-in-Err-clause-ok g c =
    let before = holding g.V.Vault.held g.V.Vault.own g.V.Vault.stake c.args.vault.now in
    let after = holding g.V.Vault.held g.V.Vault.own g.V.Vault.stake c.commit.new.self in
    commit_declined before after c.args.self.now c.self.inside.queue c.self.inside.kept c.in-Some.queue c.in-Err.queue c.in-Err.fault c.refused_commit.result
    c.self.view_is (sym c.take.ensures.value ∙ c.in-Some.is) (rw c.in-Err.is at c.commit.ensures.answers) c.refused_commit.ensures

pub returns-in-Err-clause-grows : goal.returns-in-Err-clause-grows
returns-in-Err-clause-grows g c =
    let before = holding g.V.Vault.held g.V.Vault.own g.V.Vault.stake c.args.vault.now in
    let after = holding g.V.Vault.held g.V.Vault.own g.V.Vault.stake c.commit.new.self in
    let comes = rw c.in-Err.is at c.commit.ensures.answers in
    grows_seen before after comes.0.sees

pub returns-in-Err-clause-sees : goal.returns-in-Err-clause-sees
returns-in-Err-clause-sees g c =
    let before = holding g.V.Vault.held g.V.Vault.own g.V.Vault.stake c.args.vault.now in
    let after = holding g.V.Vault.held g.V.Vault.own g.V.Vault.stake c.commit.new.self in
    let comes = rw c.in-Err.is at c.commit.ensures.answers in
    seen_on_err before after c.refused_commit.result comes.0.sees

pub returns-in_default-clause-ok : goal.returns-in_default-clause-ok
returns-in_default-clause-ok g c =
    let vault = holding g.V.Vault.held g.V.Vault.own g.V.Vault.stake c.args.vault.now in
    let free : c.self.inside.queue ≡ None = search rules in
    unopened vault c.args.self.now statements.Commit c.self.inside.queue c.take.new.self c.self.inside.kept c.unready.result c.self.view_is free c.take.ensures.after (λ (history : History). at_commit) c.unready.ensures
