use Rattle.std.proofs.Common.{sym, ◌∙◌}
use Rattle.version_store.specs.Vaults.{holding}
use Rattle.paql_engine.proofs.Rows.{of_change, no_column}
use Rattle.paql_engine.proofs.session.Session.change_or_pass.Goals as goal

pub returns-in-Some-clause-ok : goal.returns-in-Some-clause-ok
returns-in-Some-clause-ok g c =
    let before = holding g.V.Vault.held g.V.Vault.own g.V.Vault.stake c.args.vault.now in
    let after = holding g.V.Vault.held g.V.Vault.own g.V.Vault.stake c.change.new.vault in
    of_change before after c.args.self.now c.change.new.self c.args.statement c.in-Some.change c.change.result (sym c.change_of.ensures.value ∙ c.in-Some.is) c.change.ensures.ok

pub returns-in-None-clause-ok : goal.returns-in-None-clause-ok
returns-in-None-clause-ok g c =
    let vault = holding g.V.Vault.held g.V.Vault.own g.V.Vault.stake c.args.vault.now in
    c.pass_over.ensures vault c.args.statement
    (no_column vault.held c.args.self.now.queue c.args.statement c.requires (sym c.change_of.ensures.value ∙ c.in-None.is))
