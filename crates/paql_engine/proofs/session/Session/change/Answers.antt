use Rattle.std.proofs.Common.{Some}
use Rattle.version_store.specs.Vaults.{holding}
use Rattle.paql_engine.proofs.Rows.{queue_was, queued_steps, same_before}
use Rattle.paql_engine.proofs.session.Session.change.Goals as goal

pub returns-in-None-clause-ok : goal.returns-in-None-clause-ok
returns-in-None-clause-ok g c =
    let before = holding g.V.Vault.held g.V.Vault.own g.V.Vault.stake c.args.vault.now in
    let after = holding g.V.Vault.held g.V.Vault.own g.V.Vault.stake c.commit_alone.new.vault in
    same_before before after _ c.args.self.now c.commit_alone.new.self c.args.change c.commit_alone.result c.self.view_is c.commit_alone.ensures.ok

pub returns-in-Some-clause-ok : goal.returns-in-Some-clause-ok
returns-in-Some-clause-ok g c =
    let vault = holding g.V.Vault.held g.V.Vault.own g.V.Vault.stake c.args.vault.now in
    queued_steps vault c.args.self.now c.self.inside.kept c.in-Some.queue c.queued.new.queue c.args.change c.queued.result
    (queue_was c.args.self.now c.self.inside.queue (Some c.in-Some.queue) c.self.inside.kept c.self.view_is c.in-Some.is) c.queued.ensures.ok c.queued.ensures.pushed
