use Rattle.version_store.specs.Vaults.{holding}
use Rattle.paql_engine.proofs.LoadedRows.{insert_accepted, insert_declined}
use Rattle.paql_engine.proofs.session.insert.Goals as goal

pub returns-in-Ok-clause-ok : goal.returns-in-Ok-clause-ok
returns-in-Ok-clause-ok g c =
    let before = holding g.V.Vault.held g.V.Vault.own g.V.Vault.stake c.args.vault.now in
    let after = holding g.V.Vault.held g.V.Vault.own g.V.Vault.stake c.commit-2.new.self in
    insert_accepted before after c.args.table c.args.rows c.new-commit.result _ c.in-Ok.committed
    c.new-commit.ensures c.in_ok-push.ensures.ok (rw c.in-Ok.is at c.commit-2.ensures.answers)

pub returns-clause-ok : goal.returns-clause-ok
returns-clause-ok g c =
    let before = holding g.V.Vault.held g.V.Vault.own g.V.Vault.stake c.args.vault.now in
    let after = holding g.V.Vault.held g.V.Vault.own g.V.Vault.stake c.commit-2.new.self in
    let comes = rw c.in-Err.is at c.commit-2.ensures.answers in
    insert_declined before after c.args.table c.args.rows c.new-commit.result _ c.in-Err.fault c.refused_commit.result
    c.new-commit.ensures c.in_ok-push.ensures.ok comes.0 c.refused_commit.ensures
