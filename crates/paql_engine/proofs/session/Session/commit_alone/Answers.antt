use Rattle.std.proofs.Common.{refl}
use Rattle.version_store.specs.Vaults.{holding}
use Rattle.paql_engine.proofs.Rows.{alone_accepted, alone_refused, grows_joined, grows_seen, seen_on_err}
use Rattle.paql_engine.proofs.session.Session.commit_alone.Goals as goal

pub returns-in-Ok-clause-ok : goal.returns-in-Ok-clause-ok
returns-in-Ok-clause-ok g c =
    let before = holding g.V.Vault.held g.V.Vault.own g.V.Vault.stake c.args.vault.now in
    let after = holding g.V.Vault.held g.V.Vault.own g.V.Vault.stake c.commit-2.new.self in
    alone_accepted before after c.args.self.now c.args.self.now.queue c.args.self.now.kept c.args.change c.new-commit.result _ c.accepted_as-accepted.result c.in-Ok.committed
    refl c.requires.alone c.new-commit.ensures c.in_ok-push.ensures.ok c.accepted_as-accepted.ensures (rw c.in-Ok.is at c.commit-2.ensures.answers)

pub returns-in-Ok-clause-grows : goal.returns-in-Ok-clause-grows
returns-in-Ok-clause-grows g c =
    let before = holding g.V.Vault.held g.V.Vault.own g.V.Vault.stake c.args.vault.now in
    let after = holding g.V.Vault.held g.V.Vault.own g.V.Vault.stake c.commit-2.new.self in
    grows_joined before after _ c.in-Ok.committed (rw c.in-Ok.is at c.commit-2.ensures.answers)

pub returns-clause-ok : goal.returns-clause-ok
returns-clause-ok g c =
    let before = holding g.V.Vault.held g.V.Vault.own g.V.Vault.stake c.args.vault.now in
    let after = holding g.V.Vault.held g.V.Vault.own g.V.Vault.stake c.commit-2.new.self in
    let comes = rw c.in-Err.is at c.commit-2.ensures.answers in
    alone_refused before after c.args.self.now c.args.self.now.queue c.args.self.now.kept c.args.change c.new-commit.result _ c.in-Err.fault c.refused_commit.result
    refl c.requires.alone c.new-commit.ensures c.in_ok-push.ensures.ok comes.0 c.refused_commit.ensures

pub returns-clause-grows : goal.returns-clause-grows
returns-clause-grows g c =
    let before = holding g.V.Vault.held g.V.Vault.own g.V.Vault.stake c.args.vault.now in
    let after = holding g.V.Vault.held g.V.Vault.own g.V.Vault.stake c.commit-2.new.self in
    let comes = rw c.in-Err.is at c.commit-2.ensures.answers in
    grows_seen before after comes.0.sees

pub returns-clause-sees : goal.returns-clause-sees
returns-clause-sees g c =
    let before = holding g.V.Vault.held g.V.Vault.own g.V.Vault.stake c.args.vault.now in
    let after = holding g.V.Vault.held g.V.Vault.own g.V.Vault.stake c.commit-2.new.self in
    let comes = rw c.in-Err.is at c.commit-2.ensures.answers in
    seen_on_err before after c.refused_commit.result comes.0.sees
