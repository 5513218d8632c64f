use Rattle.std.proofs.Common.{◌≡◌, None, true, rules}
use Rattle.std.specs.Prelude.{is_some}
use Rattle.session_proto.specs.Input.{content_of}
use Rattle.version_store.specs.Vaults.{holding}
use Rattle.paql_engine.proofs.LoadedRows.{load_unready, rows_loaded, many_loaded, body_refused}
use Rattle.paql_engine.proofs.session.Session.load.Goals as goal

pub returns-then-is_some-clause-ok : goal.returns-then-is_some-clause-ok
returns-then-is_some-clause-ok g c =
    let vault = holding g.V.Vault.held g.V.Vault.own g.V.Vault.stake c.args.vault.now in
    let opened : is_some c.args.self.now.queue ≡ true = search rules in
    load_unready vault c.args.self.now c.args.table (content_of c.args.body.now) c.unready.result opened c.unready.ensures

pub returns-in-Rows-clause-ok : goal.returns-in-Rows-clause-ok
returns-in-Rows-clause-ok g c =
    let before = holding g.V.Vault.held g.V.Vault.own g.V.Vault.stake c.args.vault.now in
    let mid = holding g.V.Vault.held g.V.Vault.own g.V.Vault.stake c.snapshot.new.self in
    let after = holding g.V.Vault.held g.V.Vault.own g.V.Vault.stake c.insert.new.vault in
    let free : c.args.self.now.queue ≡ None = search rules in
    let given = rw c.in-Rows.is at c.in_ok-rows.ensures in
    rows_loaded before mid after c.args.self.now c.args.table (content_of c.args.body.now) c.in_ok-snapshot.snapshot c.in-Rows.rows c.insert.result
    free c.snapshot.ensures.looks.sees c.in_ok-snapshot.ensures.looks.value given c.insert.ensures.ok

pub returns-in-Many-clause-ok : goal.returns-in-Many-clause-ok
returns-in-Many-clause-ok g c =
    let before = holding g.V.Vault.held g.V.Vault.own g.V.Vault.stake c.args.vault.now in
    let after = holding g.V.Vault.held g.V.Vault.own g.V.Vault.stake c.snapshot.new.self in
    let free : c.args.self.now.queue ≡ None = search rules in
    let many = rw c.in-Many.is at c.in_ok-rows.ensures in
    many_loaded before after c.args.self.now c.args.table (content_of c.args.body.now) c.in_ok-snapshot.snapshot c.in-Many.count c.too_many.result c.refused_commit.result
    free c.snapshot.ensures.looks.sees c.in_ok-snapshot.ensures.looks.value many c.too_many.ensures c.refused_commit.ensures

pub returns-in-Refused-clause-ok : goal.returns-in-Refused-clause-ok
returns-in-Refused-clause-ok g c =
    let before = holding g.V.Vault.held g.V.Vault.own g.V.Vault.stake c.args.vault.now in
    let after = holding g.V.Vault.held g.V.Vault.own g.V.Vault.stake c.snapshot.new.self in
    let free : c.args.self.now.queue ≡ None = search rules in
    let said = rw c.in-Refused.is at c.in_ok-rows.ensures in
    body_refused before after c.args.self.now c.args.table (content_of c.args.body.now) c.in_ok-snapshot.snapshot said.0 c.in-Refused.refusal c.refused.result
    free c.snapshot.ensures.looks.sees c.in_ok-snapshot.ensures.looks.value said.1 said.2 c.refused.ensures
