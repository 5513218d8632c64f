use Rattle.std.proofs.Common.{subst, arith}
use Rattle.paql_ast.specs.declared.statements.Statement.{Statement}
use Rattle.paql_grammar.specs.Texts.{IsStatement}
use Rattle.version_store.specs.Vaults.{holding}
use Rattle.session_server.proofs.Scripts.{stops_query, waits_for, after_text}
use Rattle.session_server.proofs.checking.script.Script.start.Goals as goal

pub returns-in-Query-clause-starts : goal.returns-in-Query-clause-starts
returns-in-Query-clause-starts g c = λ vault source now words framed is.
    let before = holding g.V.Vault.held g.V.Vault.own g.V.Vault.stake c.args.vault.now in
    stops_query vault before source now words c.args.self.now c.in-Query.query framed (subst (λ (u : Statement). IsStatement words u) c.in-Query.is is)

pub returns-in-Load-clause-starts : goal.returns-in-Load-clause-starts
returns-in-Load-clause-starts g c = λ vault source now words framed is.
    let before = holding g.V.Vault.held g.V.Vault.own g.V.Vault.stake c.args.vault.now in
    rw c.want_body.ensures (waits_for vault before source now words c.in-Load.table c.in-Load.bytes c.args.self.now framed (subst (λ (u : Statement). IsStatement words u) c.in-Load.is is))

pub returns-in_default : goal.returns-in_default
returns-in_default g c =
    let before = holding g.V.Vault.held g.V.Vault.own g.V.Vault.stake c.args.vault.now in
    record {
      starts = λ vault source now words framed is.
          c.perform.ensures.performs vault source now words (after_text vault before source now words c.args.self.now c.args.statement framed is c.in_default.not-Load) is c.in_default.not-Query;
      little = omega (arith, c.perform.ensures.same);
    }
