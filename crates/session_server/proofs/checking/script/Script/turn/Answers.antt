use Rattle.std.proofs.lemmas.Result.{err_from_is_err_and}
use Rattle.version_store.specs.Vaults.{holding}
use Rattle.session_server.proofs.Scripts.{needs_more, is_too_long}
use Rattle.session_server.proofs.checking.script.Script.turn.Goals as goal

pub returns-in_err-read_more-in-Need-clause-turns :
    goal.returns-in_err-read_more-in-Need-clause-turns
returns-in_err-read_more-in-Need-clause-turns g c = λ vault source on.
    let before = holding g.V.Vault.held g.V.Vault.own g.V.Vault.stake c.args.vault.now in
    let p = err_from_is_err_and c.from_residual-in_err-read_more-in-Need.result c.from_residual-in_err-read_more-in-Need.ensures.1 in
    let next = rw c.in-Need.is at c.in_ok-text.ensures.ok in
    rw (p.1, p.2) (c.in_err-read_more-in-Need.ensures.reads vault before source (needs_more vault before source _ c.args.self.now c.next.new.self next on))

pub returns-in-TooLong-clause-turns : goal.returns-in-TooLong-clause-turns
returns-in-TooLong-clause-turns g c = λ vault source on.
    let before = holding g.V.Vault.held g.V.Vault.own g.V.Vault.stake c.args.vault.now in
    is_too_long vault before source _ c.args.self.now c.next.new.self (rw c.in-TooLong.is at c.in_ok-text.ensures.ok) on

pub returns-in_ok-read_more-in-Need-clause-turns :
    goal.returns-in_ok-read_more-in-Need-clause-turns
returns-in_ok-read_more-in-Need-clause-turns g c = λ vault source on.
    let before = holding g.V.Vault.held g.V.Vault.own g.V.Vault.stake c.args.vault.now in
    let next = rw c.in-Need.is at c.in_ok-text.ensures.ok in
    c.in_ok-read_more-in-Need.ensures.reads vault before source (needs_more vault before source _ c.args.self.now c.next.new.self next on)
