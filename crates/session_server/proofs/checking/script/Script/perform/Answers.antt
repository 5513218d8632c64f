use Rattle.std.proofs.lemmas.Result.{err_from_is_err_and}
use Rattle.paql_engine.specs.Replied.{reply_of}
use Rattle.session_proto.specs.Input.{content_of}
use Rattle.session_proto.specs.Sessions.{Frame}
use Rattle.version_store.specs.Vaults.{holding}
use Rattle.session_server.proofs.Scripts.{performs_nothing, performs_untold, performs_refused, performs_well}
use Rattle.session_server.proofs.checking.script.Script.perform.Goals as goal

pub returns-in_err-answer-clause-performs : goal.returns-in_err-answer-clause-performs
returns-in_err-answer-clause-performs g c = λ vault source now words after is other.
    let before = holding g.V.Vault.held g.V.Vault.own g.V.Vault.stake c.args.vault.now in
    let later = holding g.V.Vault.held g.V.Vault.own g.V.Vault.stake c.step.new.vault in
    let frame : Frame = record { text = words; content = content_of c.args.body.now } in
    let p = err_from_is_err_and c.from_residual.result c.from_residual.ensures.1 in
    rw (p.1, p.2) (performs_nothing vault before later source now frame c.args.self.now c.in_err-answer.ensures.grows c.in_err-answer.ensures.sees.own after)

pub returns-in_err-line-clause-performs : goal.returns-in_err-line-clause-performs
returns-in_err-line-clause-performs g c = λ vault source now words after is other.
    let before = holding g.V.Vault.held g.V.Vault.own g.V.Vault.stake c.args.vault.now in
    let later = holding g.V.Vault.held g.V.Vault.own g.V.Vault.stake c.step.new.vault in
    let frame : Frame = record { text = words; content = content_of c.args.body.now } in
    let p = err_from_is_err_and c.from_residual-in_err-line.result c.from_residual-in_err-line.ensures.1 in
    rw (p.1, p.2) (performs_untold vault before later source now frame c.args.statement (reply_of c.in_ok-answer.answer) c.args.self.now c.step.new.self c.in_ok-answer.ensures.ok c.in_ok-answer.ensures.grows c.in_err-line.ensures after)

pub returns-in-Some-clause-performs : goal.returns-in-Some-clause-performs
returns-in-Some-clause-performs g c = λ vault source now words after is other.
    let before = holding g.V.Vault.held g.V.Vault.own g.V.Vault.stake c.args.vault.now in
    let later = holding g.V.Vault.held g.V.Vault.own g.V.Vault.stake c.step.new.vault in
    let frame : Frame = record { text = words; content = content_of c.args.body.now } in
    let told = rw c.in-Some.is at c.in_ok-line.ensures in
    performs_refused vault before later source now frame c.args.statement (reply_of c.in_ok-answer.answer) c.args.self.now c.step.new.self c.in-Some.line is other c.in_ok-answer.ensures.ok c.in_ok-answer.ensures.grows told.0 told.1 after

pub returns-clause-performs : goal.returns-clause-performs
returns-clause-performs g c = λ vault source now words after is other.
    let before = holding g.V.Vault.held g.V.Vault.own g.V.Vault.stake c.args.vault.now in
    let later = holding g.V.Vault.held g.V.Vault.own g.V.Vault.stake c.step.new.vault in
    let frame : Frame = record { text = words; content = content_of c.args.body.now } in
    let told = rw c.in-None.is at c.in_ok-line.ensures in
    performs_well vault before later source now frame c.args.statement (reply_of c.in_ok-answer.answer) c.args.self.now c.step.new.self is other c.in_ok-answer.ensures.ok c.in_ok-answer.ensures.grows told after
