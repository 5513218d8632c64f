use Rattle.std.proofs.lemmas.Result.{err_from_is_err_and}
use Rattle.session_server.proofs.Scripts.{is_fed, fed_in_vain, is_not_read}
use Rattle.session_server.proofs.checking.script.Script.read_more.Goals as goal

pub returns-in_err-count-clause-reads : goal.returns-in_err-count-clause-reads
returns-in_err-count-clause-reads g c = λ vault vault_now source is.
    let p = err_from_is_err_and c.from_residual.result c.from_residual.ensures.1 in
    rw (p.1, p.2) (is_not_read vault vault_now source _ _ c.args.self.now c.read_piece.new.buf _ is c.in_err-count.ensures.reads)

pub returns-in_err-feed-clause-reads : goal.returns-in_err-feed-clause-reads
returns-in_err-feed-clause-reads g c = λ vault vault_now source is.
    let p = err_from_is_err_and c.from_residual-in_err-feed.result c.from_residual-in_err-feed.ensures.1 in
    rw (p.1, p.2) (fed_in_vain vault vault_now source _ _ c.args.self.now c.in_ok-count.count c.read_piece.new.buf is c.in_ok-count.ensures.reads)

pub returns-clause-reads : goal.returns-clause-reads
returns-clause-reads g c = λ vault vault_now source is.
    is_fed vault vault_now source _ _ c.args.self.now c.in_ok-count.count c.read_piece.new.buf c.feed.new.self is c.in_ok-count.ensures.reads c.in_ok-feed.ensures.ok
