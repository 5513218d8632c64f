use Rattle.std.proofs.Common.{◌-◌, ◌∙◌, arith}
use Rattle.std.proofs.lemmas.Result.{err_from_is_err_and}
use Rattle.session_server.proofs.ReadingOn.{throws_more, reads_no_more}
use Rattle.session_server.proofs.checking.reading_on.throw_away.Goals as goal

pub returns-in_err-count : goal.returns-in_err-count
returns-in_err-count g c =
    let p = err_from_is_err_and c.from_residual.result c.from_residual.ensures.1 in
    let on = c.loop-count.invariant.0 in
    rw (p.1, p.2) (on.0, reads_no_more _ _ _ _ _ on.0 c.read_piece.new.buf _ on.1 c.in_err-count.ensures.reads)

pub loop-count-smaller : goal.loop-count-smaller
loop-count-smaller g c = omega (arith, c.in_ok-count.ensures.reads.1, c.if-count-eq0.false)

pub loop-count-preserved : goal.loop-count-preserved
loop-count-preserved g c =
    (throws_more _ _ _ _ _ c.in_ok-count.count c.read_piece.new.buf c.loop-count.invariant.0 c.in_ok-count.ensures.reads, c.read_piece.ensures.buffer ∙ c.loop-count.invariant.1)
