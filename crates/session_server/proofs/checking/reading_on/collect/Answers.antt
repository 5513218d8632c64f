use Rattle.std.proofs.Common.{◌-◌, ◌++◌, ◌∙◌, take, arith}
use Rattle.std.proofs.lemmas.Result.{err_from_is_err_and}
use Rattle.session_server.proofs.ReadingOn.{reads_more, collects_more, reads_no_more, reads_in_vain}
use Rattle.session_server.proofs.checking.reading_on.collect.Goals as goal

pub returns-in_err-count : goal.returns-in_err-count
returns-in_err-count g c =
    let p = err_from_is_err_and c.from_residual.result c.from_residual.ensures.1 in
    let on = c.loop-all.invariant.0 in
    rw (p.1, p.2) (on.0, reads_no_more _ _ _ _ _ on.0 c.read_piece.new.buf _ on.1 c.in_err-count.ensures.reads)

pub loop-all-smaller : goal.loop-all-smaller
loop-all-smaller g c = omega (arith, c.in_ok-count.ensures.reads.1, c.if-count-eq0.false)

pub loop-all-preserved : goal.loop-all-preserved
loop-all-preserved g c =
    let more = collects_more _ _ _ _ _ c.in_ok-count.count c.args.before.items c.loop-all.all.items c.read_piece.new.buf c.loop-all.invariant.0 c.in_ok-count.ensures.reads in
    (rw c.in_ok-extend_from_slice.ensures.items more, c.read_piece.ensures.buffer ∙ c.loop-all.invariant.1)

pub returns-in_err-extend_from_slice : goal.returns-in_err-extend_from_slice
returns-in_err-extend_from_slice g c =
    let p = err_from_is_err_and c.from_residual-in_err-extend_from_slice.result c.from_residual-in_err-extend_from_slice.ensures.1 in
    let on = c.loop-all.invariant.0 in
    let later = reads_more _ _ _ _ _ c.in_ok-count.count on.0 c.read_piece.new.buf on.1 c.in_ok-count.ensures.reads in
    rw (p.1, p.2) (on.0 ++ take c.in_ok-count.count c.read_piece.new.buf, reads_in_vain _ _ _ _ _ later)
