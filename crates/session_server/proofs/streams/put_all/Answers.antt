use Rattle.session_server.proofs.Writing.{writes_more}
use Rattle.session_server.proofs.streams.put_all.Goals as goal

pub loop-at-preserved : goal.loop-at-preserved
loop-at-preserved g c =
    let few = rw c.split_at.ensures.back at c.in-Took.ensures.bound.0 in
    let more = rw c.split_at.ensures.back at c.in-Took.ensures.bytes in
    writes_more _ _ _ c.args.text.now c.loop-at.at c.in-Took.count c.loop-at.invariant few more c.in-Took.ensures.cause.counts
