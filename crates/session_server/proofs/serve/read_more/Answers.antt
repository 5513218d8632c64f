use Rattle.std.proofs.Common.{refl, rules}
use Rattle.paql_engine.specs.Conversation.{input_ended, read_failed}
use Rattle.session_server.proofs.Running.{reads_nothing, consumes_nothing}
use Rattle.session_server.proofs.serve.read_more.Goals as goal

pub returns-in-Failed : goal.returns-in-Failed
returns-in-Failed g c =
    reads_nothing _ _ c.args.machine.now c.read_failed.new.self read_failed (consumes_nothing _ _ c.in-Failed.ensures.bytes) c.read_failed.ensures.continues c.read_failed.ensures.told
    c.in-Failed.ensures.cause.counts c.read_failed.ensures.turns

pub returns-in-Got-eq0 : goal.returns-in-Got-eq0
returns-in-Got-eq0 g c =
    let moved = rw c.in-Got-eq0.field-0-test at c.in-Got-eq0.ensures.bytes in
    reads_nothing _ _ c.args.machine.now c.input_ended.new.self input_ended moved.0 c.input_ended.ensures.continues c.input_ended.ensures.told
    (c.in-Got-eq0.ensures.cause.counts, moved.1 refl (search rules)) c.input_ended.ensures.turns
