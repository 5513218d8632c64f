-- Over a vault that nobody else commits to, what a session has seen rises by its own commits alone.
use Rattle.std.proofs.Common.{◌≡◌, ◌+◌, ◌≤◌, List, [], ◌∷◌, ap, arith}
use Rattle.paql_ast.specs.declared.statements.Statement.{Statement}
use Rattle.session_proto.specs.Input.{Content}
use Rattle.session_proto.specs.Replies.{ReplyData}
use Rattle.session_proto.specs.Sessions.{Frame}
use Rattle.version_store.specs.Histories.{History}
use Rattle.paql_engine.specs.Laws.{NobodyElse}
use Rattle.paql_engine.specs.State.{SessionState}
use Rattle.paql_engine.specs.Steps.{Steps, accepts, turns, asks, certifies, refuses as step_refuses, is_not_built, loads, refuses_load}
use Rattle.paql_engine.specs.Transcript.{Transcript, Answers, refuses, performs, lacks}

-- no more commits are a session's own than it sees
abbrev pub IsCounted : SessionState → SessionState → Type 0
IsCounted old new = old.seen + new.own ≤ new.seen + old.own

step_counted : (history : History) (old : SessionState) (t : Statement) (body : Content) (reply : ReplyData) (new : SessionState) → Steps history old t body reply new → IsCounted old new
step_counted history old t body reply new (accepts row) = omega (arith, row.commits.rose, row.commits.own)
step_counted history old t body reply new (turns row) = omega (arith, row.becomes.sees.later, row.becomes.own)
step_counted history old t body reply new (asks row) = omega (arith, row.becomes.sees.later, row.becomes.own)
step_counted history old t body reply new (certifies row) = omega (arith, row.stays.sees.later, row.stays.own)
step_counted history old t body reply new (step_refuses row) = omega (arith, row.stays.sees.later, row.stays.own)
step_counted history old t body reply new (is_not_built row) = omega (arith, row.stays.sees.later, row.stays.own)
step_counted history old t body reply new (loads row) = omega (arith, row.commits.rose, row.commits.own)
step_counted history old t body reply new (refuses_load row) = omega (arith, row.stays.sees.later, row.stays.own)

answer_counted : (history : History) (old : SessionState) (frame : Frame) (reply : ReplyData) (new : SessionState) → Answers history old frame reply new → IsCounted old new
answer_counted history old frame reply new (refuses row) =
    omega (arith, ap (λ (s : SessionState). s.seen) row.keeps, ap (λ (s : SessionState). s.own) row.keeps)
answer_counted history old frame reply new (performs row) = step_counted history old row.statement frame.content reply new row.steps
answer_counted history old frame reply new (lacks row) = omega (arith, row.stays.sees.later, row.stays.own)

counted : (history : History) (old new : SessionState) (frames : List Frame) (replies : List ReplyData) → Transcript (Answers history) old frames replies new → IsCounted old new
counted history old new [] [] same = omega (arith, ap (λ (s : SessionState). s.seen) same, ap (λ (s : SessionState). s.own) same)
counted history old new [] (reply ∷ replies) none = absurd none
counted history old new (frame ∷ frames) [] none = absurd none
counted history old new (frame ∷ frames) (reply ∷ replies) some =
    omega (arith, answer_counted history old frame reply some.0 some.1, counted history some.0 new frames replies some.2)

pub nobody_else : NobodyElse
nobody_else history old new [] [] same first last = same
nobody_else history old new [] (reply ∷ replies) none first last = absurd none
nobody_else history old new (frame ∷ frames) [] none first last = absurd none
nobody_else history old new (frame ∷ frames) (reply ∷ replies) some first last =
    let here = answer_counted history old frame reply some.0 some.1 in
    let rest = counted history some.0 new frames replies some.2 in
    let between : some.0.own ≡ some.0.seen = omega (arith, here, rest, first, last) in
    (some.0, record { answers = some.1; before = first; after = between }, nobody_else history some.0 new frames replies some.2 between last)
