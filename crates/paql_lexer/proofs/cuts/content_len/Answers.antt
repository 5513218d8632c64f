use Rattle.std.proofs.Common.{get_or, List, ℕ, arith, subst}
use Rattle.paql_lexer.specs.Lexical.{GoesOn, Closes}
use Rattle.paql_lexer.proofs.Quotes.{content_more, content_closes, content_unclosed}
use Rattle.paql_lexer.proofs.cuts.content_len.Goals as goal

pub loop-at-preserved : goal.loop-at-preserved
loop-at-preserved c =
    let body = c.args.body.now in
    let goes = c.step_len-step.ensures.goes (omega arith) in
    content_more body c.loop-at.at c.step_len-step.result c.loop-at.invariant (omega arith) (subst (λ (w : List ℕ). GoesOn (get_or body c.loop-at.at 0) w c.step_len-step.result) c.split_at.ensures.back goes)

pub returns-then-step-eq0 : goal.returns-then-step-eq0
returns-then-step-eq0 c =
    let body = c.args.body.now in
    let closes = c.step_len-step.ensures.closes c.if-step-eq0.true in
    content_closes body c.loop-at.at c.loop-at.invariant (omega arith) (subst (λ (w : List ℕ). Closes (get_or body c.loop-at.at 0) w) c.split_at.ensures.back closes)

pub returns : goal.returns
returns c = content_unclosed c.args.body.now c.loop-at.at c.loop-at.invariant (omega arith)
