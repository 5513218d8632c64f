use Rattle.std.proofs.Common.{◌≡◌, ◌∙◌, ◌+◌, ◌-◌, ◌++◌, ◌∷◌, [], Bool, if◌then◌else◌, length, sym, ap}
use Rattle.paql_lexer.proofs.Reached.{reached_within, reached_fault, reached_more, some_from_test, made_of}
use Rattle.paql_lexer.proofs.lexer.tokens.Goals as goal

pub overflow_sub-start : goal.overflow_sub-start
overflow_sub-start c =
    reached_within c.args.text.now c.loop-rest.tokens.items c.loop-rest.rest.now c.loop-rest.invariant

pub returns-in_default-token_at : goal.returns-in_default-token_at
returns-in_default-token_at c =
    reached_fault c.args.text.now c.loop-rest.tokens.items c.loop-rest.rest.now c.loop-rest.invariant (some_from_test (length c.loop-rest.rest.now) c.loop-rest-test.ensures) c.in_default-token_at.ensures

pub loop-rest-preserved : goal.loop-rest-preserved
loop-rest-preserved c =
    let text = c.args.text.now in
    let rest = c.loop-rest.rest.now in
    let start = length text - length rest in
    let gap = c.skip_gap-rest-in-loop-rest.ensures in
    let next = c.skip_gap-rest-in-loop-rest.result.now in
    let reached = reached_more text c.loop-rest.tokens.items rest next c.in-Some.kind c.in-Some.len c.loop-rest.invariant c.in-Some.ensures (gap.0, gap.1, sym c.split_at.ensures.back ∙ gap.2) in
    let before = c.loop-rest.tokens.items in
    let after = before ++ made_of c.in-Some.kind start (start + c.in-Some.len) ∷ [] in
    let items : c.push.new.self.items ≡ after = c.push.ensures.items ∙ ap (λ (ok : Bool). if ok then after else before) c.if-is_err.ensures.negation in
    rw items reached
