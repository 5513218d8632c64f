use Rattle.std.proofs.Common.{refl}
use Rattle.paql_lexer.proofs.FoundLemmas.{text_unclosed, text_ill_formed, text_found, not_from_test}
use Rattle.paql_lexer.proofs.cuts.text_literal.Goals as goal

pub returns-in_default : goal.returns-in_default
returns-in_default c = text_unclosed c.args.body.now c.in_default.ensures

pub returns-then-not-is_utf8 : goal.returns-then-not-is_utf8
returns-then-not-is_utf8 c =
    let closed = c.in-Some.ensures in
    text_ill_formed c.args.body.now closed.0 c.in-Some.len closed.1 closed.2 (not_from_test c.if-not-is_utf8.ensures.1)

pub returns : goal.returns
returns c =
    let closed = c.in-Some.ensures in
    text_found c.args.body.now closed.0 c.in-Some.len closed.1 closed.2 (c.if-not-is_utf8.ensures.0 refl)
