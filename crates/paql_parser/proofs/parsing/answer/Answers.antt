use Rattle.std.proofs.Common.{◌<◌, List, sym, subst, arith}
use Rattle.std.specs.Vec.{vec_len}
use Rattle.paql_lexer.specs.declared.lexer.Token.{Token}
use Rattle.paql_lexer.specs.Tokens.{IsTokens}
use Rattle.paql_lexer.proofs.Reached.{some_from_test}
use Rattle.paql_parser.proofs.AnswerLemmas.{fault_of}
use Rattle.paql_parser.proofs.parsing.answer.Goals as goal

pub returns : goal.returns
returns c =
    let text = c.args.text.now in
    let cut = subst (λ (ts : List Token). IsTokens text ts) (sym c.as_slice.ensures.value) c.in-Ok.ensures in
    let some : 0 < vec_len c.in-Ok.tokens = some_from_test (vec_len c.in-Ok.tokens) c.if-is_empty.ensures in
    fault_of text c.as_slice.result.now c.in-Err.fault cut (omega (arith, some, c.as_slice.ensures.len)) c.in-Err.ensures
