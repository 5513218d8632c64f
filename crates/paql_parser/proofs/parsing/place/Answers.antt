use Rattle.std.proofs.Common.{◌≡◌, ◌∙◌, ap, ◌-◌, length, arith}
use Rattle.paql_grammar.specs.Texts.{place_of}
use Rattle.paql_parser.proofs.AnswerLemmas.{place_some, place_none}
use Rattle.paql_parser.proofs.parsing.place.Goals as goal

pub returns-in-Some : goal.returns-in-Some
returns-in-Some c =
    let tokens = c.args.tokens.now in
    let number : c.saturating_sub.result ≡ length tokens - c.args.left = omega (arith, c.saturating_sub.ensures) in
    let found = c.in-Some.ensures.lookup in
    place_some c.args.text.now tokens c.saturating_sub.result c.in-Some.token.now found.3.0 found.1 ∙ ap (λ n. place_of c.args.text.now tokens n) number

pub returns-in-None : goal.returns-in-None
returns-in-None c =
    let tokens = c.args.tokens.now in
    let number : c.saturating_sub.result ≡ length tokens - c.args.left = omega (arith, c.saturating_sub.ensures) in
    place_none c.args.text.now tokens c.saturating_sub.result c.in-None.ensures.lookup.3 ∙ ap (λ n. place_of c.args.text.now tokens n) number
