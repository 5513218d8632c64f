use Rattle.formal_grammar.proofs.Whole.{found_by}
use Rattle.paql_grammar.specs.Lexemes.{lexemes}
use Rattle.paql_grammar.proofs.StatementRules.{exact_statement}
use Rattle.paql_grammar.proofs.TextRules.{syntax_at, deep_at}
use Rattle.paql_parser.proofs.parsing.parse_tokens.Goals as goal

pub returns-in-Ok : goal.returns-in-Ok
returns-in-Ok c = found_by (exact_statement 64) (lexemes c.args.text.now c.args.tokens.now) c.in-Ok.statement c.in-Ok.ensures

pub returns-in-Err-Stopped-Syntax-default : goal.returns-in-Err-Stopped-Syntax-default
returns-in-Err-Stopped-Syntax-default c =
    let x = c.in-Err-Stopped-Syntax-default in
    syntax_at c.args.text.now c.args.tokens.now x.left c.place.result (rw (x.field-0-is, x.field-0-0-is) at x.ensures) c.place.ensures

pub returns-in-Err-Stopped-Deep-default : goal.returns-in-Err-Stopped-Deep-default
returns-in-Err-Stopped-Deep-default c =
    let x = c.in-Err-Stopped-Deep-default in
    deep_at c.args.text.now c.args.tokens.now x.left c.place-in-Err-Stopped-Deep-default.result (rw (x.field-0-is, x.field-0-0-is) at x.ensures) c.place-in-Err-Stopped-Deep-default.ensures
