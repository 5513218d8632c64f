-- A fault of the parser is the fault of the text.
use Rattle.std.proofs.Common.{Err, subst}
use Rattle.paql_parser.specs.Answers.{Answers}
use Rattle.paql_parser.specs.declared.fault.ParseFault.{ParseFault}
use Rattle.paql_engine.specs.Texts.{lex, syntax, deep}
use Rattle.session_server.proofs.reading.read_text.Goals as goal

pub returns-in-Err-Lex : goal.returns-in-Err-Lex
returns-in-Err-Lex c = lex c.in-Err-Lex.at (subst (λ (fault : ParseFault). Answers c.args.text.now (Err fault)) c.in-Err-Lex.field-0-is c.in-Err-Lex.ensures.answer)

pub returns-in-Err-Syntax : goal.returns-in-Err-Syntax
returns-in-Err-Syntax c = syntax c.in-Err-Syntax.at (subst (λ (fault : ParseFault). Answers c.args.text.now (Err fault)) c.in-Err-Syntax.field-0-is c.in-Err-Syntax.ensures.answer)

pub returns-in-Err-Deep : goal.returns-in-Err-Deep
returns-in-Err-Deep c = deep c.in-Err-Deep.at (subst (λ (fault : ParseFault). Answers c.args.text.now (Err fault)) c.in-Err-Deep.field-0-is c.in-Err-Deep.ensures.answer)
