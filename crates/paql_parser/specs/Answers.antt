-- Private: the contract of `parse`; what it means in a session is in `paql_engine`.
-- What the parser answers.
use Rattle.std.specs.Prelude.{ℕ, List, [], Option, Some, None, Result, Ok, Err}
use Rattle.paql_lexer.specs.declared.lexer.Token.{Token}
use Rattle.paql_lexer.specs.Tokens.{IsTokens, IsLexFault}
use Rattle.paql_ast.specs.declared.statements.Statement.{Statement}
use Rattle.formal_grammar.specs.Fault.{IsOnly}
use Rattle.paql_grammar.specs.Lexemes.{lexemes}
use Rattle.paql_grammar.specs.Statements.{statement}
use Rattle.paql_grammar.specs.Texts.{IsStatement, HasSyntaxFault, HasDeepFault, IsSyntaxAt}
use Rattle.paql_grammar.specs.Texts.{IsDeepAt}
use Rattle.paql_parser.specs.declared.fault.ParseFault.{ParseFault}
use Rattle.paql_parser.specs.declared.fault.ParseFault.TheVariants.{Lex, Syntax, Deep, Memory}

-- Of a text: the one statement that it spells, that it has no token, or a fault.
abbrev pub Answers : List ℕ → Result (Option Statement) ParseFault → Type 0
Answers text (Ok None) = IsTokens text []
Answers text (Ok (Some t)) = IsStatement text t
Answers text (Err (Lex at)) = IsLexFault text at
Answers text (Err (Syntax at)) = HasSyntaxFault text at
Answers text (Err (Deep at)) = HasDeepFault text at
Answers text (Err Memory) = Unit {0}

-- The same of the tokens of a text.
abbrev pub AnswersTokens : List ℕ → List Token → Result Statement ParseFault → Type 0
AnswersTokens text tokens (Ok t) = IsOnly (λ m. statement m) 64 (lexemes text tokens) t
AnswersTokens text tokens (Err (Lex at)) = ⊥
AnswersTokens text tokens (Err (Syntax at)) = IsSyntaxAt text tokens at
AnswersTokens text tokens (Err (Deep at)) = IsDeepAt text tokens at
AnswersTokens text tokens (Err Memory) = Unit {0}
