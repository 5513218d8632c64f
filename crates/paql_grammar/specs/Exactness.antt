-- Private: the law that statements are read exactly.
-- What it means that statements are read exactly.
use Rattle.std.specs.Prelude.{ℕ, List}
use Rattle.formal_grammar.specs.Parse.{all_of}
use Rattle.formal_grammar.specs.Fault.{Judges}
use Rattle.paql_grammar.specs.Lexemes.{Lexeme, opens}
use Rattle.paql_grammar.specs.Statements.{statement}
use Rattle.paql_grammar.specs.StatementReading as read

-- At each depth the reading of all of the lexemes answers the one statement that they spell, or the
-- fault: the first lexeme with which they begin no statement, or with which they begin only
-- statements of more depth.
abbrev pub StatementsAreRead : Type 0
StatementsAreRead = (n : ℕ) (tokens : List Lexeme)
    → Judges opens (λ m. statement m) n tokens (all_of (read.statement n) tokens)
