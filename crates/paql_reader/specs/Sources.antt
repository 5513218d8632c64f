-- Private: the reader and the parser: the lexemes that a source has still to give.
-- The lexemes that are still to be read, and what it means to read their start.
use Rattle.std.specs.Prelude.{List, Result}
use Rattle.formal_grammar.specs.declared.stop.ReadError.{ReadError}
use Rattle.formal_grammar.specs.Parse.{Parser, Gives}
use Rattle.paql_grammar.specs.Lexemes.{Lexeme, lexemes}
use Rattle.paql_reader.specs.declared.source.Source.{Source}

abbrev pub left : Source → List Lexeme
left source = lexemes source.text.now source.tokens.now

-- What a function returned, and the source after it, are what the reading gives of the source that
-- it was given, unless memory ran out.
abbrev pub Follows : {A : Type 0} → Result (A × Source) ReadError → Parser Lexeme A → Source
    → Type 0
Follows result reading source = Gives (λ x. (x.0, left x.1)) result (reading (left source))
