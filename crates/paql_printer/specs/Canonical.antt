-- Private: the law of canonical lexemes, for the printer.
-- What it means that the lexemes that are printed for a tree are a text of it.
use Rattle.std.specs.Prelude.{ℕ, List}
use Rattle.formal_grammar.specs.Lang.{Lang}
use Rattle.paql_grammar.specs.Lexemes.{Lexeme}
use Rattle.paql_grammar.specs.Statements.{statement}
use Rattle.paql_printer.specs.Print as print

-- Where a value has a text at all, the canonical lexemes are one.
abbrev pub Canonical : {A : Type 0} → Lang Lexeme A → (A → List Lexeme) → Type 0
Canonical {A = A} L print = (w : List Lexeme) (a : A) → L w a → L (print a) a

-- At each depth, a statement that has a text is spelled by its canonical lexemes.
abbrev pub StatementsAreCanonical : Type 0
StatementsAreCanonical = (n : ℕ) → Canonical (statement n) print.statement
