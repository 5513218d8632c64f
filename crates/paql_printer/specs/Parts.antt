-- Private: the printer: lexemes of parts that a function of their own writes.
-- The lexemes of parts that a function of its own writes.
use Rattle.std.specs.Prelude.{ℕ, Bool, true, false, ◌==◌, if◌then◌else◌, List, [], ◌∷◌}
use Rattle.paql_lexer.specs.declared.vocabulary.Kind.{Kind}
use Rattle.paql_lexer.specs.declared.vocabulary.Kind.TheVariants as kinds
use Rattle.paql_ast.specs.declared.conditions.Pred.{Pred}
use Rattle.paql_ast.specs.declared.conditions.Pred.TheFolds.{fold-Pred}
use Rattle.paql_grammar.specs.Lexemes.{Lexeme}
use Rattle.paql_printer.specs.Spellings.{spelled, name}
use Rattle.paql_printer.specs.Print.{Held, held, at_least}

-- What comes before the part at this place: the word, but for the first part.
abbrev pub separator : Kind → ℕ → List Lexeme
separator kind at = if at == 0 then [] else spelled kind ∷ []

-- How a condition is printed, and how tightly it holds together.
abbrev pub held_of : Pred → Held
held_of = fold-Pred Held held

-- A condition, in brackets unless it holds together as tightly as is wanted here.
abbrev pub part : ℕ → Pred → List Lexeme
part level of = at_least level (held_of of)

-- The sign of the term at this place: the first one has none, or a minus.
abbrev pub sign : ℕ → Bool → List Lexeme
sign at true = spelled kinds.Minus ∷ []
sign at false = separator kinds.Plus at

-- All rows of a package.
abbrev pub all_of : List ℕ → List Lexeme
all_of package_name = name package_name ∷ (spelled kinds.Dot ∷ (spelled kinds.Star ∷ []))

abbrev pub named : List ℕ → List Lexeme
named word = name word ∷ []
