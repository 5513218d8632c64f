-- Private: the printer: the spaces that it writes.
-- The text of lexemes, with the spaces of a canonical text between them.
use Rattle.std.specs.Prelude.{ℕ, Bool, not, ◌||◌, ◌&&◌, if◌then◌else◌, List, [], ◌∷◌, ◌++◌}
use Rattle.paql_lexer.specs.declared.vocabulary.Kind.TheVariants as kinds
use Rattle.paql_grammar.specs.Lexemes.{Lexeme, is, among}

-- A minus after this lexeme is between two terms of a sum: after a number or a bracket.
abbrev pub ends_term : Lexeme → Bool
ends_term = among (kinds.Number ∷ kinds.RightParen ∷ [])

-- The words whose bracket follows without a space.
abbrev pub calls : Lexeme → Bool
calls = among (kinds.Package ∷ kinds.Count ∷ kinds.Sum ∷ kinds.Avg ∷ kinds.Dec ∷ [])

-- No space is between the last lexeme and the next one, where `before` comes before the last.
abbrev pub touches : Lexeme → Lexeme → Lexeme → Bool
touches before last next =
    is kinds.Dot last || (is kinds.Dot next
    || (is kinds.LeftParen last || (is kinds.RightParen next || (is kinds.Comma next
    || ((is kinds.LeftParen next && calls last)
    || (is kinds.Minus last && not (ends_term before)))))))

-- The next lexemes, after these two.
abbrev pub spaced_behind : Lexeme → Lexeme → List Lexeme → List ℕ
spaced_behind before last [] = []
spaced_behind before last (next ∷ later) =
    (if touches before last next then next.bytes else 32 ∷ next.bytes)
    ++ spaced_behind last next later

-- One space is between two lexemes, or none where they touch.
abbrev pub spaced : List Lexeme → List ℕ
spaced [] = []
spaced (first ∷ later) = first.bytes ++ spaced_behind first first later
