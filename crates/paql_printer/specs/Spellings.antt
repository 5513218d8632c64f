-- Private: the printer: the lexemes of words, names, texts and numbers.
-- The canonical lexemes of words and signs, names, texts and numbers.
use Rattle.std.specs.Prelude.{ℕ, if◌then◌else◌, List, [], ◌∷◌, ◌++◌, codes}
use Rattle.std.specs.Fmt.{decimal}
use denote.Enum.Bare.{sameb}
use Rattle.pq_base.specs.Decimal.{is_negative, printed_parts, unsigned_text}
use Rattle.pq_base.specs.declared.scaled.Scaled.{Scaled}
use Rattle.paql_lexer.specs.Keywords.{keywords, word_kind}
use Rattle.paql_lexer.specs.Lexical.{doubled}
use Rattle.paql_lexer.specs.contracts.vocabulary.Kind.{the_type}
use Rattle.paql_lexer.specs.declared.vocabulary.Kind.{Kind}
use Rattle.paql_lexer.specs.declared.vocabulary.Kind.TheVariants as kinds
use Rattle.paql_grammar.specs.Lexemes.{Lexeme}

-- The signs, each with its kind.
abbrev pub signs : List (List ℕ × Kind)
signs =
    (codes "(", kinds.LeftParen) ∷ (codes ")", kinds.RightParen) ∷ (codes ",", kinds.Comma) ∷
    (codes ".", kinds.Dot) ∷ (codes "*", kinds.Star) ∷ (codes "+", kinds.Plus) ∷
    (codes "-", kinds.Minus) ∷ (codes "=", kinds.Equal) ∷ (codes "<", kinds.Less) ∷
    (codes "<=", kinds.LessOrEqual) ∷ (codes ">", kinds.Greater) ∷
    (codes ">=", kinds.GreaterOrEqual) ∷ (codes "<>", kinds.NotEqual) ∷ []

-- The bytes that are beside the kind.
abbrev pub spelling_in : List (List ℕ × Kind) → Kind → List ℕ
spelling_in [] kind = []
spelling_in (entry ∷ entries) kind =
    if sameb the_type entry.1 kind then entry.0 else spelling_in entries kind

-- A keyword in upper case, or a sign.
abbrev pub spelled : Kind → Lexeme
spelled kind = record { kind = kind; bytes = spelling_in (signs ++ keywords) kind }

-- A name, in double quotes where it would be a keyword.
abbrev pub name : List ℕ → Lexeme
name word =
    if sameb the_type (word_kind word) kinds.Name
    then record { kind = kinds.Name; bytes = word }
    else record { kind = kinds.QuotedName; bytes = 34 ∷ (word ++ 34 ∷ []) }

-- A text, in which each quote is doubled.
abbrev pub quoted : List ℕ → Lexeme
quoted content = record { kind = kinds.Text; bytes = 39 ∷ (doubled content ++ 39 ∷ []) }

-- The magnitude of a number, without zeros at the end after the point.
abbrev pub number : Scaled → Lexeme
number value =
    record { kind = kinds.Number; bytes = unsigned_text (printed_parts value.mant value.scale) }

abbrev pub whole : ℕ → Lexeme
whole value = record { kind = kinds.Number; bytes = decimal value }

-- A number, after a minus where it is below zero.
abbrev pub signed : Scaled → List Lexeme
signed value =
    if is_negative value.mant then spelled kinds.Minus ∷ (number value ∷ []) else number value ∷ []
