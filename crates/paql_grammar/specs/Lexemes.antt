-- Tokens with their bytes, what they show, and the languages of one token.
use Rattle.std.specs.Prelude.{ℕ, ◌-◌, Bool, true, false, ◌||◌, ◌==◌, if◌then◌else◌, List, [], ◌∷◌}
use Rattle.std.specs.Prelude.{length, take, drop, map, Option, Some, None}
use denote.Enum.Bare.{sameb}
use Rattle.paql_lexer.specs.contracts.vocabulary.Kind.{the_type}
use Rattle.paql_lexer.specs.declared.vocabulary.Kind.{Kind}
use Rattle.paql_lexer.specs.declared.vocabulary.Kind.TheVariants as kinds
use Rattle.paql_lexer.specs.declared.lexer.Token.{Token}
use Rattle.pq_base.specs.declared.scaled.Scaled.{Scaled}
use Rattle.formal_grammar.specs.Lang.{Lang, shown, one_of}
use Rattle.paql_grammar.specs.Numerals.{number_in, whole_in}

-- A token and its bytes in the text.
pub record Lexeme : Type 0 where
  pub kind : Kind
  pub bytes : List ℕ

abbrev pub lexeme : List ℕ → Token → Lexeme
lexeme text token =
    record { kind = token.kind; bytes = take (token.end - token.start) (drop token.start text) }

abbrev pub lexemes : List ℕ → List Token → List Lexeme
lexemes text tokens = map (lexeme text) tokens

-- The lexeme is of this kind.
abbrev pub is : Kind → Lexeme → Bool
is kind t = sameb the_type t.kind kind

-- The lexeme is of one of these kinds.
abbrev pub among : List Kind → Lexeme → Bool
among [] t = false
among (kind ∷ kinds) t = is kind t || among kinds t

-- What is between the first byte and the last.
abbrev pub inside : List ℕ → List ℕ
inside bytes = take (length bytes - 2) (drop 1 bytes)

-- The bytes of a name: a word, or the word inside double quotes.
abbrev pub name_of : Lexeme → Option (List ℕ)
name_of t =
    if is kinds.Name t then Some t.bytes
    else (if is kinds.QuotedName t then Some (inside t.bytes) else None)

-- The bytes without each quote that a quote comes before. Where `twin` is true, the first byte is
-- such a quote.
abbrev pub undoubled : Bool → List ℕ → List ℕ
undoubled twin [] = []
undoubled true (byte ∷ bytes) = undoubled false bytes
undoubled false (byte ∷ bytes) = byte ∷ undoubled (byte == 39) bytes

-- The content of a text.
abbrev pub content_of : Lexeme → Option (List ℕ)
content_of t = if is kinds.Text t then Some (undoubled false (inside t.bytes)) else None

-- The number that a token is, below zero or not.
abbrev pub number_of : Bool → Lexeme → Option Scaled
number_of minus t = if is kinds.Number t then number_in minus t.bytes else None

-- The number that a token without a point and with at most 18 digits is.
abbrev pub whole_of : Lexeme → Option ℕ
whole_of t = if is kinds.Number t then whole_in t.bytes else None

-- ---- languages of one token

abbrev pub word : Kind → Lang Lexeme (Unit {0})
word kind = one_of (is kind)

abbrev pub name : Lang Lexeme (List ℕ)
name = shown name_of

abbrev pub content : Lang Lexeme (List ℕ)
content = shown content_of

abbrev pub number : Bool → Lang Lexeme Scaled
number minus = shown (number_of minus)

abbrev pub whole : Lang Lexeme ℕ
whole = shown whole_of

-- The tokens that open one more level of a condition.
abbrev pub opens : Lexeme → Bool
opens = among (kinds.LeftParen ∷ kinds.Not ∷ [])
