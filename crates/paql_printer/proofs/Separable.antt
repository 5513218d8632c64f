-- Lexemes of which no two become one where no space is between them.
use Rattle.std.proofs.Common.{ℕ, ◌&&◌, IsFalse, List, [], ◌∷◌}
use Rattle.paql_lexer.specs.Lexical.{Is}
use Rattle.paql_lexer.specs.declared.vocabulary.Kind.TheVariants as kinds
use Rattle.paql_grammar.specs.Lexemes.{Lexeme, is}

-- The bytes are a token of the kind, before some rest.
abbrev pub IsToken : Lexeme → Type 0
IsToken t = (rest : List ℕ) × Is t.kind t.bytes rest

-- Each is a token.
abbrev pub AreTokens : List Lexeme → Type 0
AreTokens [] = Unit {0}
AreTokens (t ∷ later) = IsToken t × AreTokens later

-- The lexemes don't become one: a number and a point may, and two minuses begin a comment.
pub record Apart (t next : Lexeme) : Type 0 where
  pub number : IsFalse (is kinds.Number t && is kinds.Dot next)
  pub minus : IsFalse (is kinds.Minus t && is kinds.Minus next)

abbrev pub ApartFrom : Lexeme → List Lexeme → Type 0
ApartFrom t [] = Unit {0}
ApartFrom t (next ∷ later) = Apart t next

-- Tokens each of which stays apart from the next.
abbrev pub Separable : List Lexeme → Type 0
Separable [] = Unit {0}
Separable (t ∷ later) = IsToken t × ApartFrom t later × Separable later
