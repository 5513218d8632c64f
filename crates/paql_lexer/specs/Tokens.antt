-- Which tokens a text has, and where it has a fault.
use Rattle.std.specs.Prelude.{◌≡◌, ℕ, ◌+◌, ◌<◌, List, [], ◌∷◌, ◌++◌, length}
use Rattle.paql_lexer.specs.Lexical.{Is, IsGap, NoneAt}
use Rattle.paql_lexer.specs.declared.lexer.Token.{Token}
use Rattle.paql_lexer.specs.declared.lexer.LexFault.{LexFault}
use Rattle.paql_lexer.specs.declared.lexer.LexFault.TheVariants.{Lex, Memory}
use Rattle.paql_lexer.specs.declared.vocabulary.Kind.{Kind}

-- From the place `at` on the text is these tokens, each after a gap, then a gap, and then the
-- rest.
abbrev pub Reaches : ℕ → List ℕ → List Token → List ℕ → Type 0
Reaches at text [] rest = (gap : List ℕ) × IsGap gap rest × (text ≡ gap ++ rest)
Reaches at text (token ∷ tokens) rest = (gap word behind : List ℕ) × IsGap gap (word ++ behind)
    × Is token.kind word behind × (text ≡ gap ++ (word ++ behind)) × (token.start ≡ at + length gap)
    × (token.end ≡ token.start + length word) × Reaches token.end behind tokens rest

-- The text has just these tokens.
abbrev pub IsTokens : List ℕ → List Token → Type 0
IsTokens text tokens = Reaches 0 text tokens []

-- After some tokens and a gap no token begins at this place, though a byte is there.
pub record IsLexFault (text : List ℕ) (at : ℕ) : Type 0 where
  pub tokens : List Token
  pub rest : List ℕ
  pub before : Reaches 0 text tokens rest
  pub place : at + length rest ≡ length text
  pub byte : 0 < length rest
  pub none : (kind : Kind) → NoneAt (Is kind) rest

-- Why a text was given no list of tokens.
abbrev pub HasFault : List ℕ → LexFault → Type 0
HasFault text (Lex at) = IsLexFault text at
HasFault text Memory = Unit {0}

-- A text has at most one list of tokens.
abbrev pub OneCut : Type 0
OneCut = (text : List ℕ) (one other : List Token)
    → IsTokens text one → IsTokens text other → one ≡ other

-- Where a text has a fault, it has no list of tokens, and no other fault.
abbrev pub NoCut : Type 0
NoCut = (text : List ℕ) (at : ℕ) → IsLexFault text at
    → ((tokens : List Token) → ¬ IsTokens text tokens)
    × ((other : ℕ) → IsLexFault text other → at ≡ other)
