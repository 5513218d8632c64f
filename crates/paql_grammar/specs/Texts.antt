-- The statements of texts, and the places of faults in them.
use Rattle.std.specs.Prelude.{◌≡◌, ℕ, zero, suc, ◌<◌, List, [], ◌∷◌, length}
use Rattle.paql_lexer.specs.declared.lexer.Token.{Token}
use Rattle.paql_lexer.specs.Tokens.{IsTokens}
use Rattle.paql_ast.specs.declared.statements.Statement.{Statement}
use Rattle.formal_grammar.specs.Fault.{IsOnly, IsSyntaxFault, IsDeepFault}
use Rattle.paql_grammar.specs.Lexemes.{lexemes, opens}
use Rattle.paql_grammar.specs.Statements.{statement}

-- The text spells this statement, with at most n brackets and NOTs of a condition open at one
-- place.
abbrev pub Spells : ℕ → List ℕ → Statement → Type 0
Spells n text t = (tokens : List Token) × IsTokens text tokens × statement n (lexemes text tokens) t

-- The text spells this statement at depth 64, and no other, whatever the depth.
pub record IsStatement (text : List ℕ) (t : Statement) : Type 0 where
  pub tokens : List Token
  pub cut : IsTokens text tokens
  pub spelled : IsOnly (λ m. statement m) 64 (lexemes text tokens) t

-- The place in the text of the token with this number, or the text's length at the end of the
-- tokens.
abbrev pub place_of : List ℕ → List Token → ℕ → ℕ
place_of text [] number = length text
place_of text (token ∷ tokens) zero = token.start
place_of text (token ∷ tokens) (suc number) = place_of text tokens number

-- Among these tokens of the text the one at this place, or the end there, is a fault of syntax.
abbrev pub IsSyntaxAt : List ℕ → List Token → ℕ → Type 0
IsSyntaxAt text tokens at =
    (number : ℕ) × (at ≡ place_of text tokens number)
    × IsSyntaxFault (λ m. statement m) 64 (lexemes text tokens) number

-- Among these tokens of the text the one at this place opens one level too many.
abbrev pub IsDeepAt : List ℕ → List Token → ℕ → Type 0
IsDeepAt text tokens at =
    (number : ℕ) × (at ≡ place_of text tokens number)
    × IsDeepFault opens (λ m. statement m) 64 (lexemes text tokens) number

-- The text has tokens, and with the one at this place, or with the end there, they begin no
-- statement, whatever the depth.
pub record HasSyntaxFault (text : List ℕ) (at : ℕ) : Type 0 where
  pub tokens : List Token
  pub cut : IsTokens text tokens
  pub some : 0 < length tokens
  pub fault : IsSyntaxAt text tokens at

-- With the bracket or NOT at this place the tokens begin only statements that nest more deeply than
-- 64.
pub record HasDeepFault (text : List ℕ) (at : ℕ) : Type 0 where
  pub tokens : List Token
  pub cut : IsTokens text tokens
  pub fault : IsDeepAt text tokens at

-- A text spells one statement at most.
abbrev pub OneTree : Type 0
OneTree = (m n : ℕ) (text : List ℕ) (t u : Statement) → Spells m text t → Spells n text u → t ≡ u
