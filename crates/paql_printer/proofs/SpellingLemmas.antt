-- Signs and keywords are in one table, and a name is spelled as its kind says.
use Rattle.std.proofs.Common.{◌≡◌, ◌==◌, length, ℕ, Bool, true, false, if◌then◌else◌, List, [], ◌∷◌, ◌++◌, refl, sym, ap}
use Rattle.paql_lexer.specs.Keywords.{keywords}
use Rattle.paql_lexer.specs.declared.vocabulary.Kind.{Kind}
use Rattle.paql_lexer.specs.declared.vocabulary.Kind.TheVariants as kinds
use denote.Enum.Bare.{sameb}
use Rattle.paql_lexer.specs.contracts.vocabulary.Kind.{the_type}
use Rattle.paql_lexer.specs.Keywords.{word_kind}
use Rattle.paql_grammar.specs.Lexemes.{Lexeme}
use Rattle.paql_printer.specs.Spellings.{signs, spelling_in, name}

-- a kind that is no sign is looked for among the keywords
pub behind_signs : (kind : Kind) → (length (spelling_in signs kind) == 0) ≡ true → spelling_in (signs ++ keywords) kind ≡ spelling_in keywords kind
behind_signs kinds.LeftParen e = cc
behind_signs kinds.RightParen e = cc
behind_signs kinds.Comma e = cc
behind_signs kinds.Dot e = cc
behind_signs kinds.Star e = cc
behind_signs kinds.Plus e = cc
behind_signs kinds.Minus e = cc
behind_signs kinds.Equal e = cc
behind_signs kinds.Less e = cc
behind_signs kinds.LessOrEqual e = cc
behind_signs kinds.Greater e = cc
behind_signs kinds.GreaterOrEqual e = cc
behind_signs kinds.NotEqual e = cc
behind_signs _ e = refl

-- and a sign is found before them
pub among_signs : (kind : Kind) → (length (spelling_in signs kind) == 0) ≡ false → spelling_in (signs ++ keywords) kind ≡ spelling_in signs kind
among_signs kinds.LeftParen e = refl
among_signs kinds.RightParen e = refl
among_signs kinds.Comma e = refl
among_signs kinds.Dot e = refl
among_signs kinds.Star e = refl
among_signs kinds.Plus e = refl
among_signs kinds.Minus e = refl
among_signs kinds.Equal e = refl
among_signs kinds.Less e = refl
among_signs kinds.LessOrEqual e = refl
among_signs kinds.Greater e = refl
among_signs kinds.GreaterOrEqual e = refl
among_signs kinds.NotEqual e = refl
among_signs _ e = cc

abbrev pub plain : List ℕ → Lexeme
plain word = record { kind = kinds.Name; bytes = word }

abbrev pub in_quotes : List ℕ → Lexeme
in_quotes word = record { kind = kinds.QuotedName; bytes = 34 ∷ (word ++ 34 ∷ []) }

-- a word that is no keyword, and one that is
pub plain_name : (word : List ℕ) → sameb the_type (word_kind word) kinds.Name ≡ true → plain word ≡ name word
plain_name word e = ap (λ (free : Bool). if free then plain word else in_quotes word) (sym e)

pub quoted_name : (word : List ℕ) → sameb the_type (word_kind word) kinds.Name ≡ false → in_quotes word ≡ name word
quoted_name word e = ap (λ (free : Bool). if free then plain word else in_quotes word) (sym e)
