-- Private: the printer: the text that is written so far.
-- The prefix of a text that is being written.
use Rattle.std.specs.Prelude.{◌≡◌, ℕ, if◌then◌else◌, List, [], ◌∷◌, ◌++◌, fold, Result, OnOk}
use Rattle.paql_lexer.specs.declared.vocabulary.Kind.{Kind}
use Rattle.paql_lexer.specs.declared.vocabulary.Kind.TheVariants as kinds
use Rattle.paql_grammar.specs.Lexemes.{Lexeme}
use Rattle.paql_printer.specs.Spacing.{touches}

-- The bytes so far, and the kinds of the last two lexemes.
pub record Front : Type 0 where
  pub bytes : List ℕ
  pub before : Kind
  pub last : Kind

-- Before the first lexeme, which has no space before it, as after a bracket.
abbrev pub start : Front
start = record { bytes = []; before = kinds.LeftParen; last = kinds.LeftParen }

-- A lexeme of this kind, without its bytes.
abbrev pub of_kind : Kind → Lexeme
of_kind kind = record { kind = kind; bytes = [] }

-- A lexeme of this kind begins, after a space where it doesn't touch the last one.
unfoldable pub begun : Front → Kind → Front
begun front kind = record {
  bytes = if touches (of_kind front.before) (of_kind front.last) (of_kind kind) then front.bytes
      else front.bytes ++ 32 ∷ [];
  before = front.last;
  last = kind;
}

-- The last lexeme has these bytes too.
unfoldable pub more : Front → List ℕ → Front
more front bytes = record front { bytes = front.bytes ++ bytes }

-- One more lexeme.
unfoldable pub put : Front → Lexeme → Front
put front next = more (begun front next.kind) next.bytes

-- More lexemes.
abbrev pub written : Front → List Lexeme → Front
written front lexemes = fold put front lexemes

-- The lexemes are written after the prefix, unless memory runs out.
abbrev pub Writes : {E : Type 0} → Result (Unit {0}) E → Front → Front → List Lexeme → Type 0
Writes result before after lexemes = OnOk result (after ≡ written before lexemes)
