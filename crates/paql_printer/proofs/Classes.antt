-- What a token is by the tests of its first byte.
use Rattle.std.proofs.Common.{ℕ, ◌==◌, Bool, true, false, if◌then◌else◌, List, ◌∷◌}
use Rattle.std.specs.Char.{is_ascii_digit}
use Rattle.paql_lexer.specs.Lexical.{IsWordToken, IsNumber, IsText, IsQuotedName, IsSign, Is, IsOfClass, class_of, is_letter}
use Rattle.paql_lexer.specs.declared.vocabulary.Kind.{Kind}

-- A word, a number, a text, a quoted name or a sign, by whether the first byte is a letter, a digit, a quote or a double quote.
abbrev pub IsBy : (letter digit quote double_quote : Bool) → Kind → List ℕ → List ℕ → Type 0
IsBy true digit quote double_quote kind word rest = IsWordToken kind word rest
IsBy false true quote double_quote kind word rest = IsNumber kind word rest
IsBy false false true double_quote kind word rest = IsText kind word rest
IsBy false false false true kind word rest = IsQuotedName kind word rest
IsBy false false false false kind word rest = IsSign kind word rest

-- The tests of this first byte say so.
abbrev pub IsByFirst : ℕ → Kind → List ℕ → List ℕ → Type 0
IsByFirst first kind word rest = IsBy (is_letter first) (is_ascii_digit first) (first == 39) (first == 34) kind word rest

-- each class is that of some byte
to_tests : (letter digit quote double_quote : Bool) (kind : Kind) (word rest : List ℕ) → IsOfClass (if letter then class_of 65 else (if digit then class_of 48 else (if quote then class_of 39 else (if double_quote then class_of 34 else class_of 46)))) kind word rest → IsBy letter digit quote double_quote kind word rest
to_tests true digit quote double_quote kind word rest is = is
to_tests false true quote double_quote kind word rest is = is
to_tests false false true double_quote kind word rest is = is
to_tests false false false true kind word rest is = is
to_tests false false false false kind word rest is = is

from_tests : (letter digit quote double_quote : Bool) (kind : Kind) (word rest : List ℕ) → IsBy letter digit quote double_quote kind word rest → IsOfClass (if letter then class_of 65 else (if digit then class_of 48 else (if quote then class_of 39 else (if double_quote then class_of 34 else class_of 46)))) kind word rest
from_tests true digit quote double_quote kind word rest is = is
from_tests false true quote double_quote kind word rest is = is
from_tests false false true double_quote kind word rest is = is
from_tests false false false true kind word rest is = is
from_tests false false false false kind word rest is = is

-- a token by the tests of its first byte
pub by_first : (first : ℕ) (kind : Kind) (bytes rest : List ℕ) → Is kind (first ∷ bytes) rest → IsByFirst first kind (first ∷ bytes) rest
by_first first kind bytes rest is = to_tests (is_letter first) (is_ascii_digit first) (first == 39) (first == 34) kind (first ∷ bytes) rest is

pub is_by_first : (first : ℕ) (kind : Kind) (bytes rest : List ℕ) → IsByFirst first kind (first ∷ bytes) rest → Is kind (first ∷ bytes) rest
is_by_first first kind bytes rest is = from_tests (is_letter first) (is_ascii_digit first) (first == 39) (first == 34) kind (first ∷ bytes) rest is

-- What holds of the tokens of each class holds of a token.
pub of_class : (P : Type 0) (kind : Kind) (byte : ℕ) (bytes rest : List ℕ) → Is kind (byte ∷ bytes) rest → (IsWordToken kind (byte ∷ bytes) rest → P) → (IsNumber kind (byte ∷ bytes) rest → P) → (IsText kind (byte ∷ bytes) rest → P) → (IsQuotedName kind (byte ∷ bytes) rest → P) → (IsSign kind (byte ∷ bytes) rest → P) → P
of_class P kind byte bytes rest is word number text quoted_name sign = by_tests (is_letter byte) (is_ascii_digit byte) (byte == 39) (byte == 34) (by_first byte kind bytes rest is)
  where
    by_tests : (letter digit quote double_quote : Bool) → IsBy letter digit quote double_quote kind (byte ∷ bytes) rest → P
    by_tests true digit quote double_quote of = word of
    by_tests false true quote double_quote of = number of
    by_tests false false true double_quote of = text of
    by_tests false false false true of = quoted_name of
    by_tests false false false false of = sign of
