-- Which bytes may comes after a token.
use Rattle.std.proofs.Common.{◌≡◌, ℕ, ◌==◌, ◌<◌, Bool, true, false, ◌||◌, List, [], ◌∷◌, ◌++◌, Some, None, refl, arith}
use Rattle.std.specs.Char.{is_ascii_alphanumeric, is_ascii_digit, digit_value}
use Rattle.std.proofs.lemmas.Bool.Decides.{nat_tests}
use Rattle.paql_lexer.specs.Lexical.{Is, IsSign, EndsSign, is_letter, is_quote, short_sign, long_sign, sign_of}
use Rattle.paql_lexer.specs.declared.vocabulary.Kind.{Kind}
use Rattle.paql_lexer.specs.declared.vocabulary.Kind.TheVariants as kinds
use Rattle.paql_printer.proofs.Classes.{IsBy, by_first, is_by_first}
use Rattle.paql_printer.proofs.Marks.{no_longer}

-- The byte goes on no word, no whole number, no text and no sign.
record Separates (byte : ℕ) : Type 0 where
  pub word : (is_ascii_alphanumeric byte || byte == 95) ≡ false
  pub digit : digit_value byte < 10 → ⊥
  pub quote : is_quote byte ≡ false
  pub equal : (byte == 61) ≡ false
  pub greater : (byte == 62) ≡ false

-- it makes no longer sign
long_ends : (a b : ℕ) → (b == 61) ≡ false → (b == 62) ≡ false → long_sign a b ≡ None
long_ends a b equal greater = grind (arith, nat_tests)

sign_ends : (byte : ℕ) → Separates byte → (kind : Kind) (word : List ℕ) → sign_of word ≡ Some kind → sign_of (word ++ byte ∷ []) ≡ None
sign_ends byte separates kind [] e = cc e
sign_ends byte separates kind (a ∷ []) e = long_ends a byte separates.equal separates.greater
sign_ends byte separates kind (a ∷ (b ∷ [])) e = refl
sign_ends byte separates kind (a ∷ (b ∷ (c ∷ word))) e = refl

stays_by : (letter digit quote double_quote : Bool) (kind : Kind) (word rest : List ℕ) (byte : ℕ) (bytes : List ℕ) → Separates byte → (kind ≡ kinds.Number → byte ≡ 46 → ⊥) → IsBy letter digit quote double_quote kind word rest → IsBy letter digit quote double_quote kind word (byte ∷ bytes)
stays_by true digit quote double_quote kind word rest byte bytes separates point is = record { is_word = is.is_word; ends = separates.word; meaning = is.meaning }
stays_by false true quote double_quote kind word rest byte bytes separates point is = record {
  whole = is.whole;
  fraction = is.fraction;
  spelled = is.spelled;
  some = is.some;
  digits = is.digits;
  places = is.places;
  short = is.short;
  ends = separates.digit;
  longest = λ e place. point is.meaning place.0;
  meaning = is.meaning;
}
stays_by false false true double_quote kind word rest byte bytes separates point is = record { content = is.content; quotes = is.quotes; utf8 = is.utf8; ends = separates.quote; meaning = is.meaning }
stays_by false false false true kind word rest byte bytes separates point is = record { name = is.name; is_word = is.is_word; quotes = is.quotes; meaning = is.meaning }
stays_by false false false false kind word rest byte bytes separates point is = record { sign = is.sign; longest = sign_ends byte separates kind word is.sign }

-- a token stays one before such a byte, where no point comes after a number
stays : (kind : Kind) (word rest : List ℕ) (byte : ℕ) (bytes : List ℕ) → Separates byte → (kind ≡ kinds.Number → byte ≡ 46 → ⊥) → Is kind word rest → Is kind word (byte ∷ bytes)
stays kind [] rest byte bytes separates point is = is
stays kind (a ∷ word) rest byte bytes separates point is =
    is_by_first a kind word (byte ∷ bytes) (stays_by (is_letter a) (is_ascii_digit a) (a == 39) (a == 34) kind (a ∷ word) rest byte bytes separates point (by_first a kind word rest is))

-- The same of this byte.
abbrev pub StaysBefore : ℕ → Type 0
StaysBefore byte = (kind : Kind) (word rest bytes : List ℕ) → Is kind word rest → Is kind word (byte ∷ bytes)

pub before_space : StaysBefore 32
before_space kind word rest bytes is = stays kind word rest 32 bytes (record { word = refl; digit = λ d. omega arith; quote = refl; equal = refl; greater = refl }) (λ e f. omega arith) is

pub before_left_paren : StaysBefore 40
before_left_paren kind word rest bytes is = stays kind word rest 40 bytes (record { word = refl; digit = λ d. omega arith; quote = refl; equal = refl; greater = refl }) (λ e f. omega arith) is

pub before_right_paren : StaysBefore 41
before_right_paren kind word rest bytes is = stays kind word rest 41 bytes (record { word = refl; digit = λ d. omega arith; quote = refl; equal = refl; greater = refl }) (λ e f. omega arith) is

pub before_comma : StaysBefore 44
before_comma kind word rest bytes is = stays kind word rest 44 bytes (record { word = refl; digit = λ d. omega arith; quote = refl; equal = refl; greater = refl }) (λ e f. omega arith) is

-- what is no number stays a token before a point
pub before_dot : (kind : Kind) (word rest bytes : List ℕ) → (kind ≡ kinds.Number → ⊥) → Is kind word rest → Is kind word (46 ∷ bytes)
before_dot kind word rest bytes none is = stays kind word rest 46 bytes (record { word = refl; digit = λ d. omega arith; quote = refl; equal = refl; greater = refl }) (λ e f. none e) is

-- ---- the end of the text

at_end_by : (letter digit quote double_quote : Bool) (kind : Kind) (word rest : List ℕ) → IsBy letter digit quote double_quote kind word rest → IsBy letter digit quote double_quote kind word []
at_end_by true digit quote double_quote kind word rest is = record { is_word = is.is_word; ends = tt; meaning = is.meaning }
at_end_by false true quote double_quote kind word rest is = record {
  whole = is.whole;
  fraction = is.fraction;
  spelled = is.spelled;
  some = is.some;
  digits = is.digits;
  places = is.places;
  short = is.short;
  ends = λ none. none;
  longest = λ e none. none;
  meaning = is.meaning;
}
at_end_by false false true double_quote kind word rest is = record { content = is.content; quotes = is.quotes; utf8 = is.utf8; ends = tt; meaning = is.meaning }
at_end_by false false false true kind word rest is = record { name = is.name; is_word = is.is_word; quotes = is.quotes; meaning = is.meaning }
at_end_by false false false false kind word rest is = record { sign = is.sign; longest = tt }

-- a token is one at the end of the text
pub at_end : (kind : Kind) (word rest : List ℕ) → Is kind word rest → Is kind word []
at_end kind [] rest is = is
at_end kind (a ∷ word) rest is =
    is_by_first a kind word [] (at_end_by (is_letter a) (is_ascii_digit a) (a == 39) (a == 34) kind (a ∷ word) rest (by_first a kind word rest is))

-- ---- signs that nothing goes on

alone : (kind : Kind) (byte : ℕ) → short_sign byte ≡ Some kind → ((b : ℕ) → long_sign byte b ≡ None) → (rest : List ℕ) → IsSign kind (byte ∷ []) rest
alone kind byte sign none rest = record { sign = sign; longest = ends rest }
  where
    ends : (s : List ℕ) → EndsSign (byte ∷ []) s
    ends [] = tt
    ends (b ∷ s) = none b

-- a point, a bracket and a minus are tokens whatever comes after them
pub dot_stays : (rest : List ℕ) → Is kinds.Dot (46 ∷ []) rest
dot_stays rest = alone kinds.Dot 46 refl (no_longer 46 refl refl refl) rest

pub left_paren_stays : (rest : List ℕ) → Is kinds.LeftParen (40 ∷ []) rest
left_paren_stays rest = alone kinds.LeftParen 40 refl (no_longer 40 refl refl refl) rest

pub minus_stays : (rest : List ℕ) → Is kinds.Minus (45 ∷ []) rest
minus_stays rest = alone kinds.Minus 45 refl (no_longer 45 refl refl refl) rest
