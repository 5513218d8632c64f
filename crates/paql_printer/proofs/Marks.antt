-- Which bytes the tokens of some kinds are, and with which bytes no token begins.
use Rattle.std.proofs.Common.{◌≡◌, ℕ, ◌==◌, ◌⊎◌, Bool, true, false, ◌||◌, ◌&&◌, not, if◌then◌else◌, List, [], ◌∷◌, Some, None, refl, sym, ap, ◌∙◌, subst, inl, inr, arith}
use Rattle.std.specs.Char.{is_ascii_digit}
use Rattle.std.specs.Str.{str_eq_ignore_ascii_case}
use Rattle.std.proofs.lemmas.Bool.{false≢true, and_parts, or_cases, eqb-true}
use Rattle.std.proofs.lemmas.Bool.Decides.{nat_tests}
use denote.Enum.Bare.{sameb, true_same}
use Rattle.paql_lexer.specs.Keywords.{keywords, kind_in, word_kind}
use Rattle.paql_lexer.specs.Lexical.{Is, is_letter, is_space, short_sign, long_sign, sign_of}
use Rattle.paql_lexer.specs.contracts.vocabulary.Kind.{the_type}
use Rattle.paql_lexer.specs.declared.vocabulary.Kind.{Kind}
use Rattle.paql_lexer.specs.declared.vocabulary.Kind.TheVariants as kinds
use Rattle.paql_printer.proofs.Classes.{IsBy, by_first}

-- ---- words

-- No entry has the kind.
abbrev pub lacks : Kind → List (List ℕ × Kind) → Bool
lacks kind [] = not (sameb the_type kinds.Name kind)
lacks kind (entry ∷ entries) = not (sameb the_type entry.1 kind) && lacks kind entries

-- a kind that the test tells apart from another isn't that one
told_apart : (kind other : Kind) → not (sameb the_type other kind) ≡ true → kind ≡ other → ⊥
told_apart kind other apart e =
    let same : sameb the_type other kind ≡ true = true_same the_type other kind (sym e) in
    false≢true (ap not (sym same) ∙ apart)

-- no word is of a kind that no entry has
no_word_in : (entries : List (List ℕ × Kind)) (kind : Kind) → lacks kind entries ≡ true → (word : List ℕ) → kind ≡ kind_in entries word → ⊥
no_word_in [] kind none word e = told_apart kind kinds.Name none e
no_word_in (entry ∷ entries) kind none word e =
    let parts = and_parts (not (sameb the_type entry.1 kind)) (lacks kind entries) none in
    by_test (str_eq_ignore_ascii_case entry.0 word) (no_word_in entries kind parts.1 word) parts.0 e
  where
    by_test : (test : Bool) → (kind ≡ kind_in entries word → ⊥) → not (sameb the_type entry.1 kind) ≡ true → kind ≡ (if test then entry.1 else kind_in entries word) → ⊥
    by_test true behind apart f = told_apart kind entry.1 apart f
    by_test false behind apart f = behind f

-- no word is of a kind that no keyword has
pub no_word : (kind : Kind) → lacks kind keywords ≡ true → (word : List ℕ) → kind ≡ word_kind word → ⊥
unfolding word_kind
no_word kind none word e = no_word_in keywords kind none word e

-- ---- signs of one byte

-- The tokens of this kind are this byte.
record IsMark (kind : Kind) (byte : ℕ) : Type 0 where
  pub word : lacks kind keywords ≡ true
  pub number : kind ≡ kinds.Number → ⊥
  pub text : kind ≡ kinds.Text → ⊥
  pub quoted_name : kind ≡ kinds.QuotedName → ⊥
  pub short : (a : ℕ) → short_sign a ≡ Some kind → a ≡ byte
  pub long : (a b : ℕ) → long_sign a b ≡ Some kind → ⊥

-- its one sign is the byte
sign_is : (kind : Kind) (byte : ℕ) → IsMark kind byte → (word : List ℕ) → sign_of word ≡ Some kind → word ≡ byte ∷ []
sign_is kind byte mark [] e = cc e
sign_is kind byte mark (a ∷ []) e = ap (λ (n : ℕ). n ∷ []) (mark.short a e)
sign_is kind byte mark (a ∷ (b ∷ [])) e = absurd (mark.long a b e)
sign_is kind byte mark (a ∷ (b ∷ (c ∷ word))) e = cc e

-- and so are its tokens
by_tests : (letter digit quote double_quote : Bool) (kind : Kind) (byte : ℕ) → IsMark kind byte → (word rest : List ℕ) → IsBy letter digit quote double_quote kind word rest → word ≡ byte ∷ []
by_tests true digit quote double_quote kind byte mark word rest is = absurd (no_word kind mark.word word is.meaning)
by_tests false true quote double_quote kind byte mark word rest is = absurd (mark.number is.meaning)
by_tests false false true double_quote kind byte mark word rest is = absurd (mark.text is.meaning)
by_tests false false false true kind byte mark word rest is = absurd (mark.quoted_name is.meaning)
by_tests false false false false kind byte mark word rest is = sign_is kind byte mark word is.sign

mark_is : (kind : Kind) (byte : ℕ) → IsMark kind byte → (word rest : List ℕ) → Is kind word rest → word ≡ byte ∷ []
mark_is kind byte mark [] rest is = absurd is
mark_is kind byte mark (a ∷ word) rest is = by_tests (is_letter a) (is_ascii_digit a) (a == 39) (a == 34) kind byte mark (a ∷ word) rest (by_first a kind word rest is)

-- each of these kinds is one sign
pub dot_is : (word rest : List ℕ) → Is kinds.Dot word rest → word ≡ 46 ∷ []
dot_is = mark_is kinds.Dot 46 (record {
  word = refl;
  number = λ e. cc e;
  text = λ e. cc e;
  quoted_name = λ e. cc e;
  short = λ a e. grind (arith, nat_tests);
  long = λ a b e. grind (arith, nat_tests);
})

pub left_paren_is : (word rest : List ℕ) → Is kinds.LeftParen word rest → word ≡ 40 ∷ []
left_paren_is = mark_is kinds.LeftParen 40 (record {
  word = refl;
  number = λ e. cc e;
  text = λ e. cc e;
  quoted_name = λ e. cc e;
  short = λ a e. grind (arith, nat_tests);
  long = λ a b e. grind (arith, nat_tests);
})

pub right_paren_is : (word rest : List ℕ) → Is kinds.RightParen word rest → word ≡ 41 ∷ []
right_paren_is = mark_is kinds.RightParen 41 (record {
  word = refl;
  number = λ e. cc e;
  text = λ e. cc e;
  quoted_name = λ e. cc e;
  short = λ a e. grind (arith, nat_tests);
  long = λ a b e. grind (arith, nat_tests);
})

pub comma_is : (word rest : List ℕ) → Is kinds.Comma word rest → word ≡ 44 ∷ []
comma_is = mark_is kinds.Comma 44 (record {
  word = refl;
  number = λ e. cc e;
  text = λ e. cc e;
  quoted_name = λ e. cc e;
  short = λ a e. grind (arith, nat_tests);
  long = λ a b e. grind (arith, nat_tests);
})

pub minus_is : (word rest : List ℕ) → Is kinds.Minus word rest → word ≡ 45 ∷ []
minus_is = mark_is kinds.Minus 45 (record {
  word = refl;
  number = λ e. cc e;
  text = λ e. cc e;
  quoted_name = λ e. cc e;
  short = λ a e. grind (arith, nat_tests);
  long = λ a b e. grind (arith, nat_tests);
})

-- ---- bytes with which no token begins

-- no sign of two bytes begins with a byte that is no `<`, `>` or `!`
pub no_longer : (first : ℕ) → (first == 60) ≡ false → (first == 62) ≡ false → (first == 33) ≡ false → (b : ℕ) → long_sign first b ≡ None
no_longer first less greater other b = grind (arith, nat_tests)

-- a minus before it is the whole token
pub minus_alone : (kind : Kind) (bytes rest : List ℕ) → Is kind (45 ∷ bytes) rest → (kind ≡ kinds.Minus) × (bytes ≡ [])
minus_alone kind [] rest is = let e : Some kinds.Minus ≡ Some kind = is.sign in (cc, refl)
minus_alone kind (b ∷ []) rest is = let e : long_sign 45 b ≡ Some kind = is.sign in let none = no_longer 45 refl refl refl b in cc (none, e)
minus_alone kind (b ∷ (c ∷ bytes)) rest is = let e : None ≡ Some kind = is.sign in cc e

-- no sign begins with a byte that begins neither a short one nor a long one
no_sign : (first : ℕ) → short_sign first ≡ None → ((b : ℕ) → long_sign first b ≡ None) → (kind : Kind) (bytes : List ℕ) → sign_of (first ∷ bytes) ≡ Some kind → ⊥
no_sign first short long kind [] e = cc (short, e)
no_sign first short long kind (b ∷ []) e = let none = long b in cc (none, e)
no_sign first short long kind (b ∷ (c ∷ bytes)) e = cc e

-- no token begins with a space
pub no_space : (first : ℕ) (kind : Kind) (bytes rest : List ℕ) → Is kind (first ∷ bytes) rest → is_space first ≡ true → ⊥
no_space first kind bytes rest is space = last (or_cases (first == 9 || first == 10 || first == 13) (first == 32) space)
  where
    token : (n : ℕ) → (first == n) ≡ true → Is kind (n ∷ bytes) rest
    token n e = subst (λ (m : ℕ). Is kind (m ∷ bytes) rest) (eqb-true first n e) is

    one : (first == 9) ≡ true ⊎ (first == 10) ≡ true → ⊥
    one (inl e) = no_sign 9 refl (no_longer 9 refl refl refl) kind bytes (token 9 e).sign
    one (inr e) = no_sign 10 refl (no_longer 10 refl refl refl) kind bytes (token 10 e).sign

    two : (first == 9 || first == 10) ≡ true ⊎ (first == 13) ≡ true → ⊥
    two (inl e) = one (or_cases (first == 9) (first == 10) e)
    two (inr e) = no_sign 13 refl (no_longer 13 refl refl refl) kind bytes (token 13 e).sign

    last : (first == 9 || first == 10 || first == 13) ≡ true ⊎ (first == 32) ≡ true → ⊥
    last (inl e) = two (or_cases (first == 9 || first == 10) (first == 13) e)
    last (inr e) = no_sign 32 refl (no_longer 32 refl refl refl) kind bytes (token 32 e).sign
