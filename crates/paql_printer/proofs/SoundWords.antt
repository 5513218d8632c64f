-- The canonical lexemes of words, signs, names and texts are tokens.
use Rattle.std.proofs.Common.{◌≡◌, ℕ, suc, ◌-◌, ◌≤◌, Bool, true, false, not, ◌||◌, ◌&&◌, ◌==◌, if◌then◌else◌, nat_le, IsFalse, IsUtf8, List, [], ◌∷◌, ◌++◌, length, length-append, Option, Some, None, refl, sym, ap, subst, ◌∙◌, arith}
use Rattle.std.proofs.Math.Seq.{take-append_seam}
use Rattle.std.proofs.lemmas.Bool.{and_parts}
use Rattle.std.proofs.lemmas.Bool.Decides.{nat_tests}
use Rattle.std.specs.Char.{is_ascii_digit, is_ascii_alphanumeric}
use denote.Enum.Bare.{sameb, same_true}
use Rattle.paql_lexer.specs.Keywords.{keywords, kind_in, word_kind}
use Rattle.paql_lexer.specs.Lexical.{AllIn, Is, IsWord, IsWordToken, IsText, IsSign, doubled, is_letter, short_sign, long_sign, sign_of}
use Rattle.paql_lexer.specs.contracts.vocabulary.Kind.{the_type}
use Rattle.paql_lexer.specs.declared.vocabulary.Kind.{Kind}
use Rattle.paql_lexer.specs.declared.vocabulary.Kind.TheVariants as kinds
use Rattle.formal_grammar.proofs.Contexts.{some_is, not_none, both_ways}
use Rattle.paql_grammar.specs.Lexemes.{Lexeme, is, inside, undoubled, name_of, content_of, name, content}
use Rattle.paql_printer.specs.Spellings as print
use Rattle.paql_printer.specs.Spellings.{spelled}
use Rattle.paql_printer.proofs.CanonicalLeaves.{spells_content}
use Rattle.paql_printer.proofs.Classes.{of_class}
use Rattle.paql_printer.proofs.Marks.{lacks, no_word}
use Rattle.paql_printer.proofs.Separable.{IsToken, AreTokens}
use Rattle.paql_printer.proofs.Sound.{Plain, Sounds, sound_one}

-- ---- words and signs

-- Each byte passes the test, as a test.
abbrev all_pass : (ℕ → Bool) → List ℕ → Bool
all_pass test [] = true
all_pass test (byte ∷ bytes) = test byte && all_pass test bytes

-- A word goes on with the byte.
abbrev goes_on : ℕ → Bool
goes_on byte = is_ascii_alphanumeric byte || byte == 95

-- The bytes are a keyword of this kind.
abbrev is_keyword : Kind → List ℕ → Bool
is_keyword kind [] = false
is_keyword kind (byte ∷ bytes) = is_letter byte && (all_pass goes_on (byte ∷ bytes) && (nat_le (length (byte ∷ bytes)) 64 && sameb the_type kind (kind_in keywords (byte ∷ bytes))))

-- The first byte of the sign is of no other class.
abbrev is_mark : ℕ → Bool
is_mark byte = not (is_letter byte) && (not (is_ascii_digit byte) && (not (byte == 39) && not (byte == 34)))

abbrev shows_kind : Kind → Option Kind → Bool
shows_kind kind (Some other) = sameb the_type kind other
shows_kind kind None = false

-- The bytes are a sign of this kind.
abbrev is_sign : Kind → List ℕ → Bool
is_sign kind [] = false
is_sign kind (byte ∷ bytes) = is_mark byte && shows_kind kind (sign_of (byte ∷ bytes))

-- a test that doesn't pass fails
fails : (a : Bool) → not a ≡ true → a ≡ false
fails true e = absurd (both_ways e refl)
fails false e = refl

all_in : (test : ℕ → Bool) (bytes : List ℕ) → all_pass test bytes ≡ true → AllIn test bytes
all_in test [] e = tt
all_in test (byte ∷ bytes) e = let both = and_parts (test byte) (all_pass test bytes) e in (both.0, all_in test bytes both.1)

pub short_from_test : (n m : ℕ) → nat_le n m ≡ true → n ≤ m
short_from_test n m e = grind (arith, nat_tests)

-- a keyword is a token
keyword_token : (kind : Kind) (bytes : List ℕ) → is_keyword kind bytes ≡ true → Is kind bytes []
unfolding word_kind
keyword_token kind [] e = absurd (both_ways e refl)
keyword_token kind (byte ∷ bytes) e =
    let word = byte ∷ bytes in
    let means = sameb the_type kind (kind_in keywords word) in
    let letter = and_parts (is_letter byte) (all_pass goes_on word && (nat_le (length word) 64 && means)) e in
    let run = and_parts (all_pass goes_on word) (nat_le (length word) 64 && means) letter.1 in
    let short = and_parts (nat_le (length word) 64) means run.1 in
    rw letter.0 (record {
      is_word = record { first = letter.0; all = all_in goes_on word run.0; short = short_from_test (length word) 64 short.0 };
      ends = tt;
      meaning = same_true the_type tt kind (kind_in keywords word) short.1;
    })

shown_kind : (kind : Kind) (sign : Option Kind) → shows_kind kind sign ≡ true → sign ≡ Some kind
shown_kind kind None e = absurd (both_ways e refl)
shown_kind kind (Some other) e = ap (λ (z : Kind). Some z) (sym (same_true the_type tt kind other e))

-- a sign is a token
sign_token : (kind : Kind) (bytes : List ℕ) → is_sign kind bytes ≡ true → Is kind bytes []
sign_token kind [] e = absurd (both_ways e refl)
sign_token kind (byte ∷ bytes) e =
    let both = and_parts (is_mark byte) (shows_kind kind (sign_of (byte ∷ bytes))) e in
    let letter = and_parts (not (is_letter byte)) (not (is_ascii_digit byte) && (not (byte == 39) && not (byte == 34))) both.0 in
    let digit = and_parts (not (is_ascii_digit byte)) (not (byte == 39) && not (byte == 34)) letter.1 in
    let quotes = and_parts (not (byte == 39)) (not (byte == 34)) digit.1 in
    rw (fails (is_letter byte) letter.0, fails (is_ascii_digit byte) digit.0, fails (byte == 39) quotes.0, fails (byte == 34) quotes.1) (record { sign = shown_kind kind (sign_of (byte ∷ bytes)) both.1; longest = tt })

-- The spelling of the kind is a keyword or a sign.
abbrev pub is_spelled : Kind → Bool
is_spelled kind = is_keyword kind (spelled kind).bytes || is_sign kind (spelled kind).bytes

-- A word or a sign is a token.
pub spelled_token : (kind : Kind) → is_spelled kind ≡ true → IsToken (spelled kind)
spelled_token kind e = either (is_keyword kind (spelled kind).bytes) (is_sign kind (spelled kind).bytes) refl refl e
  where
    either : (a b : Bool) → is_keyword kind (spelled kind).bytes ≡ a → is_sign kind (spelled kind).bytes ≡ b → (a || b) ≡ true → IsToken (spelled kind)
    either true b first second e = ([], keyword_token kind (spelled kind).bytes first)
    either false true first second e = ([], sign_token kind (spelled kind).bytes second)
    either false false first second e = absurd (both_ways e refl)

-- A word or a sign, but no minus and no point.
abbrev pub is_plain : Kind → Bool
is_plain kind = is_spelled kind && (not (is kinds.Minus (spelled kind)) && not (is kinds.Dot (spelled kind)))

pub plain_word : (kind : Kind) → is_plain kind ≡ true → Plain (spelled kind)
plain_word kind e =
    let minus = is kinds.Minus (spelled kind) in
    let point = is kinds.Dot (spelled kind) in
    let spells = and_parts (is_spelled kind) (not minus && not point) e in
    let both = and_parts (not minus) (not point) spells.1 in
    record { token = spelled_token kind spells.0; minus = fails minus both.0; point = fails point both.1 }

-- ---- what no sign and no keyword is

-- the kinds of names, numbers and texts
abbrev is_literal : Option Kind → Bool
is_literal None = false
is_literal (Some kinds.Name) = true
is_literal (Some kinds.QuotedName) = true
is_literal (Some kinds.Number) = true
is_literal (Some kinds.Text) = true
is_literal (Some kind) = false

neither : (b : Bool) (x y : Option Kind) → is_literal x ≡ false → is_literal y ≡ false → is_literal (if b then x else y) ≡ false
neither true x y p q = p
neither false x y p q = q

-- no sign is one of them
short_is_none : (byte : ℕ) → is_literal (short_sign byte) ≡ false
short_is_none byte =
    neither (byte == 40) _ _ refl (neither (byte == 41) _ _ refl (neither (byte == 44) _ _ refl (neither (byte == 46) _ _ refl (neither (byte == 42) _ _ refl
    (neither (byte == 43) _ _ refl (neither (byte == 45) _ _ refl (neither (byte == 61) _ _ refl (neither (byte == 60) _ _ refl (neither (byte == 62) _ _ refl refl)))))))))

long_is_none : (first second : ℕ) → is_literal (long_sign first second) ≡ false
long_is_none first second =
    neither (first == 60) _ _ (neither (second == 61) _ _ refl (neither (second == 62) _ _ refl refl))
    (neither (second == 61) _ _ (neither (first == 62) _ _ refl (neither (first == 33) _ _ refl refl)) refl)

sign_is_none : (word : List ℕ) → is_literal (sign_of word) ≡ false
sign_is_none [] = refl
sign_is_none (first ∷ []) = short_is_none first
sign_is_none (first ∷ (second ∷ [])) = long_is_none first second
sign_is_none (first ∷ (second ∷ (third ∷ bytes))) = refl

pub no_sign : (kind : Kind) (word rest : List ℕ) → is_literal (Some kind) ≡ true → IsSign kind word rest → ⊥
no_sign kind word rest literal sign = both_ways literal (sym (ap is_literal sign.sign) ∙ sign_is_none word)

-- a word is of none of the kinds that no keyword has
pub no_keyword : (kind : Kind) (word rest : List ℕ) → lacks kind keywords ≡ true → IsWordToken kind word rest → ⊥
no_keyword kind word rest none t = no_word kind none word t.meaning

-- ---- names

-- a name is a word
bare_name : (kind : Kind) (bytes rest : List ℕ) → kind ≡ kinds.Name → Is kind bytes rest → IsWord bytes
bare_name kind [] rest e t = absurd t
bare_name kind (byte ∷ bytes) rest e t =
    of_class (IsWord (byte ∷ bytes)) kind byte bytes rest t (λ x. x.is_word) (λ x. absurd (cc (e, x.meaning))) (λ x. absurd (cc (e, x.meaning))) (λ x. absurd (cc (e, x.meaning))) (λ x. absurd (no_sign kind (byte ∷ bytes) rest (rw e refl) x))

-- what is between quotes
inside_quotes : (first last : ℕ) (bytes : List ℕ) → inside (first ∷ (bytes ++ last ∷ [])) ≡ bytes
inside_quotes first last bytes =
    let e : suc (length (bytes ++ last ∷ [])) - 2 ≡ length bytes = omega (arith, length-append bytes (last ∷ [])) in
    rw e (take-append_seam bytes (last ∷ []))

-- a quoted name is a word inside its quotes
quoted_word : (kind : Kind) (bytes rest : List ℕ) → kind ≡ kinds.QuotedName → Is kind bytes rest → IsWord (inside bytes)
quoted_word kind [] rest e t = absurd t
quoted_word kind (byte ∷ bytes) rest e t =
    let word = byte ∷ bytes in
    of_class (IsWord (inside word)) kind byte bytes rest t (λ x. absurd (no_keyword kind word rest (rw e refl) x)) (λ x. absurd (cc (e, x.meaning))) (λ x. absurd (cc (e, x.meaning)))
    (λ x. subst IsWord (sym (ap inside x.quotes ∙ inside_quotes 34 34 x.name)) x.is_word) (λ x. absurd (no_sign kind word rest (rw e refl) x))

-- a name is shown by a word
shown_word : (t : Lexeme) (word : List ℕ) → name_of t ≡ Some word → IsToken t → IsWord word
shown_word t word e token = by_name (is kinds.Name t) (is kinds.QuotedName t) refl refl e
  where
    by_name : (a b : Bool) → is kinds.Name t ≡ a → is kinds.QuotedName t ≡ b → (if a then Some t.bytes else (if b then Some (inside t.bytes) else None)) ≡ Some word → IsWord word
    by_name true b first second e = subst IsWord (some_is e) (bare_name t.kind t.bytes token.0 (same_true the_type tt t.kind kinds.Name first) token.1)
    by_name false true first second e = subst IsWord (some_is e) (quoted_word t.kind t.bytes token.0 (same_true the_type tt t.kind kinds.QuotedName second) token.1)
    by_name false false first second e = absurd (not_none (sym e))

-- The one token of a text is a token.
pub only_token : (w : List Lexeme) (t : Lexeme) → w ≡ t ∷ [] → AreTokens w → IsToken t
only_token w t e all = (subst AreTokens e all).0

-- The name that a text of tokens shows is a word.
pub named_word : (w : List Lexeme) (word : List ℕ) → name w word → AreTokens w → IsWord word
named_word w word d all = shown_word d.0 word d.2 (only_token w d.0 d.1 all)

-- a word that is no keyword is a name
bare_token : (word : List ℕ) → IsWord word → kinds.Name ≡ word_kind word → Is kinds.Name word []
bare_token [] is_word e = absurd is_word.first
bare_token (byte ∷ bytes) is_word e = let letter : is_letter byte ≡ true = is_word.first in rw letter (record { is_word = is_word; ends = tt; meaning = e })

-- each word is a name in quotes
quotes_token : (word : List ℕ) → IsWord word → Is kinds.QuotedName (34 ∷ (word ++ 34 ∷ [])) []
quotes_token word is_word = record { name = word; is_word = is_word; quotes = refl; meaning = refl }

-- The lexeme of a name is one of a name, and no number.
pub record IsNameLexeme (t : Lexeme) : Type 0 where
  pub plain : Plain t
  pub number : IsFalse (is kinds.Number t)

pub name_lexeme : (word : List ℕ) → IsWord word → IsNameLexeme (print.name word)
name_lexeme word is_word = printed (sameb the_type (word_kind word) kinds.Name) refl
  where
    printed : (b : Bool) → sameb the_type (word_kind word) kinds.Name ≡ b → IsNameLexeme (if b then record { kind = kinds.Name; bytes = word } else record { kind = kinds.QuotedName; bytes = 34 ∷ (word ++ 34 ∷ []) })
    printed true e = record { plain = record { token = ([], bare_token word is_word (sym (same_true the_type tt (word_kind word) kinds.Name e))); minus = refl; point = refl }; number = refl }
    printed false e = record { plain = record { token = ([], quotes_token word is_word); minus = refl; point = refl }; number = refl }

pub name_plain : (word : List ℕ) → IsWord word → Plain (print.name word)
name_plain word is_word = (name_lexeme word is_word).plain

pub sound_names : Sounds name (λ word. print.name word ∷ [])
sound_names w word d all = sound_one (print.name word) (name_plain word (named_word w word d all))

-- ---- texts

-- a text is one in quotes
text_in_quotes : (kind : Kind) (bytes rest : List ℕ) → kind ≡ kinds.Text → Is kind bytes rest → IsText kind bytes rest
text_in_quotes kind [] rest e t = absurd t
text_in_quotes kind (byte ∷ bytes) rest e t =
    let word = byte ∷ bytes in
    of_class (IsText kind word rest) kind byte bytes rest t (λ x. absurd (no_keyword kind word rest (rw e refl) x)) (λ x. absurd (cc (e, x.meaning))) (λ x. x) (λ x. absurd (cc (e, x.meaning))) (λ x. absurd (no_sign kind word rest (rw e refl) x))

-- the lexeme of a text shows its content
content_shown : (value : List ℕ) → content_of (print.quoted value) ≡ Some value
content_shown value =
    let spelled = spells_content value in
    let same : print.quoted value ≡ spelled.0 = cc (spelled.1) in
    ap content_of same ∙ spelled.2

-- the content of a text is written as it is there
text_again : (t : Lexeme) (value rest : List ℕ) (text : IsText t.kind t.bytes rest) → Some (undoubled false (inside t.bytes)) ≡ Some value → value ≡ text.content
text_again t value rest text e =
    sym (some_is e) ∙ some_is (ap (λ (z : List ℕ). Some (undoubled false (inside z))) text.quotes ∙ content_shown text.content)

-- content in UTF-8 is a text in quotes
content_token : (value : List ℕ) → IsUtf8 (doubled value) → IsToken (print.quoted value)
content_token value utf8 = ([], record { content = value; quotes = refl; utf8 = utf8; ends = tt; meaning = refl })

shown_content : (t : Lexeme) (value : List ℕ) → content_of t ≡ Some value → IsToken t → IsToken (print.quoted value)
shown_content t value e token = by_text (is kinds.Text t) refl e
  where
    by_text : (b : Bool) → is kinds.Text t ≡ b → (if b then Some (undoubled false (inside t.bytes)) else None) ≡ Some value → IsToken (print.quoted value)
    by_text true first e =
        let text = text_in_quotes t.kind t.bytes token.0 (same_true the_type tt t.kind kinds.Text first) token.1 in
        content_token value (subst (λ (z : List ℕ). IsUtf8 (doubled z)) (sym (text_again t value token.0 text e)) text.utf8)
    by_text false first e = absurd (not_none (sym e))

-- The lexeme of a text that a text of tokens shows.
pub sound_content : Sounds content (λ value. print.quoted value ∷ [])
sound_content w value d all = sound_one (print.quoted value) (record { token = shown_content d.0 value d.2 (only_token w d.0 d.1 all); minus = refl; point = refl })
