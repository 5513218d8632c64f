-- The canonical lexemes of numbers are tokens, where a token shows the number.
use Rattle.std.proofs.Common.{◌≡◌, ℕ, zero, suc, ◌+◌, ◌-◌, ◌^◌, ◌%◌, ◌<◌, ◌≤◌, Bool, true, false, ◌==◌, ◌&&◌, if◌then◌else◌, nat_le, List, [], ◌∷◌, ◌++◌, length, take, drop, replicate, Option, Some, None, refl, sym, ap, subst, ◌∙◌, arith, lit<, ℤ, unsigned_abs, decimal, is_some, append-nil, length-append, length-take, length-drop}
use Rattle.std.proofs.lemmas.Bool.{and_parts}
use Rattle.std.proofs.lemmas.Bool.Decides.{Decides-eqb, nat_tests}
use Rattle.std.proofs.lemmas.Fmt.{decimal_is_IsNumeral_wide, length-decimal-le_wide}
use Rattle.std.proofs.lemmas.List.{length-replicate}
use Rattle.std.proofs.lemmas.Str.Parse.{digit_from_value}
use Rattle.std.proofs.Math.Decide.{dec_lt, dec_le, ℕ_discrete}
use Rattle.std.specs.Char.{digit_value, is_ascii_digit}
use Rattle.std.specs.Int.{IsInRange}
use Rattle.std.specs.Str.{all_ascii_digits}
use Rattle.std.specs.Str.Parse.{AllDigits, digits_value}
use denote.Enum.Bare.{same_true}
use Rattle.pq_base.specs.Decimal.{signed, is_negative, padded, point_and, BeginsWithDigit}
use Rattle.pq_base.specs.declared.scaled.Scaled.{Scaled}
use Rattle.pq_base.proofs.Numerals.{AllDigits-take, begins, no_digit_at_point}
use Rattle.paql_lexer.specs.Lexical.{Is, IsNumber, is_letter}
use Rattle.paql_lexer.specs.contracts.vocabulary.Kind.{the_type}
use Rattle.paql_lexer.specs.declared.vocabulary.Kind.{Kind}
use Rattle.paql_lexer.specs.declared.vocabulary.Kind.TheVariants as kinds
use Rattle.formal_grammar.proofs.Contexts.{some_is, not_none}
use Rattle.paql_grammar.specs.Lexemes.{Lexeme, is, number, whole, number_of}
use Rattle.paql_grammar.specs.Numerals.{stored, scaled, before_point, behind_point, and_digits, without_zeros, number_in, whole_in}
use Rattle.paql_grammar.specs.Conditions.{signed as signed_number}
use Rattle.paql_printer.specs.Spellings as print
use Rattle.paql_printer.specs.Spellings.{spelled}
use Rattle.paql_grammar.proofs.NumeralLemmas.{are_digits, whole_small}
use Rattle.paql_printer.proofs.Separable.{IsToken, AreTokens}
use Rattle.paql_printer.proofs.Sound.{Plain, Sound, Sounds, sound_one, in_back}
use Rattle.paql_printer.proofs.Classes.{of_class}
use Rattle.paql_printer.proofs.SoundWords.{no_keyword, no_sign, only_token, short_from_test, spelled_token}

-- ---- digits are tokens

-- a digit begins a number
no_letter : (byte : ℕ) → IsInRange 48 57 byte → is_letter byte ≡ false
no_letter byte within = grind (arith, nat_tests)

is_digit : (byte : ℕ) → IsInRange 48 57 byte → is_ascii_digit byte ≡ true
is_digit byte within = grind (arith, nat_tests)

-- a number is a token
number_is : (word rest : List ℕ) → IsNumber kinds.Number word rest → Is kinds.Number word rest
number_is word rest n = of_first word n (subst BeginsWithDigit (sym n.spelled) (begins n.whole (point_and n.fraction) n.digits n.some))
  where
    of_first : (text : List ℕ) → IsNumber kinds.Number text rest → BeginsWithDigit text → Is kinds.Number text rest
    of_first [] m digit = absurd digit
    of_first (byte ∷ bytes) m digit = let within = digit_from_value byte digit in rw (no_letter byte within, is_digit byte within) m

digits_drop : (count : ℕ) (digits : List ℕ) → AllDigits 10 digits → AllDigits 10 (drop count digits)
digits_drop zero digits all = all
digits_drop (suc count) [] all = tt
digits_drop (suc count) (digit ∷ digits) all = digits_drop count digits all.1

digits_append : (digits more : List ℕ) → AllDigits 10 digits → AllDigits 10 more → AllDigits 10 (digits ++ more)
digits_append [] more p q = q
digits_append (digit ∷ digits) more p q = (p.0, digits_append digits more p.1 q)

digits_zeros : (count : ℕ) → AllDigits 10 (replicate count 48)
digits_zeros zero = tt
digits_zeros (suc count) = (lit< tt, digits_zeros count)

-- Digits with a point among them, or none, at most 30.
digits_token : (digits : List ℕ) (places : ℕ) → AllDigits 10 digits → places < length digits → length digits ≤ 30 → Is kinds.Number (take (length digits - places) digits ++ point_and (drop (length digits - places) digits)) []
digits_token digits places all more short =
    let front = length digits - places in
    number_is (take front digits ++ point_and (drop front digits)) [] (record {
      whole = take front digits;
      fraction = drop front digits;
      spelled = refl;
      some = omega (arith, length-take front digits, more);
      digits = AllDigits-take front digits all;
      places = digits_drop front digits all;
      short = omega (arith, length-take front digits, length-drop front digits, short);
      ends = λ h. h;
      longest = λ e h. h;
      meaning = refl;
    })

-- A number of at most 29 places is a token.
number_token : (value : Scaled) → value.scale ≤ 29 → IsToken (print.number value)
number_token value places =
    let magnitude = unsigned_abs value.mant in
    let digits = decimal magnitude in
    let zeros = value.scale + 1 - length digits in
    let short : length digits ≤ 30 = length-decimal-le_wide 30 magnitude (omega arith) value.small (omega (arith, value.small)) in
    let all = digits_append (replicate zeros 48) digits (digits_zeros zeros) (decimal_is_IsNumeral_wide magnitude (omega (arith, value.small))).0.1 in
    let len : length (padded value.scale digits) ≡ zeros + length digits = omega (arith, length-append (replicate zeros 48) digits, length-replicate {A = ℕ} zeros 48) in
    ([], digits_token (padded value.scale digits) value.scale all (omega (arith, len)) (omega (arith, len, short, places)))

-- ---- a token of a number shows at most 29 places

is_number : (kind : Kind) (bytes rest : List ℕ) → kind ≡ kinds.Number → Is kind bytes rest → IsNumber kind bytes rest
is_number kind [] rest e t = absurd t
is_number kind (byte ∷ bytes) rest e t =
    let word = byte ∷ bytes in
    of_class (IsNumber kind word rest) kind byte bytes rest t (λ x. absurd (no_keyword kind word rest (rw e refl) x)) (λ x. x) (λ x. absurd (cc (e, x.meaning))) (λ x. absurd (cc (e, x.meaning))) (λ x. absurd (no_sign kind word rest (rw e refl) x))

-- no digit is a point
no_point : (byte : ℕ) → digit_value byte < 10 → (byte == 46) ≡ false
no_point byte digit = decided (byte == 46) refl
  where
    decided : (b : Bool) → (byte == 46) ≡ b → b ≡ false
    decided true e = absurd (no_digit_at_point (46 ∷ []) (subst (λ (z : ℕ). digit_value z < 10) ((Decides-eqb byte 46).0 e) digit))
    decided false e = refl

behind : (whole fraction : List ℕ) → AllDigits 10 whole → behind_point (whole ++ point_and fraction) ≡ fraction
behind [] [] all = refl
behind [] (digit ∷ digits) all = refl
behind (digit ∷ whole) fraction all = rw (no_point digit all.0) (behind whole fraction all.1)

-- the zeros at the end make digits no more
fewer_digits : (digit : ℕ) (digits : List ℕ) → length (and_digits digit digits) ≤ suc (length digits)
fewer_digits digit [] = one (digit == 48)
  where
    one : (b : Bool) → length (if b then [] else digit ∷ []) ≤ 1
    one true = omega arith
    one false = omega arith
fewer_digits digit (next ∷ digits) = omega arith

fewer : (digits : List ℕ) → length (without_zeros digits) ≤ length digits
fewer [] = omega arith
fewer (digit ∷ digits) = omega (arith, fewer_digits digit (without_zeros digits), fewer digits)

-- a stored number has its places
stored_scale : (mant : ℤ) (scale : ℕ) (a : Dec (unsigned_abs mant < 10 ^ 30)) (b : Dec (scale ≤ 30)) (c : Dec (unsigned_abs mant % 10 ≡ 0)) (number : Scaled) → stored mant scale a b c ≡ Some number → number.scale ≡ scale
stored_scale mant zero (no a) b c number e = absurd (not_none (sym e))
stored_scale mant zero (yes a) (no b) c number e = absurd (not_none (sym e))
stored_scale mant zero (yes a) (yes b) c number e = sym (ap (λ (z : Scaled). z.scale) (some_is e))
stored_scale mant (suc scale) (no a) b c number e = absurd (not_none (sym e))
stored_scale mant (suc scale) (yes a) (no b) c number e = absurd (not_none (sym e))
stored_scale mant (suc scale) (yes a) (yes b) (yes c) number e = absurd (not_none (sym e))
stored_scale mant (suc scale) (yes a) (yes b) (no c) number e = sym (ap (λ (z : Scaled). z.scale) (some_is e))

scaled_scale : (mant : ℤ) (scale : ℕ) (number : Scaled) → scaled mant scale ≡ Some number → number.scale ≡ scale
unfolding scaled
scaled_scale mant scale number e = stored_scale mant scale (dec_lt (unsigned_abs mant) (10 ^ 30)) (dec_le scale 30) (ℕ_discrete (unsigned_abs mant % 10) 0) number e

-- what shows a value passes its test
passed : {A : Type 0} (b : Bool) (o : Option A) (a : A) → (if b then o else None) ≡ Some a → o ≡ Some a
passed true o a e = e
passed false o a e = absurd (not_none (sym e))

test_passes : {A : Type 0} (b : Bool) (o : Option A) (a : A) → (if b then o else None) ≡ Some a → b ≡ true
test_passes true o a e = refl
test_passes false o a e = absurd (not_none (sym e))

few_places : (minus : Bool) (t : Lexeme) (value : Scaled) → number_of minus t ≡ Some value → IsToken t → value.scale ≤ 29
few_places minus t value e token =
    let fraction = without_zeros (behind_point t.bytes) in
    let digits = before_point t.bytes ++ fraction in
    let kind : t.kind ≡ kinds.Number = same_true the_type tt t.kind kinds.Number (test_passes (is kinds.Number t) (number_in minus t.bytes) value e) in
    let number = is_number t.kind t.bytes token.0 kind token.1 in
    let shown = passed (is kinds.Number t) (number_in minus t.bytes) value e in
    let made = passed (all_ascii_digits digits) (scaled (signed minus (digits_value 10 digits)) (length fraction)) value shown in
    let scale = scaled_scale (signed minus (digits_value 10 digits)) (length fraction) value made in
    let places : behind_point t.bytes ≡ number.fraction = ap behind_point number.spelled ∙ behind number.whole number.fraction number.digits in
    omega (arith, scale, fewer (behind_point t.bytes), ap (λ (z : List ℕ). length z) places, number.some, number.short)

-- ---- the languages of numbers

number_plain : (minus : Bool) (t : Lexeme) (value : Scaled) → number_of minus t ≡ Some value → IsToken t → Plain (print.number value)
number_plain minus t value e token = record { token = number_token value (few_places minus t value e token); minus = refl; point = refl }

-- The number that a text of tokens shows is printed as a token.
pub plain_number : (minus : Bool) (w : List Lexeme) (value : Scaled) → number minus w value → AreTokens w → Plain (print.number value)
plain_number minus w value d all = number_plain minus d.0 value d.2 (only_token w d.0 d.1 all)

pub sound_number : (minus : Bool) → Sounds (number minus) (λ value. print.number value ∷ [])
sound_number minus w value d all = sound_one (print.number value) (plain_number minus w value d all)

pub minus_token : IsToken (spelled kinds.Minus)
minus_token = spelled_token kinds.Minus refl

-- a number, after a minus or not
behind_sign : (b : Bool) (value : Scaled) → Plain (print.number value) → Sound (if b then spelled kinds.Minus ∷ (print.number value ∷ []) else print.number value ∷ [])
behind_sign true value plain = record { first = refl; chained = (minus_token, record { number = refl; minus = refl }, (plain.token, refl, tt)) }
behind_sign false value plain = sound_one (print.number value) plain

pub sound_signed : Sounds signed_number print.signed
sound_signed w value d all = behind_sign (is_negative value.mant) value (plain_number (is_some d.value) d.back value d.second (in_back d all))

-- ---- whole numbers

-- a whole number has at most 18 digits
whole_below : (text : List ℕ) (value : ℕ) → whole_in text ≡ Some value → value < 10 ^ 18
whole_below text value e =
    let tests = and_parts (all_ascii_digits text) (nat_le (length text) 18) (test_passes (all_ascii_digits text && nat_le (length text) 18) (Some (digits_value 10 text)) value e) in
    let same = some_is (passed (all_ascii_digits text && nat_le (length text) 18) (Some (digits_value 10 text)) value e) in
    omega (arith, whole_small text (are_digits text tests.0) (short_from_test (length text) 18 tests.1), same)

whole_token : (value : ℕ) → value < 10 ^ 18 → Is kinds.Number (decimal value) []
whole_token value small =
    let numeral = decimal_is_IsNumeral_wide value (omega (arith, small)) in
    number_is (decimal value) [] (record {
      whole = decimal value;
      fraction = [];
      spelled = sym (append-nil (decimal value));
      some = numeral.0.0;
      digits = numeral.0.1;
      places = tt;
      short = omega (arith, length-decimal-le_wide 18 value (omega arith) small (omega (arith, small)));
      ends = λ h. h;
      longest = λ e h. h;
      meaning = refl;
    })

-- The whole number that a text shows is printed as a token.
pub plain_whole : (w : List Lexeme) (value : ℕ) → whole w value → Plain (print.whole value)
plain_whole w value d = record { token = ([], whole_token value (whole_below d.0.bytes value (passed (is kinds.Number d.0) (whole_in d.0.bytes) value d.2))); minus = refl; point = refl }

pub sound_whole : Sounds whole (λ value. print.whole value ∷ [])
sound_whole w value d all = sound_one (print.whole value) (plain_whole w value d)
