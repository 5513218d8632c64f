-- The canonical lexemes of numbers show the numbers.
use Rattle.std.proofs.Common.{◌≡◌, ◌≢◌, ℕ, zero, suc, ◌+◌, ◌-◌, ◌*◌, ◌^◌, ◌%◌, ◌<◌, ◌≤◌, Bool, true, false, ◌==◌, ◌&&◌, if◌then◌else◌, List, [], ◌∷◌, ◌++◌, length, take, drop, replicate, get_or, Option, Some, None, inl, inr, refl, sym, ap, subst, ◌∙◌, arith, lit<, ℤ, pos, unsigned_abs, decimal, append_assoc, le_refl}
use Rattle.std.proofs.lemmas.List.{take_all, length-append, length-drop, length-replicate, take-append-drop, take_more}
use Rattle.std.proofs.lemmas.Bool.Decides.{Decides-eqb}
use Rattle.std.specs.Char.{digit_value}
use Rattle.std.specs.Str.{all_ascii_digits}
use Rattle.std.specs.Str.Parse.{AllDigits, digits_value, digits_value_after}
use Rattle.std.proofs.lemmas.Fmt.{decimal_is_IsNumeral_wide, length-decimal-le_wide}
use Rattle.std.proofs.lemmas.Str.Parse.{numerals_by_value, tells_all_ascii_digits}
use Rattle.pq_base.specs.Decimal.{signed, is_negative, padded, point_and}
use Rattle.pq_base.specs.declared.scaled.Scaled.{Scaled}
use Rattle.pq_base.proofs.Numerals.{digits_value_after-append, digits_value_after-zeros, digits_value_after-push, AllDigits-take, no_digit_at_point}
use Rattle.pq_base.proofs.Printed.{signed_is}
use Rattle.std.proofs.Math.Decide.{dec_lt, dec_le, ℕ_discrete}
use Rattle.std.specs.Bool.{nat_le}
use Rattle.std.proofs.lemmas.Bool.Decides.{nat_tests}
use Rattle.paql_lexer.specs.declared.vocabulary.Kind.TheVariants as kinds
use Rattle.formal_grammar.proofs.Contexts.{some_is, not_none, both_ways}
use Rattle.paql_grammar.specs.Conditions.{signed as signed_number}
use Rattle.paql_printer.specs.Canonical.{Canonical}
use Rattle.paql_printer.proofs.CanonicalLeaves.{spells_word, ends_in}
use Rattle.paql_grammar.specs.Numerals.{stored, scaled, before_point, behind_point, without_zeros, number_in, whole_in}
use Rattle.paql_grammar.specs.Lexemes.{Lexeme, is, number, whole, number_of}
use Rattle.paql_printer.specs.Spellings as print
use Rattle.paql_grammar.proofs.NumeralLemmas.{are_digits, scaled_is, zeros_end, whole_is, whole_small, number_parts}

-- ---- digits

digits_append : (digits more : List ℕ) → AllDigits 10 digits → AllDigits 10 more → AllDigits 10 (digits ++ more)
digits_append [] more p q = q
digits_append (digit ∷ digits) more p q = (p.0, digits_append digits more p.1 q)

digits_zeros : (count : ℕ) → AllDigits 10 (replicate count 48)
digits_zeros zero = tt
digits_zeros (suc count) = (lit< tt, digits_zeros count)

-- digits pass their test
pass : (digits : List ℕ) → AllDigits 10 digits → all_ascii_digits digits ≡ true
pass digits all = (numerals_by_value (λ ds. all_ascii_digits ds ≡ true) tells_all_ascii_digits).from digits all

-- no digit is a point
no_point : (byte : ℕ) → digit_value byte < 10 → (byte == 46) ≡ false
no_point byte digit = decided (byte == 46) refl
  where
    decided : (b : Bool) → (byte == 46) ≡ b → b ≡ false
    decided true e = absurd (no_digit_at_point (46 ∷ []) (subst (λ (z : ℕ). digit_value z < 10) ((Decides-eqb byte 46).0 e) digit))
    decided false e = refl

-- what comes before the point, and after it
before : (whole fraction : List ℕ) → AllDigits 10 whole → before_point (whole ++ point_and fraction) ≡ whole
before [] [] all = refl
before [] (digit ∷ digits) all = refl
before (digit ∷ whole) fraction all = rw (no_point digit all.0) (ap (λ (z : List ℕ). digit ∷ z) (before whole fraction all.1))

behind : (whole fraction : List ℕ) → AllDigits 10 whole → behind_point (whole ++ point_and fraction) ≡ fraction
behind [] [] all = refl
behind [] (digit ∷ digits) all = refl
behind (digit ∷ whole) fraction all = rw (no_point digit all.0) (behind whole fraction all.1)

-- a last digit that is a zero makes a number of tens
tens : (front : List ℕ) (number : ℕ) → digits_value 10 (front ++ 48 ∷ []) ≡ number → number % 10 ≡ 0
tens front number e =
    let push : digits_value_after 10 0 (front ++ 48 ∷ []) ≡ digits_value_after 10 0 front * 10 + 0 = digits_value_after-push 0 front 48 in
    omega (arith, e, push)

-- a fraction without a zero at the end stays
kept : (whole fraction : List ℕ) (number : ℕ) → digits_value 10 (whole ++ fraction) ≡ number → (0 < length fraction → number % 10 ≢ 0) → without_zeros fraction ≡ fraction
kept whole [] number is shortest = refl
kept whole (digit ∷ digits) number is shortest =
    let len = length (digit ∷ digits) in
    let all : take len (digit ∷ digits) ≡ digit ∷ digits = take_all len (digit ∷ digits) (le_refl len) in
    let differs : get_or (digit ∷ digits) (len - 1) 0 ≢ 48 = λ last.
    let some : len - 1 + 1 ≡ len = omega arith in
    let split : digit ∷ digits ≡ take (len - 1) (digit ∷ digits) ++ 48 ∷ [] = sym all ∙ (ap (λ (z : ℕ). take z (digit ∷ digits)) (sym some) ∙ (take_more (digit ∷ digits) (len - 1) 0 (omega arith) ∙ ap (λ (z : ℕ). take (len - 1) (digit ∷ digits) ++ z ∷ []) last)) in
    shortest (omega arith) (tens (whole ++ take (len - 1) (digit ∷ digits)) number (ap (digits_value 10) (append_assoc whole (take (len - 1) (digit ∷ digits)) (48 ∷ []) ∙ ap (λ (z : List ℕ). whole ++ z) (sym split)) ∙ is)) in
    sym (ap without_zeros all) ∙ (zeros_end (digit ∷ digits) len (omega arith) (le_refl len) differs ∙ all)

-- whole digits, and perhaps a point and others, are the number
reads : (minus : Bool) (whole fraction : List ℕ) (number scale : ℕ) → AllDigits 10 whole → all_ascii_digits (whole ++ fraction) ≡ true → digits_value 10 (whole ++ fraction) ≡ number → length fraction ≡ scale → (0 < scale → number % 10 ≢ 0) → number_in minus (whole ++ point_and fraction) ≡ scaled (signed minus number) scale
reads minus whole fraction number scale digits all value places shortest =
    let trimmed = kept whole fraction number value (λ some. shortest (omega (arith, some, places))) in
    sym (number_parts minus (whole ++ point_and fraction) whole fraction fraction (sym (before whole fraction digits)) (sym (behind whole fraction digits)) (sym trimmed))
    ∙ rw all (ap (λ (z : ℕ). scaled (signed minus z) (length fraction)) value ∙ ap (λ (z : ℕ). scaled (signed minus number) z) places)

-- ---- printed digits

padded_digits : (scale number : ℕ) → number < 10 ^ 64 → AllDigits 10 (padded scale (decimal number))
padded_digits scale number small =
    digits_append (replicate (scale + 1 - length (decimal number)) 48) (decimal number) (digits_zeros (scale + 1 - length (decimal number))) (decimal_is_IsNumeral_wide number small).0.1

padded_value : (scale number : ℕ) → number < 10 ^ 64 → digits_value 10 (padded scale (decimal number)) ≡ number
padded_value scale number small =
    let zeros = scale + 1 - length (decimal number) in
    let front : digits_value_after 10 0 (replicate zeros 48) ≡ 0 = digits_value_after-zeros 0 zeros ∙ omega arith in
    digits_value_after-append 0 (replicate zeros 48) (decimal number) ∙ (ap (λ (n : ℕ). digits_value_after 10 n (decimal number)) front ∙ (decimal_is_IsNumeral_wide number small).1)

-- there are more padded digits than places
padded_length : (scale : ℕ) (digits : List ℕ) → scale < length (padded scale digits)
padded_length scale digits = omega (arith, length-append (replicate (scale + 1 - length digits) 48) digits, length-replicate {A = ℕ} (scale + 1 - length digits) 48)

-- the last digits are the fraction
reads_digits : (minus : Bool) (digits : List ℕ) (number scale : ℕ) → AllDigits 10 digits → digits_value 10 digits ≡ number → scale < length digits → (0 < scale → number % 10 ≢ 0) → number_in minus (take (length digits - scale) digits ++ point_and (drop (length digits - scale) digits)) ≡ scaled (signed minus number) scale
reads_digits minus digits number scale all value more shortest =
    let front = length digits - scale in
    let joined : take front digits ++ drop front digits ≡ digits = take-append-drop front digits in
    reads minus (take front digits) (drop front digits) number scale (AllDigits-take front digits all) (ap all_ascii_digits joined ∙ pass digits all) (ap (digits_value 10) joined ∙ value) (omega (arith, length-drop front digits, more)) shortest

-- ---- numbers

-- A number is shown by its lexeme, after a minus where it is below zero.
pub number_shown : (number : Scaled) → number_of (is_negative number.mant) (print.number number) ≡ Some number
number_shown number =
    let magnitude = unsigned_abs number.mant in
    let small : magnitude < 10 ^ 64 = omega (arith, number.small) in
    reads_digits (is_negative number.mant) (padded number.scale (decimal magnitude)) magnitude number.scale (padded_digits number.scale magnitude small) (padded_value number.scale magnitude small) (padded_length number.scale (decimal magnitude)) number.shortest
    ∙ sym (scaled_is number (signed (is_negative number.mant) magnitude) number.scale (signed_is number.mant) refl)

-- ---- what is shown

-- a stored number has its units
stored_mant : (mant : ℤ) (scale : ℕ) (a : Dec (unsigned_abs mant < 10 ^ 30)) (b : Dec (scale ≤ 30)) (c : Dec (unsigned_abs mant % 10 ≡ 0)) (number : Scaled) → stored mant scale a b c ≡ Some number → number.mant ≡ mant
stored_mant mant zero (no a) b c number e = absurd (not_none (sym e))
stored_mant mant zero (yes a) (no b) c number e = absurd (not_none (sym e))
stored_mant mant zero (yes a) (yes b) c number e = sym (ap (λ (z : Scaled). z.mant) (some_is e))
stored_mant mant (suc scale) (no a) b c number e = absurd (not_none (sym e))
stored_mant mant (suc scale) (yes a) (no b) c number e = absurd (not_none (sym e))
stored_mant mant (suc scale) (yes a) (yes b) (yes c) number e = absurd (not_none (sym e))
stored_mant mant (suc scale) (yes a) (yes b) (no c) number e = sym (ap (λ (z : Scaled). z.mant) (some_is e))

scaled_mant : (mant : ℤ) (scale : ℕ) (number : Scaled) → scaled mant scale ≡ Some number → number.mant ≡ mant
unfolding scaled
scaled_mant mant scale number e = stored_mant mant scale (dec_lt (unsigned_abs mant) (10 ^ 30)) (dec_le scale 30) (ℕ_discrete (unsigned_abs mant % 10) 0) number e

-- what shows a value passes its test
passed : {A : Type 0} (b : Bool) (o : Option A) (a : A) → (if b then o else None) ≡ Some a → o ≡ Some a
passed true o a e = e
passed false o a e = absurd (not_none (sym e))

-- a number that no minus comes before isn't below zero
not_negative : (t : Lexeme) (number : Scaled) → number_of false t ≡ Some number → is_negative number.mant ≡ false
not_negative t number e =
    let whole = before_point t.bytes in
    let fraction = without_zeros (behind_point t.bytes) in
    let shown = passed (is kinds.Number t) (number_in false t.bytes) number e in
    let made = passed (all_ascii_digits (whole ++ fraction)) (scaled (pos (digits_value 10 (whole ++ fraction))) (length fraction)) number shown in
    ap is_negative (scaled_mant (pos (digits_value 10 (whole ++ fraction))) (length fraction) number made)

-- ---- the languages of numbers

-- A number without a minus that has a text is spelled by its lexeme.
pub canonical_number : Canonical (number false) (λ value. print.number value ∷ [])
canonical_number w value t = (print.number value, refl, ap (λ (z : Bool). number_of z (print.number value)) (sym (not_negative t.0 value t.2)) ∙ number_shown value)

-- A number is spelled by its lexemes, whatever it is.
pub spells_signed : (value : Scaled) → signed_number (print.signed value) value
spells_signed value = spells (is_negative value.mant) refl
  where
    spells : (b : Bool) → is_negative value.mant ≡ b → signed_number (if is_negative value.mant then print.spelled kinds.Minus ∷ (print.number value ∷ []) else print.number value ∷ []) value
    spells true e = rw e (record {
      front = print.spelled kinds.Minus ∷ [];
      back = print.number value ∷ [];
      value = Some tt;
      first = inl (ends_in (λ z. Some z) (print.spelled kinds.Minus ∷ []) tt (spells_word kinds.Minus));
      second = (print.number value, refl, ap (λ (z : Bool). number_of z (print.number value)) (sym e) ∙ number_shown value);
      whole = refl;
    })
    spells false e = rw e (record {
      front = [];
      back = print.number value ∷ [];
      value = None;
      first = inr (refl, refl);
      second = (print.number value, refl, ap (λ (z : Bool). number_of z (print.number value)) (sym e) ∙ number_shown value);
      whole = refl;
    })

pub canonical_signed : Canonical signed_number print.signed
canonical_signed w value t = spells_signed value

-- ---- whole numbers

-- where both of two tests pass
both : (a b : Bool) → (a && b) ≡ true → (a ≡ true) × (b ≡ true)
both true b e = (refl, e)
both false b e = absurd (both_ways e refl)

le_from_test : (n m : ℕ) → nat_le n m ≡ true → n ≤ m
le_from_test n m test = grind (arith, nat_tests)

-- a whole number has at most 18 digits
whole_below : (text : List ℕ) (number : ℕ) (b : Bool) → (all_ascii_digits text && nat_le (length text) 18) ≡ b → (if b then Some (digits_value 10 text) else None) ≡ Some number → number < 10 ^ 18
whole_below text number true is e =
    let tests = both (all_ascii_digits text) (nat_le (length text) 18) is in
    let short : length text ≤ 18 = le_from_test (length text) 18 tests.1 in
    let small = whole_small text (are_digits text tests.0) short in
    omega (arith, small, some_is e)
whole_below text number false is e = absurd (not_none (sym e))

-- A whole number that has a text is spelled by its lexeme.
pub canonical_whole : Canonical whole (λ value. print.whole value ∷ [])
canonical_whole w value t =
    let small : value < 10 ^ 18 = whole_below t.0.bytes value (all_ascii_digits t.0.bytes && nat_le (length t.0.bytes) 18) refl (passed (is kinds.Number t.0) (whole_in t.0.bytes) value t.2) in
    let numeral = decimal_is_IsNumeral_wide value (omega (arith, small)) in
    let short = length-decimal-le_wide 18 value (omega arith) small (omega (arith, small)) in
    (print.whole value, refl, sym (whole_is (decimal value) value (pass (decimal value) numeral.0.1) short (omega (arith, small, numeral.1))))
