-- Lemmas on the numbers that texts of digits are.
use Rattle.std.proofs.Common.{◌≡◌, ◌≢◌, ℕ, zero, suc, ◌-◌, ◌^◌, ◌%◌, ◌<◌, ◌≤◌, min, Bool, true, false, ◌==◌, ◌&&◌, if◌then◌else◌, List, [], ◌∷◌, ◌++◌, length, take, get_or, Some, None, refl, sym, ap, ◌∙◌, arith, ℤ, unsigned_abs}
use Rattle.std.specs.Str.{all_ascii_digits}
use Rattle.std.specs.Str.Parse.{AllDigits, digits_value, digits_value_after}
use Rattle.std.specs.Bool.{nat_le}
use Rattle.std.proofs.lemmas.Bool.Decides.{nat_tests}
use Rattle.std.specs.Coded.{le_prop, →_prop}
use Rattle.std.specs.Char.{is_ascii_digit}
use Rattle.std.proofs.Math.Decide.{dec_lt, dec_le, ℕ_discrete}
use Rattle.std.proofs.lemmas.Str.Parse.{numerals_by_value, tells_digits, tells_all_ascii_digits, digits_value_short}
use Rattle.std.proofs.lemmas.List.{take_more}
use Rattle.pq_base.specs.Decimal.{signed}
use Rattle.pq_base.specs.declared.scaled.Scaled.{Scaled}
use Rattle.pq_base.proofs.Numerals.{capped_after, digits_value_after-append}
use Rattle.pq_base.proofs.SameNumbers.{unsigned_abs-signed}
use Rattle.paql_grammar.specs.Numerals.{stored, scaled, before_point, behind_point, and_digits, without_zeros, number_of_digits, number_in, whole_in}

-- ---- what is stored

-- a stored number from its parts
abbrev made : (mant : ℤ) (scale : ℕ) → unsigned_abs mant < 10 ^ 30 → scale ≤ 30 → (0 < scale → unsigned_abs mant % 10 ≡ 0 → ⊥) → Scaled
made mant scale small shallow shortest = record { mant = mant; scale = scale; small = small; shallow = shallow; shortest = shortest }

-- the facts of a stored number have one proof each
made_same : (mant : ℤ) (scale : ℕ) (a b : unsigned_abs mant < 10 ^ 30) (c d : scale ≤ 30) (e f : 0 < scale → unsigned_abs mant % 10 ≡ 0 → ⊥) → made mant scale a c e ≡ made mant scale b d f
made_same mant scale a b c d e f =
    ap (λ x. made mant scale x c e) (le_prop a b) ∙ (ap (λ x. made mant scale b x e) (le_prop c d) ∙ ap (λ x. made mant scale b d x) (→_prop (→_prop (λ x y. absurd x)) e f))

stored_is : (mant : ℤ) (scale : ℕ) (a : Dec (unsigned_abs mant < 10 ^ 30)) (b : Dec (scale ≤ 30)) (c : Dec (unsigned_abs mant % 10 ≡ 0)) (small : unsigned_abs mant < 10 ^ 30) (shallow : scale ≤ 30) (shortest : 0 < scale → unsigned_abs mant % 10 ≡ 0 → ⊥) → Some (made mant scale small shallow shortest) ≡ stored mant scale a b c
stored_is mant zero (no a) b c small shallow shortest = absurd (a small)
stored_is mant zero (yes a) (no b) c small shallow shortest = absurd (b shallow)
stored_is mant zero (yes a) (yes b) c small shallow shortest = ap Some (made_same mant zero small a shallow b shortest _)
stored_is mant (suc scale) (no a) b c small shallow shortest = absurd (a small)
stored_is mant (suc scale) (yes a) (no b) c small shallow shortest = absurd (b shallow)
stored_is mant (suc scale) (yes a) (yes b) (yes c) small shallow shortest = absurd (shortest (omega arith) c)
stored_is mant (suc scale) (yes a) (yes b) (no c) small shallow shortest = ap Some (made_same mant (suc scale) small a shallow b shortest _)

-- A stored number is the one with its units and places.
pub scaled_is : (number : Scaled) (mant : ℤ) (scale : ℕ) → number.mant ≡ mant → number.scale ≡ scale → Some number ≡ scaled mant scale
unfolding scaled
scaled_is number mant scale units places =
    stored_is number.mant number.scale (dec_lt (unsigned_abs number.mant) (10 ^ 30)) (dec_le number.scale 30) (ℕ_discrete (unsigned_abs number.mant % 10) 0) number.small number.shallow number.shortest
    ∙ (ap (λ z. scaled z number.scale) units ∙ ap (λ n. scaled mant n) places)

stored_none : (mant : ℤ) (scale : ℕ) (a : Dec (unsigned_abs mant < 10 ^ 30)) (b : Dec (scale ≤ 30)) (c : Dec (unsigned_abs mant % 10 ≡ 0)) → (unsigned_abs mant < 10 ^ 30 → scale ≤ 30 → (0 < scale → unsigned_abs mant % 10 ≡ 0 → ⊥) → ⊥) → None ≡ stored mant scale a b c
stored_none mant zero (no a) b c not_stored = refl
stored_none mant zero (yes a) (no b) c not_stored = refl
stored_none mant zero (yes a) (yes b) c not_stored = absurd (not_stored a b (λ some. absurd (omega (arith, some))))
stored_none mant (suc scale) (no a) b c not_stored = refl
stored_none mant (suc scale) (yes a) (no b) c not_stored = refl
stored_none mant (suc scale) (yes a) (yes b) (yes c) not_stored = refl
stored_none mant (suc scale) (yes a) (yes b) (no c) not_stored = absurd (not_stored a b (λ _. c))

-- A number that can't be stored is none.
pub scaled_none : (mant : ℤ) (scale : ℕ) → (unsigned_abs mant < 10 ^ 30 → scale ≤ 30 → (0 < scale → unsigned_abs mant % 10 ≡ 0 → ⊥) → ⊥) → None ≡ scaled mant scale
unfolding scaled
scaled_none mant scale not_stored = stored_none mant scale (dec_lt (unsigned_abs mant) (10 ^ 30)) (dec_le scale 30) (ℕ_discrete (unsigned_abs mant % 10) 0) not_stored

-- numbers of too large a magnitude are none
pub scaled_large : (minus : Bool) (magnitude scale : ℕ) → 10 ^ 30 ≤ magnitude → None ≡ scaled (signed minus magnitude) scale
scaled_large minus magnitude scale large = scaled_none (signed minus magnitude) scale (λ small _ _. omega (arith, small, large, unsigned_abs-signed minus magnitude))

-- a magnitude that stops at the limit gives the same number
scaled_capped_by : (minus : Bool) (magnitude scale : ℕ) → Dec (magnitude < 10 ^ 30) → scaled (signed minus (min magnitude (10 ^ 30))) scale ≡ scaled (signed minus magnitude) scale
scaled_capped_by minus magnitude scale (yes small) =
    let e : min magnitude (10 ^ 30) ≡ magnitude = omega (arith, small) in ap (λ n. scaled (signed minus n) scale) e
scaled_capped_by minus magnitude scale (no large) = sym (scaled_large minus (min magnitude (10 ^ 30)) scale (omega (arith, large))) ∙ scaled_large minus magnitude scale (omega (arith, large))

pub scaled_capped : (minus : Bool) (magnitude scale : ℕ) → scaled (signed minus (min magnitude (10 ^ 30))) scale ≡ scaled (signed minus magnitude) scale
scaled_capped minus magnitude scale = scaled_capped_by minus magnitude scale (dec_lt magnitude (10 ^ 30))

-- ---- digits

-- what passes the test is digits
pub are_digits : (text : List ℕ) → all_ascii_digits text ≡ true → AllDigits 10 text
are_digits text all = (numerals_by_value (λ ds. all_ascii_digits ds ≡ true) tells_all_ascii_digits).to text all

and_assoc : (a b c : Bool) → (a && (b && c)) ≡ ((a && b) && c)
and_assoc true b c = refl
and_assoc false b c = refl

-- both parts are digits where the whole is
digits-append : (a b : List ℕ) → all_ascii_digits (a ++ b) ≡ (all_ascii_digits a && all_ascii_digits b)
digits-append [] b = refl
digits-append (c ∷ a) b = ap (λ x. is_ascii_digit c && x) (digits-append a b) ∙ and_assoc (is_ascii_digit c) (all_ascii_digits a) (all_ascii_digits b)

and_false : (b : Bool) → (b && false) ≡ false
and_false true = refl
and_false false = refl

-- where one part isn't digits there is no number
pub number_no_whole : (minus : Bool) (whole fraction : List ℕ) → all_ascii_digits whole ≡ false → None ≡ number_of_digits minus whole fraction
number_no_whole minus whole fraction fails = rw (digits-append whole fraction ∙ ap (λ b. b && all_ascii_digits fraction) fails) refl

pub number_no_fraction : (minus : Bool) (whole fraction : List ℕ) → all_ascii_digits fraction ≡ false → None ≡ number_of_digits minus whole fraction
number_no_fraction minus whole fraction fails = rw (digits-append whole fraction ∙ (ap (λ b. all_ascii_digits whole && b) fails ∙ and_false (all_ascii_digits whole))) refl

-- the number of digits from their capped value
pub number_is : (minus : Bool) (whole fraction : List ℕ) → all_ascii_digits whole ≡ true → all_ascii_digits fraction ≡ true → scaled (signed minus (min (digits_value_after 10 (min (digits_value_after 10 0 whole) (10 ^ 30)) fraction) (10 ^ 30))) (length fraction) ≡ number_of_digits minus whole fraction
number_is minus whole fraction all_whole all_fraction =
    let all : all_ascii_digits (whole ++ fraction) ≡ true = digits-append whole fraction ∙ (ap (λ b. b && all_ascii_digits fraction) all_whole ∙ all_fraction) in
    let value = capped_after (10 ^ 30) (digits_value_after 10 0 whole) fraction ∙ ap (λ n. min n (10 ^ 30)) (sym (digits_value_after-append 0 whole fraction)) in
    rw all (ap (λ n. scaled (signed minus n) (length fraction)) value ∙ scaled_capped minus (digits_value 10 (whole ++ fraction)) (length fraction))

-- ---- zeros at the end

-- a zero at the end doesn't count
pub without_last : (digits : List ℕ) → without_zeros (digits ++ 48 ∷ []) ≡ without_zeros digits
without_last [] = refl
without_last (digit ∷ digits) = ap (and_digits digit) (without_last digits)

-- a digit before others stays
stays : (digit : ℕ) (digits : List ℕ) (last : ℕ) → and_digits digit (digits ++ last ∷ []) ≡ digit ∷ (digits ++ last ∷ [])
stays digit [] last = refl
stays digit (next ∷ digits) last = refl

not_zero : (digit : ℕ) → digit ≢ 48 → and_digits digit [] ≡ digit ∷ []
not_zero digit differs = not_by (digit == 48) refl
  where
    not_by : (b : Bool) → (digit == 48) ≡ b → (if b then [] else digit ∷ []) ≡ digit ∷ []
    not_by true e = absurd (differs (grind (arith, e)))
    not_by false e = refl

-- digits of which the last is no zero stay
pub without_none : (digits : List ℕ) (last : ℕ) → last ≢ 48 → without_zeros (digits ++ last ∷ []) ≡ digits ++ last ∷ []
without_none [] last differs = not_zero last differs
without_none (digit ∷ digits) last differs = ap (and_digits digit) (without_none digits last differs) ∙ stays digit digits last

-- up to a digit that is no zero all digits stay
pub zeros_end : (digits : List ℕ) (len : ℕ) → 0 < len → len ≤ length digits → get_or digits (len - 1) 0 ≢ 48 → without_zeros (take len digits) ≡ take len digits
zeros_end digits len some within differs =
    let more : take len digits ≡ take (len - 1) digits ++ get_or digits (len - 1) 0 ∷ [] = ap (λ n. take n digits) (omega (arith, some)) ∙ take_more digits (len - 1) 0 (omega (arith, some, within)) in
    ap without_zeros more ∙ (without_none (take (len - 1) digits) (get_or digits (len - 1) 0) differs ∙ sym more)

-- a zero at the end is left out
pub zeros_go : (digits : List ℕ) (len : ℕ) → 0 < len → len ≤ length digits → get_or digits (len - 1) 0 ≡ 48 → without_zeros (take (len - 1) digits) ≡ without_zeros (take len digits)
zeros_go digits len some within zero_is =
    let more : take len digits ≡ take (len - 1) digits ++ 48 ∷ [] = ap (λ n. take n digits) (omega (arith, some)) ∙ (take_more digits (len - 1) 0 (omega (arith, some, within)) ∙ ap (λ d. take (len - 1) digits ++ d ∷ []) zero_is) in
    sym (ap without_zeros more ∙ without_last (take (len - 1) digits))

-- at most 18 digits are a number below 10^18
pub whole_small : (text : List ℕ) → AllDigits 10 text → length text ≤ 18 → digits_value 10 text < 10 ^ 18
whole_small text all short = digits_value_short (numerals_by_value (AllDigits 10) tells_digits) text 18 all short

le_test : (n m : ℕ) → n ≤ m → nat_le n m ≡ true
le_test n m le = grind (arith, nat_tests)

-- the whole number of a text from its capped value
pub whole_is : (text : List ℕ) (value : ℕ) → all_ascii_digits text ≡ true → length text ≤ 18 → value ≡ min (digits_value_after 10 0 text) (10 ^ 30) → Some value ≡ whole_in text
whole_is text value all short is =
    let small = whole_small text (are_digits text all) short in
    let same : value ≡ digits_value 10 text = omega (arith, is, small) in
    rw (all, le_test (length text) 18 short) (ap Some same)

-- the number of a text from its parts
pub number_parts : (minus : Bool) (text whole behind fraction : List ℕ) → whole ≡ before_point text → behind ≡ behind_point text → fraction ≡ without_zeros behind → number_of_digits minus whole fraction ≡ number_in minus text
number_parts minus text whole behind fraction front rest trimmed =
    ap (λ w. number_of_digits minus w fraction) front ∙ ap (λ f. number_of_digits minus (before_point text) f) (trimmed ∙ ap without_zeros rest)
