-- Decimal numbers: which digits are one, and which begin one of a range.
use Rattle.std.proofs.Common.{◌≡◌, ◌≢◌, ◌⊎◌, ℕ, zero, suc, ◌+◌, ◌-◌, ◌*◌, ◌/◌, ◌%◌, ◌^◌, ◌<◌, ◌≤◌, List, [], ◌∷◌, ◌++◌, length, take, get_or, refl, sym, ◌∙◌, ap, subst, arith, inl, inr, append_assoc}
use Rattle.std.specs.Fmt.{decimal}
use Rattle.std.specs.Char.{digit_value}
use Rattle.std.specs.Str.Parse.{AllDigits, digits_value}
use Rattle.std.proofs.lemmas.Bool.{cases_lt}
use Rattle.std.proofs.lemmas.List.{append-nil, length-take-le}
use Rattle.std.proofs.lemmas.Fmt.{decimal_digit, decimal_step, decimal_nonempty, length-decimal-le, first_decimal, digits_decimal, decimal-digits_value, decimal_injective}
use Rattle.std.proofs.lemmas.Str.Parse.{IsNumeralModel, numerals_by_value, tells_digits, digits_value_short}
use Rattle.cert_text.specs.declared.numbers.Range.{Range}
use Rattle.cert_text.specs.Numbers.{IsWithin, CanBegin, tens, Reaches}

pub own : IsNumeralModel (AllDigits 10) (digits_value 10)
own = numerals_by_value (AllDigits 10) tells_digits

-- 10^19 fits 64 bits
pub wide : (n : ℕ) → n < 10 ^ 19 → n < 2 ^ 64
wide n h = omega (arith, h)

pub all_digits : (n : ℕ) → n < 10 ^ 19 → AllDigits 10 (decimal n)
all_digits n h = digits_decimal own n (wide n h)

pub all_take : (i : ℕ) (digits : List ℕ) → AllDigits 10 digits → AllDigits 10 (take i digits)
all_take zero digits all = tt
all_take (suc i) [] all = tt
all_take (suc i) (digit ∷ digits) all = (all.0, all_take i digits all.1)

-- the value of fewer than 19 digits
pub value_small : (digits : List ℕ) (i : ℕ) → AllDigits 10 digits → i < length digits → length digits ≤ 19 → digits_value 10 (take i digits) < 10 ^ 18
value_small digits i all within few =
    digits_value_short own (take i digits) 18 (all_take i digits all) (omega (arith, length-take-le i digits (omega arith)))

-- a decimal form has a digit, at most 19 of them, and no leading zero
pub some_digit : (n : ℕ) → n < 10 ^ 19 → 0 < length (decimal n)
some_digit n h = decimal_nonempty n (wide n h)

pub few_digits : (n : ℕ) → n < 10 ^ 19 → length (decimal n) ≤ 19
few_digits n h = length-decimal-le 19 n (omega arith) h (wide n h)

pub no_leading_zero : (n : ℕ) → n < 10 ^ 19 → 1 < length (decimal n) → get_or (decimal n) 0 0 ≡ 48 → ⊥
no_leading_zero zero h many first = omega (arith, ap length (decimal_digit 0 (omega arith)), many)
no_leading_zero (suc n) h many first = omega (arith, first_decimal (suc n) (omega arith) (wide (suc n) h), first)

-- digits are the decimal form of their value
pub value_is : (digits : List ℕ) → AllDigits 10 digits → 0 < length digits → length digits ≤ 19 → ((1 < length digits) × (get_or digits 0 0 ≡ 48) → ⊥) → digits ≡ decimal (digits_value 10 digits)
value_is digits all some few no_zero =
    let small : digits_value 10 digits < 10 ^ 19 = digits_value_short own digits 19 all few in
    sym (decimal-digits_value own digits all some (λ first. one first) (wide (digits_value 10 digits) small))
  where
    one : get_or digits 0 0 ≡ 48 → length digits ≡ 1
    one first =
        elim (cases_lt 1 (length digits)) [
          | inl many ↦ absurd (no_zero (many, first))
          | inr less ↦ omega (arith, less, some)
        ]

pub value_fits : (digits : List ℕ) → AllDigits 10 digits → length digits ≤ 19 → digits_value 10 digits < 10 ^ 19
value_fits digits all few = digits_value_short own digits 19 all few

-- two ways to cut a text into two
pub cut_twice : (a b c d : List ℕ) → a ++ b ≡ c ++ d → ((more : List ℕ) × (a ≡ c ++ more) × (d ≡ more ++ b)) ⊎ ((more : List ℕ) × (c ≡ a ++ more) × (b ≡ more ++ d))
cut_twice [] b c d e = inr (c, refl, e)
cut_twice (x ∷ a) b [] d e = inl (x ∷ a, refl, sym e)
cut_twice (x ∷ a) b (y ∷ c) d e =
    let rest : a ++ b ≡ c ++ d = cc in
    let same : x ≡ y = cc in
    elim (cut_twice a b c d rest) [
      | inl one ↦ inl (one.0, cc (same, one.1), one.2)
      | inr other ↦ inr (other.0, cc (same, other.1), other.2)
    ]

-- one byte is cut before it or after it
one_byte : (byte : ℕ) (more d : List ℕ) → byte ∷ [] ≡ more ++ d → (more ≡ []) ⊎ ((more ≡ byte ∷ []) × (d ≡ []))
one_byte byte [] d e = inl refl
one_byte byte (x ∷ []) d e = inr (cc, cc)
one_byte byte (x ∷ (y ∷ more)) d e = absurd (cc)

-- what the first digits of a number are: a number that reaches it
pub record Begins (low high x : ℕ) (digits : List ℕ) : Type 0 where
  pub number : ℕ
  pub least : number ≤ x
  pub is : digits ≡ decimal number
  pub reaches : Reaches number low high
  pub none : number ≡ 0 → x ≡ 0

-- a number of one digit
short_digits : (x low high : ℕ) (digits more : List ℕ) → x < 10 → low ≤ x → x ≤ high → decimal x ≡ digits ++ more → 0 < length digits → Begins low high x digits
short_digits x low high digits more small from to e some =
    let form : decimal x ≡ (48 + x) ∷ [] = decimal_digit x small in
    elim (one_byte (48 + x) digits more (sym form ∙ e)) [
      | inl none ↦ absurd (omega (arith, ap length none, some))
      | inr all ↦ record { number = x; least = omega arith; is = all.0 ∙ sym form; reaches = (0, from, to); none = λ h. h }
    ]

-- first digits of a tenth of a number are its first digits
more_digits : (x low high : ℕ) (digits : List ℕ) → 10 ≤ x → Begins (low / 10) (high / 10) (x / 10) digits → Begins low high x digits
more_digits x low high digits large found =
    record {
      number = found.number;
      least = omega (arith, found.least);
      is = found.is;
      reaches = (suc found.reaches.0, found.reaches.1, found.reaches.2);
      none = λ h. absurd (omega (arith, found.none h, large));
    }

long_digits : (x low high : ℕ) (digits more : List ℕ) → 10 ≤ x → x < 2 ^ 64 → low ≤ x → x ≤ high → decimal x ≡ digits ++ more
    → ((rest : List ℕ) → decimal (x / 10) ≡ digits ++ rest → Begins (low / 10) (high / 10) (x / 10) digits) → Begins low high x digits
long_digits x low high digits more large fits from to e shorter =
    let front : List ℕ = decimal (x / 10) in
    let last : List ℕ = (48 + x % 10) ∷ [] in
    let form : decimal x ≡ front ++ last = decimal_step x large fits in
    elim (cut_twice front last digits more (sym form ∙ e)) [
      | inl cut ↦ more_digits x low high digits large (shorter cut.0 cut.1)
      | inr cut ↦ elim (one_byte (48 + x % 10) cut.0 more cut.2) [
        | inl none ↦ more_digits x low high digits large (shorter [] (sym (cut.1 ∙ (ap (λ (rest : List ℕ). front ++ rest) none ∙ append-nil front)) ∙ sym (append-nil digits)))
        | inr all ↦ record { number = x; least = omega arith; is = cut.1 ∙ (ap (λ (rest : List ℕ). front ++ rest) all.0 ∙ sym form); reaches = (0, from, to); none = λ h. h }
      ]
    ]

-- some first digits of a number of the range
pub first_digits : (fuel x low high : ℕ) (digits more : List ℕ) → x ≤ fuel → x < 2 ^ 64 → low ≤ x → x ≤ high → decimal x ≡ digits ++ more → 0 < length digits → Begins low high x digits
first_digits zero x low high digits more enough fits from to e some = short_digits x low high digits more (omega (arith, enough)) from to e some
first_digits (suc fuel) x low high digits more enough fits from to e some =
    elim (cases_lt x 10) [
      | inl small ↦ short_digits x low high digits more small from to e some
      | inr large ↦ long_digits x low high digits more large fits from to e
          (λ (rest : List ℕ) (same : decimal (x / 10) ≡ digits ++ rest). first_digits fuel (x / 10) (low / 10) (high / 10) digits rest (omega (arith, enough, large)) (omega (arith, fits)) (omega (arith, from)) (omega (arith, to)) same some)
    ]

-- a number that reaches the range begins one of it
pub record Found (number low high : ℕ) : Type 0 where
  pub found : ℕ
  pub more : List ℕ
  pub low_is : low ≤ found
  pub high_is : found ≤ high
  pub large : 1 ≤ found
  pub form : decimal found ≡ decimal number ++ more

pub reached : (times number low high : ℕ) → 1 ≤ number → low ≤ high → high < 2 ^ 64 → tens times low ≤ number → number ≤ tens times high → Found number low high
reached zero number low high large some fits from to =
    record { found = number; more = []; low_is = from; high_is = to; large = large; form = sym (append-nil (decimal number)) }
reached (suc times) number low high large some fits from to =
    let f = reached times number (low / 10) (high / 10) large (omega (arith, some)) (omega (arith, fits)) from to in
    elim (cases_lt (f.found * 10) low) [
      | inl less ↦ made f low (omega arith) (omega (arith, some)) (omega (arith, less, f.low_is)) (omega (arith, less))
      | inr more ↦ made f (f.found * 10) more (omega (arith, f.high_is)) (omega arith) (omega arith)
    ]
  where
    made : (f : Found number (low / 10) (high / 10)) (x : ℕ) → low ≤ x → x ≤ high → x ≤ f.found * 10 + 9 → f.found * 10 ≤ x → Found number low high
    made f x low_is high_is most least =
        let tenth : x / 10 ≡ f.found = omega (arith, most, least) in
        let form : decimal x ≡ decimal (x / 10) ++ (48 + x % 10) ∷ [] = decimal_step x (omega (arith, least, f.large)) (omega (arith, high_is, fits)) in
        record {
          found = x;
          more = f.more ++ (48 + x % 10) ∷ [];
          low_is = low_is;
          high_is = high_is;
          large = omega (arith, least, f.large);
          form = form ∙ (ap (λ (n : ℕ). decimal n ++ (48 + x % 10) ∷ []) tenth ∙ (ap (λ (bytes : List ℕ). bytes ++ (48 + x % 10) ∷ []) f.form ∙ append_assoc (decimal number) f.more ((48 + x % 10) ∷ [])));
        }

-- dividing by ten makes no number greater
tens_le : (times n : ℕ) → tens times n ≤ n
tens_le zero n = omega arith
tens_le (suc times) n = omega (arith, tens_le times (n / 10))

pub past : (number low high : ℕ) → high < number → Reaches number low high → ⊥
past number low high less reaches = omega (arith, less, reaches.2, tens_le reaches.0 high)

-- one division more
pub divided : (number low high : ℕ) → number < low → Reaches number low high → Reaches number (low / 10) (high / 10)
divided number low high less (zero, from, to) = absurd (omega (arith, less, from))
divided number low high less (suc times, from, to) = (times, from, to)

pub undivided : (number low high : ℕ) → Reaches number (low / 10) (high / 10) → Reaches number low high
undivided number low high (times, from, to) = (suc times, from, to)

-- what holds while the ends are divided
pub record IsReaching (number low high low_was high_was : ℕ) : Type 0 where
  pub onward : Reaches number low high → Reaches number low_was high_was
  pub back : Reaches number low_was high_was → Reaches number low high

-- which digits begin a number of a range
pub can_from : (range : Range) (number : ℕ) → 1 ≤ number → range.low ≤ range.high → range.high < 10 ^ 19 → Reaches number range.low range.high → CanBegin range (decimal number)
can_from range number large some small reaches =
    let f = reached reaches.0 number range.low range.high large some (wide range.high small) reaches.1 reaches.2 in
    (f.found, f.more, record { low = f.low_is; high = f.high_is }, f.form)

pub begins_of : (range : Range) (digits : List ℕ) → range.high < 10 ^ 19 → 0 < length digits → (can : CanBegin range digits) → Begins range.low range.high can.0 digits
begins_of range digits small some (x, more, within, form) =
    first_digits x x range.low range.high digits more (omega arith) (omega (arith, small, within.high)) within.low within.high form some

pub can_to : (range : Range) (number : ℕ) → number < 2 ^ 64 → range.high < 10 ^ 19 → CanBegin range (decimal number) → Reaches number range.low range.high
can_to range number fits small can =
    let b = begins_of range (decimal number) small (decimal_nonempty number fits) can in
    let same : number ≡ b.number = decimal_injective number b.number fits (omega (arith, b.least, small, can.2.high)) b.is in
    subst (λ (n : ℕ). Reaches n range.low range.high) (sym same) b.reaches

pub can_zero : (range : Range) → range.high < 10 ^ 19 → CanBegin range (decimal 0) → range.low ≡ 0
can_zero range small can =
    let b = begins_of range (decimal 0) small (some_digit 0 (omega arith)) can in
    let same : 0 ≡ b.number = decimal_injective 0 b.number (omega arith) (omega (arith, b.least, small, can.2.high)) b.is in
    omega (arith, b.none (sym same), can.2.low)

pub zero_can : (range : Range) → range.low ≡ 0 → CanBegin range (decimal 0)
zero_can range none = (0, [], record { low = omega (arith, none); high = omega arith }, sym (append-nil (decimal 0)))

pub none_can : (range : Range) (digits : List ℕ) → range.low ≤ range.high → digits ≡ [] → CanBegin range digits
none_can range digits some none = (range.low, decimal range.low, record { low = omega arith; high = some }, ap (λ (front : List ℕ). front ++ decimal range.low) (sym none))

-- digits that are no decimal form begin no number
pub not_begun : (range : Range) (digits : List ℕ) → range.high < 10 ^ 19 → 0 < length digits → ((number : ℕ) → number < 10 ^ 19 → digits ≡ decimal number → ⊥) → CanBegin range digits → ⊥
not_begun range digits small some none can =
    let b = begins_of range digits small some can in
    none b.number (omega (arith, b.least, small, can.2.high)) b.is
