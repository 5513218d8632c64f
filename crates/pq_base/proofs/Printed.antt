-- Lemmas on printed numbers.
use Rattle.std.proofs.Common.{◌≡◌, ℕ, zero, suc, ◌+◌, ◌-◌, ◌^◌, ◌<◌, Bool, true, false, List, [], ◌∷◌, ◌++◌, length, take, drop, replicate, refl, sym, ap, ◌∙◌, inl, lit<, pos, negsuc, ℤ, All, arith, decimal, unsigned_abs}
use Rattle.std.specs.Str.Parse.{AllDigits, digits_value, digits_value_after}
use Rattle.std.proofs.lemmas.List.{append-nil, take_all, drop_all, length-append, length-take, length-drop, length-replicate, take-append-drop}
use Rattle.std.proofs.lemmas.List.Elements.{All-append, All-replicate}
use Rattle.std.proofs.lemmas.Str.Ascii.{All-from_ascii}
use Rattle.std.proofs.lemmas.Fmt.{IsAscii-decimal_wide, decimal_is_IsNumeral_wide}
use Rattle.pq_base.specs.Decimal.{Spells, HasSign, IsFine, PrintedIsSpelled, PrintedIsRead, filled, signed, sign_text, unsigned_text, units_of, is_negative, padded, printed_parts, decimal_text}
use Rattle.pq_base.proofs.Numerals.{AllDigits-take, digits_value_after-append, digits_value_after-zeros}

-- padded digits are ASCII
pub padded_is_ascii : (scale number : ℕ) → number < 10 ^ 64 → All (λ (byte : ℕ). byte < 128) (padded scale (decimal number))
padded_is_ascii scale number small =
    All-append (λ (byte : ℕ). byte < 128) (replicate (scale + 1 - length (decimal number)) 48) (decimal number) (All-replicate (λ (byte : ℕ). byte < 128) (scale + 1 - length (decimal number)) 48 (lit< tt)) (All-from_ascii (decimal number) (IsAscii-decimal_wide number small))

-- digits after digits
AllDigits-append : (digits more : List ℕ) → AllDigits 10 digits → AllDigits 10 more → AllDigits 10 (digits ++ more)
AllDigits-append [] more p q = q
AllDigits-append (digit ∷ digits) more p q = (p.0, AllDigits-append digits more p.1 q)

-- what comes after a prefix of digits
AllDigits-drop : (count : ℕ) (digits : List ℕ) → AllDigits 10 digits → AllDigits 10 (drop count digits)
AllDigits-drop zero digits all = all
AllDigits-drop (suc count) [] all = tt
AllDigits-drop (suc count) (digit ∷ digits) all = AllDigits-drop count digits all.1

-- zeros are digits
AllDigits-zeros : (count : ℕ) → AllDigits 10 (replicate count 48)
AllDigits-zeros zero = tt
AllDigits-zeros (suc count) = (lit< tt, AllDigits-zeros count)

-- padded digits are digits
AllDigits-padded : (scale number : ℕ) → number < 10 ^ 64 → AllDigits 10 (padded scale (decimal number))
AllDigits-padded scale number small =
    AllDigits-append (replicate (scale + 1 - length (decimal number)) 48) (decimal number) (AllDigits-zeros (scale + 1 - length (decimal number))) (decimal_is_IsNumeral_wide number small).0.1

-- there are more padded digits than places
length-padded : (scale : ℕ) (digits : List ℕ) → scale < length (padded scale digits)
length-padded scale digits =
    omega (arith, length-append (replicate (scale + 1 - length digits) 48) digits, length-replicate {A = ℕ} (scale + 1 - length digits) 48)

-- zeros before it leave the value
digits_value-padded : (scale number : ℕ) → number < 10 ^ 64 → digits_value 10 (padded scale (decimal number)) ≡ number
digits_value-padded scale number small =
    let zeros = scale + 1 - length (decimal number) in
    let front : digits_value_after 10 0 (replicate zeros 48) ≡ 0 = digits_value_after-zeros 0 zeros ∙ omega arith in
    digits_value_after-append 0 (replicate zeros 48) (decimal number) ∙ (ap (λ (n : ℕ). digits_value_after 10 n (decimal number)) front ∙ (decimal_is_IsNumeral_wide number small).1)

-- a fraction of just so many digits needs no zeros
filled_is : (places : ℕ) (digits : List ℕ) → length digits ≡ places → filled places digits ≡ digits
filled_is places digits e =
    let none : places - length digits ≡ 0 = omega (arith, e) in
    let all : take places digits ≡ digits = take_all places digits (omega (arith, e)) in
    ap (λ (n : ℕ). take places digits ++ replicate n 48) none ∙ (append-nil (take places digits) ∙ all)

-- how many digits comes after the point
length-fraction : (value : ℤ) (scale : ℕ) → length (printed_parts value scale).fraction ≡ scale
length-fraction value scale =
    let digits = padded scale (decimal (unsigned_abs value)) in
    omega (arith, length-drop (length digits - scale) digits, length-padded scale (decimal (unsigned_abs value)))

-- a number after its sign
HasSign-sign_text : (minus : Bool) (number : List ℕ) → HasSign minus (sign_text minus ++ number) number
HasSign-sign_text true number = refl
HasSign-sign_text false number = inl refl

-- a printed number is spelled by its parts
Spells-printed : (value : ℤ) (scale : ℕ) → unsigned_abs value < 10 ^ 64 → Spells (decimal_text value scale) (printed_parts value scale)
Spells-printed value scale small =
    let digits = padded scale (decimal (unsigned_abs value)) in
    let all = AllDigits-padded scale (unsigned_abs value) small in
    let front = length digits - scale in
    record {
      signed = HasSign-sign_text (is_negative value) (unsigned_text (printed_parts value scale));
      whole = AllDigits-take front digits all;
      some = omega (arith, length-take front digits, length-padded scale (decimal (unsigned_abs value)));
      fraction = AllDigits-drop front digits all;
    }

-- the units of a printed number
units_of-printed : (value : ℤ) (scale : ℕ) → unsigned_abs value < 10 ^ 64 → units_of scale (printed_parts value scale) ≡ unsigned_abs value
units_of-printed value scale small =
    let digits = padded scale (decimal (unsigned_abs value)) in
    let front = length digits - scale in
    let fraction = filled_is scale (drop front digits) (length-fraction value scale) in
    let whole : take front digits ++ filled scale (drop front digits) ≡ digits = ap (λ (xs : List ℕ). take front digits ++ xs) fraction ∙ take-append-drop front digits in
    ap (digits_value 10) whole ∙ digits_value-padded scale (unsigned_abs value) small

-- a number is its sign and magnitude
pub signed_is : (value : ℤ) → value ≡ signed (is_negative value) (unsigned_abs value)
signed_is (pos number) = refl
signed_is (negsuc number) = refl

pub printed_is_spelled : PrintedIsSpelled
printed_is_spelled value scale small =
    (printed_parts value scale, Spells-printed value scale small, refl, length-fraction value scale, units_of-printed value scale small)

-- nothing comes after the last place
IsFine-printed : (value : ℤ) (scale : ℕ) → IsFine scale (printed_parts value scale)
IsFine-printed value scale = λ k d within.
    let none = ap (λ (xs : List ℕ). length xs) (drop_all scale (printed_parts value scale).fraction (omega (arith, length-fraction value scale))) in
    absurd (omega (arith, within, none))

pub printed_is_read_back : PrintedIsRead
printed_is_read_back value scale within =
    let small : unsigned_abs value < 10 ^ 64 = omega (arith, within) in
    let units = units_of-printed value scale small in
    (printed_parts value scale, Spells-printed value scale small, IsFine-printed value scale, omega (arith, units, within), signed_is value ∙ ap (signed (is_negative value)) (sym units))
