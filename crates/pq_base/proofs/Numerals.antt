-- Lemmas on digits, and on the one way in which parts spell a text.
use Rattle.std.proofs.Common.{◌≡◌, ℕ, zero, suc, ◌+◌, ◌-◌, ◌*◌, ◌^◌, ◌<◌, min, Bool, true, false, List, [], ◌∷◌, ◌++◌, length, get_or, take, replicate, refl, sym, ap, ◌∙◌, subst, inl, inr, lit<, ◌≢◌, ◌⊎◌, ◌==◌, arith}
use Rattle.std.specs.Char.{digit_value}
use Rattle.std.specs.Str.Parse.{AllDigits, digits_value, digits_value_after}
use Rattle.std.proofs.lemmas.List.{append-nil, take_more, take_min}
use Rattle.std.proofs.lemmas.Str.{digit_value_digit}
use Rattle.std.proofs.lemmas.Str.Parse.{digit_at}
use Rattle.std.specs.Int.{IsInRange}
use Rattle.std.proofs.Math.Nat.{pow-suc}
use Rattle.std.proofs.lemmas.Grind.{pow_more}
use Rattle.std.specs.Char.{is_ascii_digit}
use Rattle.std.proofs.lemmas.Bool.Decides.{nat_tests}
use Rattle.pq_base.specs.Decimal.{filled, Parts, Spells, OneReading, HasSign, BeginsWithDigit, point_and, unsigned_text}

-- a capped number with one more digit
pub capped_push : (number digit most : ℕ) → min (min number most * 10 + digit) most ≡ min (number * 10 + digit) most
capped_push number digit most = omega arith

-- a capped number times ten
pub capped_tens : (number most : ℕ) → min (min number most * 10) most ≡ min (number * 10) most
capped_tens number most = omega arith

-- one more digit at the end
pub digits_value_after-push : (start : ℕ) (digits : List ℕ) (digit : ℕ) → digits_value_after 10 start (digits ++ digit ∷ []) ≡ digits_value_after 10 start digits * 10 + digit_value digit
digits_value_after-push start [] digit = refl
digits_value_after-push start (first ∷ digits) digit =
    digits_value_after-push (start * 10 + digit_value first) digits digit

-- digits after digits
pub digits_value_after-append : (start : ℕ) (digits more : List ℕ) → digits_value_after 10 start (digits ++ more) ≡ digits_value_after 10 (digits_value_after 10 start digits) more
digits_value_after-append start [] more = refl
digits_value_after-append start (first ∷ digits) more =
    digits_value_after-append (start * 10 + digit_value first) digits more

-- a capped start gives the same capped value
pub capped_after : (most start : ℕ) (digits : List ℕ) → min (digits_value_after 10 (min start most) digits) most ≡ min (digits_value_after 10 start digits) most
capped_after most start [] = omega arith
capped_after most start (first ∷ digits) =
    let d = digit_value first in
    sym (capped_after most (min start most * 10 + d) digits) ∙ (ap (λ (n : ℕ). min (digits_value_after 10 n digits) most) (capped_push start d most) ∙ capped_after most (start * 10 + d) digits)

-- no digit is at the start of a point and its digits
pub no_digit_at_point : (digits : List ℕ) → BeginsWithDigit (point_and digits) → ⊥
no_digit_at_point [] h = h
no_digit_at_point (digit ∷ digits) h = omega arith

-- digits, where there are some, are at the start
pub begins : (digits more : List ℕ) → AllDigits 10 digits → 0 < length digits → BeginsWithDigit (digits ++ more)
begins [] more all some = absurd (omega arith)
begins (digit ∷ digits) more all some = all.0

-- a sign is no digit, so a text that begins with it doesn't begin with one
no_sign : (sign : ℕ) (a text b : List ℕ) → BeginsWithDigit b → text ≡ sign ∷ a → text ≡ b → 9 < digit_value sign → ⊥
no_sign sign a text b in_b p q high =
    let h : BeginsWithDigit (sign ∷ a) = subst BeginsWithDigit (sym q ∙ p) in_b in
    omega (arith, h)

-- there is one way to take all digits from the start of a text
pub split_once : (a b x y : List ℕ) → AllDigits 10 a → AllDigits 10 b → (BeginsWithDigit x → ⊥) → (BeginsWithDigit y → ⊥) → a ++ x ≡ b ++ y → (a ≡ b) × (x ≡ y)
split_once [] [] x y p q no_x no_y e = (refl, e)
split_once [] (d ∷ b) x y p q no_x no_y e = absurd (no_x (subst BeginsWithDigit (sym e) q.0))
split_once (c ∷ a) [] x y p q no_x no_y e = absurd (no_y (subst BeginsWithDigit e p.0))
split_once (c ∷ a) (d ∷ b) x y p q no_x no_y e =
    let rest : a ++ x ≡ b ++ y = cc in
    let both = split_once a b x y p.1 q.1 no_x no_y rest in
    let same : c ≡ d = cc in
    (cc (same, both.0), both.1)

-- two texts that begin with two bytes are not one
heads_differ : (x y : ℕ) (text a b : List ℕ) → x ≢ y → text ≡ x ∷ a → text ≡ y ∷ b → ⊥
heads_differ x y text a b differ p q = differ (cc (p, q))

-- after two signs that are one comes one number
same_sign : (sign : ℕ) (text a b : List ℕ) → text ≡ sign ∷ a → text ≡ sign ∷ b → a ≡ b
same_sign sign text a b p q = cc (p, q)

-- the number after no sign or a plus is the number after either
plain_once : (text a b : List ℕ) → (text ≡ a) ⊎ (text ≡ 43 ∷ a) → (text ≡ b) ⊎ (text ≡ 43 ∷ b) → BeginsWithDigit a → BeginsWithDigit b → a ≡ b
plain_once text a b (inl p) (inl q) in_a in_b = sym p ∙ q
plain_once text a b (inl p) (inr q) in_a in_b = absurd (no_sign 43 b text a in_a q p (lit< tt))
plain_once text a b (inr p) (inl q) in_a in_b = absurd (no_sign 43 a text b in_b p q (lit< tt))
plain_once text a b (inr p) (inr q) in_a in_b = same_sign 43 text a b p q

-- a minus is no plus and no digit
minus_or_plain : (text a b : List ℕ) → text ≡ 45 ∷ a → (text ≡ b) ⊎ (text ≡ 43 ∷ b) → BeginsWithDigit b → ⊥
minus_or_plain text a b p (inl q) in_b = no_sign 45 a text b in_b p q (lit< tt)
minus_or_plain text a b p (inr q) in_b = heads_differ 45 43 text a b (omega arith) p q

-- there is one way to take the sign from the start of a number
pub sign_once : (m n : Bool) (text a b : List ℕ) → HasSign m text a → HasSign n text b → BeginsWithDigit a → BeginsWithDigit b → (m ≡ n) × (a ≡ b)
sign_once true true text a b p q in_a in_b = (refl, same_sign 45 text a b p q)
sign_once true false text a b p q in_a in_b = absurd (minus_or_plain text a b p q in_b)
sign_once false true text a b p q in_a in_b = absurd (minus_or_plain text b a q p in_a)
sign_once false false text a b p q in_a in_b = (refl, plain_once text a b p q in_a in_b)

-- where a text is a point and digits, these are the digits at the start after the point
pub fraction_is : (text digits front rest : List ℕ) → text ≡ 46 ∷ (front ++ rest) → AllDigits 10 front → (BeginsWithDigit rest → ⊥) → AllDigits 10 digits → text ≡ point_and digits → (digits ≡ front) × (rest ≡ []) × (0 < length digits)
fraction_is text [] front rest e all no_more given same = cc (e, same)
fraction_is text (digit ∷ digits) front rest e all no_more given same =
    let behind : front ++ rest ≡ (digit ∷ digits) ++ [] = sym (append-nil (digit ∷ digits) ∙ cc (e, same)) in
    let both = split_once front (digit ∷ digits) rest [] all given no_more (λ h. h) behind in
    (sym both.0, both.1, omega arith)

-- a text with no point before it is no fraction
pub no_fraction : (text digits : List ℕ) → 0 < length text → ((places : List ℕ) → text ≡ 46 ∷ places → ⊥) → text ≡ point_and digits → ⊥
no_fraction text [] some no_point same = omega (arith, ap length same)
no_fraction text (digit ∷ digits) some no_point same = no_point (digit ∷ digits) same

-- parts that spell a text have its sign, the digits at the start after it, and what comes after them
pub parts_are : (text : List ℕ) (minus : Bool) (number front rest : List ℕ) (parts : Parts) → ((m : Bool) (n : List ℕ) → HasSign m text n → BeginsWithDigit n → (m ≡ minus) × (n ≡ number)) → number ≡ front ++ rest → AllDigits 10 front → (BeginsWithDigit rest → ⊥) → Spells text parts → (parts.whole ≡ front) × (rest ≡ point_and parts.fraction)
parts_are text minus number front rest parts one e all no_more spells =
    let in_front = begins parts.whole (point_and parts.fraction) spells.whole spells.some in
    let same = one parts.minus (unsigned_text parts) spells.signed in_front in
    let both = split_once parts.whole front (point_and parts.fraction) rest spells.whole all (no_digit_at_point parts.fraction) no_more (same.1 ∙ e) in
    (both.0, sym both.1)

-- two points with digits are one only where the digits are
pub point_and_injective : (one other : List ℕ) → point_and one ≡ point_and other → one ≡ other
point_and_injective [] [] e = refl
point_and_injective [] (d ∷ other) e = cc
point_and_injective (c ∷ one) [] e = cc
point_and_injective (c ∷ one) (d ∷ other) e = cc

-- a number's parts
abbrev made_of : Bool → List ℕ → List ℕ → Parts
made_of minus whole fraction = record { minus = minus; whole = whole; fraction = fraction }

-- two lists of parts are one where each part is
same_parts : (m n : Bool) (a b x y : List ℕ) → m ≡ n → a ≡ b → x ≡ y → made_of m a x ≡ made_of n b y
same_parts m n a b x y minus whole fraction = ap (λ (s : Bool). made_of s a x) minus ∙ (ap (λ (d : List ℕ). made_of n d x) whole ∙ ap (λ (d : List ℕ). made_of n b d) fraction)

-- a text is spelled by at most one list of parts
pub one_list_of_parts : OneReading
one_list_of_parts text one other p q =
    let begins_one = begins one.whole (point_and one.fraction) p.whole p.some in
    let begins_other = begins other.whole (point_and other.fraction) q.whole q.some in
    let signs = sign_once one.minus other.minus text (unsigned_text one) (unsigned_text other) p.signed q.signed begins_one begins_other in
    let both = split_once one.whole other.whole (point_and one.fraction) (point_and other.fraction) p.whole q.whole (no_digit_at_point one.fraction) (no_digit_at_point other.fraction) signs.1 in
    let fractions = point_and_injective one.fraction other.fraction both.1 in
    same_parts one.minus other.minus one.whole other.whole one.fraction other.fraction signs.0 both.0 fractions

-- the value of a digit
pub digit_value_is : (digit : ℕ) → IsInRange 48 57 digit → digit_value digit ≡ digit - 48
digit_value_is digit within = omega (arith, digit_value_digit digit within)

-- one step of appending digits to a capped number
pub append_step : (start most : ℕ) (digits : List ℕ) (at : ℕ) → at < length digits → AllDigits 10 digits → min (min (digits_value_after 10 start (take at digits)) most * 10 + (get_or digits at 0 - 48)) most ≡ min (digits_value_after 10 start (take (at + 1) digits)) most
append_step start most digits at within all =
    let digit = get_or digits at 0 in
    let value = digit_value_is digit (digit_at digits at all within) in
    let more = ap (digits_value_after 10 start) (take_more digits at 0 within) ∙ digits_value_after-push start (take at digits) digit in
    omega (arith, value, more)

-- ten times as much, times a power of ten
pub tens_more : (number power next : ℕ) → next ≡ power * 10 → number * 10 * power ≡ number * next
tens_more number power next e = omega (arith, ap (λ (n : ℕ). number * n) e)

-- one step of multiplying a capped number by tens
pub tens_step : (start turn most : ℕ) → min (min (start * 10 ^ turn) most * 10) most ≡ min (start * 10 ^ (turn + 1)) most
tens_step start turn most =
    capped_tens (start * 10 ^ turn) most ∙ ap (λ (n : ℕ). min n most) (omega (arith, tens_more start (10 ^ turn) (10 ^ (turn + 1)) (pow_more 10 turn)))

-- zeros after a number multiply it
pub digits_value_after-zeros : (start zeros : ℕ) → digits_value_after 10 start (replicate zeros 48) ≡ start * 10 ^ zeros
digits_value_after-zeros start zero = omega arith
digits_value_after-zeros start (suc zeros) =
    let first : start * 10 + digit_value 48 ≡ start * 10 = omega arith in
    let e : 10 ^ suc zeros ≡ 10 ^ zeros * 10 = pow-suc 10 zeros in
    ap (λ (n : ℕ). digits_value_after 10 n (replicate zeros 48)) first ∙ (digits_value_after-zeros (start * 10) zeros ∙ tens_more start (10 ^ zeros) (10 ^ suc zeros) e)

-- all digits of a prefix
pub AllDigits-take : (count : ℕ) (digits : List ℕ) → AllDigits 10 digits → AllDigits 10 (take count digits)
AllDigits-take zero digits all = tt
AllDigits-take (suc count) [] all = tt
AllDigits-take (suc count) (digit ∷ digits) all = (all.0, AllDigits-take count digits all.1)

-- counting in three steps, each capped, gives the capped units
pub units_in_steps : (most scale kept a b c : ℕ) (whole fraction : List ℕ) → kept ≡ min scale (length fraction) → a ≡ min (digits_value_after 10 0 whole) most → b ≡ min (digits_value_after 10 a (take kept fraction)) most → c ≡ min (b * 10 ^ (scale - kept)) most → c ≡ min (digits_value 10 (whole ++ filled scale fraction)) most
units_in_steps most scale kept a b c whole fraction in_kept in_a in_b in_c =
    let number = digits_value_after 10 0 whole in
    let front = take kept fraction in
    let zeros : List ℕ = replicate (scale - kept) 48 in
    let same_front : front ≡ take scale fraction = rw in_kept (take_min scale fraction) in
    let same_count : scale - kept ≡ scale - length fraction = omega (arith, in_kept) in
    let e_b : b ≡ min (digits_value_after 10 number front) most = in_b ∙ (ap (λ (n : ℕ). min (digits_value_after 10 n front) most) in_a ∙ capped_after most number front) in
    let e_c : c ≡ min (digits_value_after 10 b zeros) most = in_c ∙ sym (ap (λ (n : ℕ). min n most) (digits_value_after-zeros b (scale - kept))) in
    let e_d : c ≡ min (digits_value_after 10 (digits_value_after 10 number front) zeros) most = e_c ∙ (ap (λ (n : ℕ). min (digits_value_after 10 n zeros) most) e_b ∙ capped_after most (digits_value_after 10 number front) zeros) in
    let joined : digits_value_after 10 0 (whole ++ (front ++ zeros)) ≡ digits_value_after 10 (digits_value_after 10 number front) zeros =
    digits_value_after-append 0 whole (front ++ zeros) ∙ digits_value_after-append number front zeros in
    let filled_is : front ++ zeros ≡ filled scale fraction = ap (λ (f : List ℕ). f ++ zeros) same_front ∙ ap (λ (n : ℕ). take scale fraction ++ replicate n 48) same_count in
    e_d ∙ (sym (ap (λ (n : ℕ). min n most) joined) ∙ ap (λ (f : List ℕ). min (digits_value_after 10 0 (whole ++ f)) most) filled_is)

-- what the test of a digit tells
pub digit_from_test : (byte : ℕ) (test : Bool) → test ≡ true → test ≡ is_ascii_digit byte → digit_value byte < 10
digit_from_test byte test holds is = grind (arith, nat_tests)

-- what the test of an empty list tells
pub empty_from_test : (count : ℕ) → true ≡ (count == 0) → count ≡ 0
empty_from_test count is = grind (arith, nat_tests)

pub some_from_test : (count : ℕ) → false ≡ (count == 0) → 0 < count
some_from_test count is = grind (arith, nat_tests)
