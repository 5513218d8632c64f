-- Lemmas on numbers with places after the point.
use Rattle.std.proofs.Common.{◌≡◌, ◌≢◌, ℕ, zero, suc, ◌+◌, ◌-◌, ◌*◌, ◌/◌, ◌%◌, ◌^◌, ◌<◌, ◌≤◌, min, Bool, true, false, List, replicate, Ok, Err, subst, refl, sym, ap, ◌∙◌, pos, ℤ, ◌*ℤ◌, neg_ℤ, arith, unsigned_abs}
use Rattle.std.proofs.Math.Nat.{mul_assoc, mul-div_cancel, mul-mod_left, pow-suc}
use Rattle.std.proofs.lemmas.Nat.{pow-add}
use Rattle.std.proofs.lemmas.Int.{unsigned_abs-mul}
use Rattle.pq_base.specs.Decimal.{signed, is_negative}
use Rattle.pq_base.specs.Scaled.{IsSameNumber, GivesUnits}
use Rattle.pq_base.specs.declared.decimal.NumFault.TheVariants.{OutOfRange}
use Rattle.pq_base.proofs.Numerals.{capped_after, digits_value_after-zeros}
use Rattle.pq_base.proofs.Printed.{signed_is}

-- a product has the sign of its left factor
signed-mul : (minus : Bool) (magnitude factor : ℕ) → (signed minus magnitude *ℤ pos factor) ≡ signed minus (magnitude * factor)
signed-mul false magnitude factor = refl
signed-mul true zero factor = let none : 0 * factor ≡ 0 = omega arith in ap pos none ∙ sym (ap (λ (n : ℕ). neg_ℤ (pos n)) none)
signed-mul true (suc magnitude) factor = refl

-- a sign leaves the magnitude
pub unsigned_abs-signed : (minus : Bool) (magnitude : ℕ) → unsigned_abs (signed minus magnitude) ≡ magnitude
unsigned_abs-signed false magnitude = refl
unsigned_abs-signed true zero = refl
unsigned_abs-signed true (suc magnitude) = refl

-- numbers are the same where their magnitudes are, with one sign
pub same_from_magnitudes : (mant : ℤ) (magnitude scale places : ℕ) → magnitude * 10 ^ scale ≡ unsigned_abs mant * 10 ^ places → IsSameNumber mant scale (signed (is_negative mant) magnitude) places
same_from_magnitudes mant magnitude scale places e =
    let minus = is_negative mant in
    signed-mul minus magnitude (10 ^ scale) ∙ (ap (signed minus) e ∙ (sym (signed-mul minus (unsigned_abs mant) (10 ^ places)) ∙ ap (λ (z : ℤ). z *ℤ pos (10 ^ places)) (sym (signed_is mant))))

-- the magnitudes of two integers that are the same number
magnitudes_from_same : (mant other : ℤ) (scale places : ℕ) → IsSameNumber mant scale other places → unsigned_abs other * 10 ^ scale ≡ unsigned_abs mant * 10 ^ places
magnitudes_from_same mant other scale places e =
    sym (unsigned_abs-mul other (pos (10 ^ scale))) ∙ (ap unsigned_abs e ∙ unsigned_abs-mul mant (pos (10 ^ places)))

-- a power of ten in two parts
pow_parts : (low high : ℕ) → low ≤ high → 10 ^ high ≡ 10 ^ (high - low) * 10 ^ low
pow_parts low high le = ap (λ (n : ℕ). 10 ^ n) (omega arith) ∙ pow-add 10 (high - low) low

-- with fewer places the units are that many tens
pub same_units : (mant : ℤ) (places scale : ℕ) → places ≤ scale → IsSameNumber mant places (signed (is_negative mant) (unsigned_abs mant * 10 ^ (scale - places))) scale
same_units mant places scale le =
    let magnitude = unsigned_abs mant in
    same_from_magnitudes mant (magnitude * 10 ^ (scale - places)) places scale (mul_assoc magnitude (10 ^ (scale - places)) (10 ^ places) ∙ ap (λ (n : ℕ). magnitude * n) (sym (pow_parts places scale le)))

-- no power of ten is zero
pow_ten_pos : (k : ℕ) → 0 < 10 ^ k
pow_ten_pos zero = omega arith
pow_ten_pos (suc k) = omega (arith, pow_ten_pos k, pow-suc 10 k)

-- equal products with one factor above zero have equal other factors
mul_cancel : (a b k : ℕ) → 0 < k → a * k ≡ b * k → a ≡ b
mul_cancel a b k some e = sym (mul-div_cancel a some) ∙ (ap (λ (n : ℕ). n / k) e ∙ mul-div_cancel b some)

-- with more places, of which the last is no zero, the number is no whole number of units
pub no_units : (mant units : ℤ) (places scale : ℕ) → scale < places → unsigned_abs mant % 10 ≢ 0 → IsSameNumber mant places units scale → ⊥
no_units mant units places scale lt last same =
    let magnitude = unsigned_abs mant in
    let u = unsigned_abs units in
    let more = places - scale - 1 in
    let e = magnitudes_from_same mant units places scale same in
    let parts = pow_parts scale places (omega arith) in
    let apart : u * 10 ^ (places - scale) * 10 ^ scale ≡ magnitude * 10 ^ scale = mul_assoc u (10 ^ (places - scale)) (10 ^ scale) ∙ (ap (λ (n : ℕ). u * n) (sym parts) ∙ e) in
    let whole : u * 10 ^ (places - scale) ≡ magnitude = mul_cancel (u * 10 ^ (places - scale)) magnitude (10 ^ scale) (pow_ten_pos scale) apart in
    let ten : 10 ^ (places - scale) ≡ 10 ^ more * 10 = ap (λ (n : ℕ). 10 ^ n) (omega arith) ∙ pow-suc 10 more in
    let tens : u * 10 ^ more * 10 ≡ magnitude = mul_assoc u (10 ^ more) 10 ∙ (ap (λ (n : ℕ). u * n) (sym ten) ∙ whole) in
    last (ap (λ (n : ℕ). n % 10) (sym tens) ∙ mul-mod_left (u * 10 ^ more) 10)

-- a tenth with a place less is the same number
tenth : (rest tenth_of factor whole power less : ℕ) → rest ≡ tenth_of * 10 → power ≡ less * 10 → rest * factor ≡ whole * power → tenth_of * factor ≡ whole * less
tenth rest tenth_of factor whole power less p q e =
    omega (arith, e, ap (λ (n : ℕ). n * factor) p, ap (λ (n : ℕ). whole * n) q)

-- one step of leaving out zeros
pub strip_step : (magnitude scale rest places : ℕ) → rest % 10 ≡ 0 → 0 < places → rest * 10 ^ scale ≡ magnitude * 10 ^ places → rest / 10 * 10 ^ scale ≡ magnitude * 10 ^ (places - 1)
strip_step magnitude scale rest places last some same =
    let power : 10 ^ places ≡ 10 ^ (places - 1) * 10 = ap (λ (n : ℕ). 10 ^ n) (omega arith) ∙ pow-suc 10 (places - 1) in
    tenth rest (rest / 10) (10 ^ scale) magnitude (10 ^ places) (10 ^ (places - 1)) (omega arith) power same

-- a capped magnitude times a power of ten
pub capped_power : (magnitude tens most : ℕ) → min (min magnitude most * 10 ^ tens) most ≡ min (magnitude * 10 ^ tens) most
capped_power magnitude tens most =
    let zeros : List ℕ = replicate tens 48 in
    ap (λ (n : ℕ). min n most) (sym (digits_value_after-zeros (min magnitude most) tens)) ∙ (capped_after most magnitude zeros ∙ ap (λ (n : ℕ). min n most) (digits_value_after-zeros magnitude tens))

-- the units of a number within the range, and of one that is out of it
pub units_in_range : (mant : ℤ) (places scale magnitude : ℕ) → places ≤ scale → magnitude ≡ min (min (unsigned_abs mant) (10 ^ 12 + 1) * 10 ^ (scale - places)) (10 ^ 12 + 1) → magnitude ≤ 10 ^ 12 → GivesUnits mant places scale (Ok (signed (is_negative mant) magnitude))
units_in_range mant places scale magnitude le is within =
    let minus = is_negative mant in
    let units = unsigned_abs mant * 10 ^ (scale - places) in
    let same : units ≡ magnitude = omega (arith, is, capped_power (unsigned_abs mant) (scale - places) (10 ^ 12 + 1), within) in
    (subst (λ (n : ℕ). IsSameNumber mant places (signed minus n) scale) same (same_units mant places scale le), omega (arith, unsigned_abs-signed minus magnitude, within))

pub units_out_of_range : (mant : ℤ) (places scale magnitude : ℕ) → places ≤ scale → magnitude ≡ min (min (unsigned_abs mant) (10 ^ 12 + 1) * 10 ^ (scale - places)) (10 ^ 12 + 1) → 10 ^ 12 < magnitude → GivesUnits mant places scale (Err OutOfRange)
units_out_of_range mant places scale magnitude le is beyond =
    let minus = is_negative mant in
    let units = unsigned_abs mant * 10 ^ (scale - places) in
    (signed minus units, same_units mant places scale le, omega (arith, is, capped_power (unsigned_abs mant) (scale - places) (10 ^ 12 + 1), unsigned_abs-signed minus units, beyond))
