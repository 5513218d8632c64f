-- Lemmas on numbers in units of a scale.
use Rattle.std.proofs.Common.{◌≡◌, ◌≢◌, ℕ, zero, suc, ◌*◌, ◌/◌, ◌%◌, ◌^◌, ◌<◌, ◌≤◌, ◌⊎◌, inl, inr, true, false, eqb, leb, Result, Ok, Err, refl, sym, ap, ◌∙◌, ℤ, pos, negsuc, neg_ℤ, ◌*ℤ◌, arith, unsigned_abs}
use Rattle.std.proofs.Math.Nat.{mul-div_cancel, mul-mod_left, pow-suc}
use Rattle.std.proofs.lemmas.Bool.Decides.{eqb_tells, leb_tells}
use Rattle.std.proofs.lemmas.Int.{ints, unsigned_abs-mul}
use Rattle.pq_base.specs.Decimal.{is_negative, signed}
use Rattle.pq_base.specs.Scaled.{IsSameNumber, GivesUnits}
use Rattle.pq_base.specs.declared.decimal.NumFault.{NumFault}
use Rattle.pq_base.specs.declared.decimal.NumFault.TheVariants.{NotANumber, TooFine, OutOfRange}
use Rattle.pq_base.proofs.SameNumbers.{same_from_magnitudes, unsigned_abs-signed}
use Rattle.table_schema.specs.Units.{in_range, units_in}

-- no power of ten is zero
ten_pos : (k : ℕ) → 0 < 10 ^ k
ten_pos zero = omega arith
ten_pos (suc k) = omega (arith, ten_pos k, pow-suc 10 k)

-- the magnitudes of the same number
magnitudes : (mant units : ℤ) (places scale : ℕ) → IsSameNumber mant places units scale → unsigned_abs units * 10 ^ places ≡ unsigned_abs mant * 10 ^ scale
magnitudes mant units places scale same =
    sym (unsigned_abs-mul units (pos (10 ^ places))) ∙ (ap unsigned_abs same ∙ unsigned_abs-mul mant (pos (10 ^ scale)))

-- equal products with one factor above zero have equal other factors
cancel : (a b k : ℕ) → 0 < k → a * k ≡ b * k → a ≡ b
cancel a b k some e = sym (mul-div_cancel a some) ∙ (ap (λ (n : ℕ). n / k) e ∙ mul-div_cancel b some)

-- a product below zero is none from zero on
apart : (m n k : ℕ) → 0 < k → pos (m * k) ≡ neg_ℤ (pos (suc n * k)) → ⊥
apart m n k some e = omega (arith, ints, e)

cancel_int : (a b : ℤ) (k : ℕ) → 0 < k → (a *ℤ pos k) ≡ (b *ℤ pos k) → a ≡ b
cancel_int (pos m) (pos n) k some e = ap pos (cancel m n k some (omega (arith, ints, e)))
cancel_int (pos m) (negsuc n) k some e = absurd (apart m n k some e)
cancel_int (negsuc m) (pos n) k some e = absurd (apart n m k some (sym e))
cancel_int (negsuc m) (negsuc n) k some e =
    let same : suc m ≡ suc n = cancel (suc m) (suc n) k some (omega (arith, ints, e)) in
    let less : m ≡ n = omega (arith, same) in
    ap negsuc less

-- so many units of the same magnitude give what the range allows
range_gives : (mant : ℤ) (places scale units : ℕ) → units * 10 ^ places ≡ unsigned_abs mant * 10 ^ scale → GivesUnits mant places scale (in_range (is_negative mant) units)
range_gives mant places scale units e = by_test (leb_tells units (10 ^ 12))
  where
    by_test : ((leb units (10 ^ 12) ≡ true) × (units ≤ 10 ^ 12)) ⊎ ((leb units (10 ^ 12) ≡ false) × (10 ^ 12 < units)) → GivesUnits mant places scale (in_range (is_negative mant) units)
    by_test (inl h) = rw h.0 (same_from_magnitudes mant units places scale e, omega (arith, h.1, unsigned_abs-signed (is_negative mant) units))
    by_test (inr h) = rw h.0 (signed (is_negative mant) units, same_from_magnitudes mant units places scale e, omega (arith, h.1, unsigned_abs-signed (is_negative mant) units))

pub units_give : (mant : ℤ) (places scale : ℕ) → GivesUnits mant places scale (units_in mant places scale)
units_give mant places scale = by_test (eqb_tells (unsigned_abs mant * 10 ^ scale % 10 ^ places) 0)
  where
    by_test : ((eqb (unsigned_abs mant * 10 ^ scale % 10 ^ places) 0 ≡ true) × (unsigned_abs mant * 10 ^ scale % 10 ^ places ≡ 0)) ⊎ ((eqb (unsigned_abs mant * 10 ^ scale % 10 ^ places) 0 ≡ false) × (unsigned_abs mant * 10 ^ scale % 10 ^ places ≢ 0)) → GivesUnits mant places scale (units_in mant places scale)
    by_test (inl h) = rw h.0 (range_gives mant places scale (unsigned_abs mant * 10 ^ scale / 10 ^ places) (omega (arith, h.1, ten_pos places)))
    by_test (inr h) = rw h.0 (λ units same. h.1 (ap (λ (n : ℕ). n % 10 ^ places) (sym (magnitudes mant units places scale same)) ∙ mul-mod_left (unsigned_abs units) (10 ^ places)))

-- the definition of units has one answer
one_answer : (mant : ℤ) (places scale : ℕ) (one other : Result ℤ NumFault) → GivesUnits mant places scale one → GivesUnits mant places scale other → one ≡ other
one_answer mant places scale (Ok a) (Ok b) p q = ap Ok (cancel_int a b (10 ^ places) (ten_pos places) (p.0 ∙ sym q.0))
one_answer mant places scale (Ok a) (Err TooFine) p q = absurd (q a p.0)
one_answer mant places scale (Ok a) (Err OutOfRange) p q =
    let same : a ≡ q.0 = cancel_int a q.0 (10 ^ places) (ten_pos places) (p.0 ∙ sym q.1) in
    absurd (omega (arith, p.1, q.2, ap unsigned_abs same))
one_answer mant places scale (Ok a) (Err NotANumber) p q = absurd q
one_answer mant places scale (Err TooFine) (Ok b) p q = absurd (p b q.0)
one_answer mant places scale (Err TooFine) (Err TooFine) p q = refl
one_answer mant places scale (Err TooFine) (Err OutOfRange) p q = absurd (p q.0 q.1)
one_answer mant places scale (Err TooFine) (Err NotANumber) p q = absurd q
one_answer mant places scale (Err OutOfRange) (Ok b) p q =
    let same : b ≡ p.0 = cancel_int b p.0 (10 ^ places) (ten_pos places) (q.0 ∙ sym p.1) in
    absurd (omega (arith, q.1, p.2, ap unsigned_abs same))
one_answer mant places scale (Err OutOfRange) (Err TooFine) p q = absurd (q p.0 p.1)
one_answer mant places scale (Err OutOfRange) (Err OutOfRange) p q = refl
one_answer mant places scale (Err OutOfRange) (Err NotANumber) p q = absurd q
one_answer mant places scale (Err NotANumber) other p q = absurd p

pub units_are_one : (mant : ℤ) (places scale : ℕ) (result : Result ℤ NumFault) → GivesUnits mant places scale result → result ≡ units_in mant places scale
units_are_one mant places scale result gives = one_answer mant places scale result (units_in mant places scale) gives (units_give mant places scale)
