-- Decimal numbers as an integer and how many of its digits come after the point.
use Rattle.std.specs.Prelude.{◌≡◌, ℕ, ◌^◌, ◌<◌, ◌≤◌, ℤ, pos, ◌*ℤ◌, Result, Ok, Err}
use Rattle.std.specs.Int.RustNames.{unsigned_abs}
use Rattle.pq_base.specs.declared.decimal.NumFault.{NumFault}
use Rattle.pq_base.specs.declared.decimal.NumFault.TheVariants.{NotANumber, TooFine, OutOfRange}

-- mant / 10^scale is other / 10^places.
abbrev pub IsSameNumber : ℤ → ℕ → ℤ → ℕ → Type 0
IsSameNumber mant scale other places = (other *ℤ pos (10 ^ scale)) ≡ (mant *ℤ pos (10 ^ places))

-- What the number mant / 10^places gives in whole units of 10^-scale.
abbrev pub GivesUnits : ℤ → ℕ → ℕ → Result ℤ NumFault → Type 0
GivesUnits mant places scale (Ok units) =
    IsSameNumber mant places units scale × (unsigned_abs units ≤ 10 ^ 12)
GivesUnits mant places scale (Err TooFine) =
    (units : ℤ) → ¬ IsSameNumber mant places units scale
GivesUnits mant places scale (Err OutOfRange) =
    (units : ℤ) × IsSameNumber mant places units scale × (10 ^ 12 < unsigned_abs units)
GivesUnits mant places scale (Err NotANumber) = ⊥
