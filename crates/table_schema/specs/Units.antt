-- The one answer that pq_base's definition of units allows, as a function.
use Rattle.std.specs.Prelude.{◌≡◌, ℕ, ◌*◌, ◌/◌, ◌%◌, ◌^◌, nat_le, Bool, ◌==◌, if◌then◌else◌, ℤ}
use Rattle.std.specs.Prelude.{Result, Ok, Err}
use Rattle.std.specs.Int.RustNames.{unsigned_abs}
use Rattle.pq_base.specs.Decimal.{is_negative, signed}
use Rattle.pq_base.specs.Scaled.{GivesUnits}
use Rattle.pq_base.specs.declared.decimal.NumFault.{NumFault}
use Rattle.pq_base.specs.declared.decimal.NumFault.TheVariants.{TooFine, OutOfRange}

-- so many units with their sign, if they are within the range
abbrev pub in_range : Bool → ℕ → Result ℤ NumFault
in_range minus units = if nat_le units (10 ^ 12) then Ok (signed minus units) else Err OutOfRange

-- the number mant / 10^places in whole units of 10^-scale
abbrev pub units_in : ℤ → ℕ → ℕ → Result ℤ NumFault
units_in mant places scale = let tens = unsigned_abs mant * 10 ^ scale in
    if (tens % 10 ^ places) == 0 then in_range (is_negative mant) (tens / 10 ^ places)
    else Err TooFine

-- it is what the definition of units gives, and nothing else is
pub record UnitsAreOne (mant : ℤ) (places scale : ℕ) : Type 0 where
  pub gives : GivesUnits mant places scale (units_in mant places scale)
  pub one : (result : Result ℤ NumFault) → GivesUnits mant places scale result
      → result ≡ units_in mant places scale
