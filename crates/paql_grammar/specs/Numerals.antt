-- What a text of digits, with a point or without, is as a number.
use Rattle.std.specs.Prelude.{◌≡◌, ℕ, zero, suc, ◌<◌, ◌≤◌, ◌^◌, ◌%◌, Bool, ◌==◌, ◌&&◌}
use Rattle.std.specs.Prelude.{if◌then◌else◌, List, [], ◌∷◌, ◌++◌, length, Option, Some, None, ℤ}
use Rattle.std.specs.Bool.{nat_le}
use Rattle.std.specs.Int.RustNames.{unsigned_abs}
use Rattle.std.specs.Str.{all_ascii_digits}
use Rattle.std.specs.Str.Parse.{digits_value}
use Rattle.std.proofs.Math.Decide.{dec_lt, dec_le, ℕ_discrete}
use Rattle.std.proofs.Math.Nat.{lt_irrefl}
use Rattle.pq_base.specs.Decimal.{signed}
use Rattle.pq_base.specs.declared.scaled.Scaled.{Scaled}

-- The number mant / 10^scale as it is stored, by what is decided of it: that it has at most 30
-- digits and 30 places, and no zero after the point as the last digit.
abbrev pub stored : (mant : ℤ) (scale : ℕ) → Dec (unsigned_abs mant < 10 ^ 30) → Dec (scale ≤ 30)
    → Dec (unsigned_abs mant % 10 ≡ 0) → Option Scaled
stored mant zero (yes small) (yes shallow) last =
    Some (record {
      mant = mant;
      scale = zero;
      small = small;
      shallow = shallow;
      shortest = λ some. absurd (lt_irrefl zero some);
    })
stored mant (suc scale) (yes small) (yes shallow) (no last) =
    Some (record {
      mant = mant;
      scale = suc scale;
      small = small;
      shallow = shallow;
      shortest = λ some. last;
    })
stored mant scale small shallow last = None

-- The number mant / 10^scale, where it is one in its shortest form.
unfoldable pub scaled : ℤ → ℕ → Option Scaled
scaled mant scale =
    stored mant scale (dec_lt (unsigned_abs mant) (10 ^ 30)) (dec_le scale 30)
    (ℕ_discrete (unsigned_abs mant % 10) 0)

-- What comes before the first point, and what comes after it.
abbrev pub before_point : List ℕ → List ℕ
before_point [] = []
before_point (byte ∷ bytes) = if byte == 46 then [] else byte ∷ before_point bytes

abbrev pub behind_point : List ℕ → List ℕ
behind_point [] = []
behind_point (byte ∷ bytes) = if byte == 46 then bytes else behind_point bytes

-- The digit, unless it is a zero with nothing after it.
abbrev pub and_digits : ℕ → List ℕ → List ℕ
and_digits digit [] = if digit == 48 then [] else digit ∷ []
and_digits digit (next ∷ digits) = digit ∷ (next ∷ digits)

-- The digits without the zeros at the end.
abbrev pub without_zeros : List ℕ → List ℕ
without_zeros [] = []
without_zeros (digit ∷ digits) = and_digits digit (without_zeros digits)

-- The number with these digits before the point and after it, below zero or not.
abbrev pub number_of_digits : Bool → List ℕ → List ℕ → Option Scaled
number_of_digits minus whole fraction =
    if all_ascii_digits (whole ++ fraction)
    then scaled (signed minus (digits_value 10 (whole ++ fraction))) (length fraction)
    else None

-- The number that a text is, below zero or not. Zeros at the end after the point don't count.
abbrev pub number_in : Bool → List ℕ → Option Scaled
number_in minus text =
    number_of_digits minus (before_point text) (without_zeros (behind_point text))

-- The whole number that a text is: at most 18 digits and no point.
abbrev pub whole_in : List ℕ → Option ℕ
whole_in text =
    if all_ascii_digits text && nat_le (length text) 18 then Some (digits_value 10 text) else None
