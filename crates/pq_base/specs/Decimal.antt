-- Decimal numbers as text: a sign, whole digits and, after a point, the digits of a fraction.
use Rattle.std.specs.Prelude.{◌≡◌, ℕ, ◌+◌, ◌-◌, ◌^◌, ◌<◌, ◌≤◌, ◌⊎◌, Bool, true, false, List, [], ◌∷◌, ◌++◌, length, take, drop, replicate, All, ℤ, pos, negsuc, neg_ℤ, Result, Ok, Err}
use Rattle.std.specs.Char.{digit_value}
use Rattle.std.specs.Str.Parse.{AllDigits, digits_value}
use Rattle.std.specs.Fmt.{decimal}
use Rattle.std.specs.Int.RustNames.{unsigned_abs}
use Rattle.pq_base.specs.declared.decimal.NumFault.{NumFault}
use Rattle.pq_base.specs.declared.decimal.NumFault.TheVariants.{NotANumber, TooFine, OutOfRange}

-- What the text of a number consists of.
pub record Parts : Type 0 where
  pub minus : Bool
  pub whole : List ℕ
  pub fraction : List ℕ

-- The text is the number after a sign: `-` if it is negative, and else `+` or nothing.
abbrev pub HasSign : Bool → List ℕ → List ℕ → Type 0
HasSign true text number = text ≡ 45 ∷ number
HasSign false text number = (text ≡ number) ⊎ (text ≡ 43 ∷ number)

-- A point and the digits after it, or nothing if there are none.
abbrev pub point_and : List ℕ → List ℕ
point_and [] = []
point_and (digit ∷ digits) = 46 ∷ (digit ∷ digits)

-- The text of the parts without a sign.
abbrev pub unsigned_text : Parts → List ℕ
unsigned_text parts = parts.whole ++ point_and parts.fraction

-- The text is a sign, at least one digit, and perhaps a point with at least one digit after it.
pub record Spells (text : List ℕ) (parts : Parts) : Type 0 where
  pub signed : HasSign parts.minus text (unsigned_text parts)
  pub whole : AllDigits 10 parts.whole
  pub some : 0 < length parts.whole
  pub fraction : AllDigits 10 parts.fraction

-- A text is spelled by at most one list of parts.
abbrev pub OneReading : Type 0
OneReading = (text : List ℕ) (one other : Parts) → Spells text one → Spells text other → one ≡ other

-- A digit comes first.
abbrev pub BeginsWithDigit : List ℕ → Type 0
BeginsWithDigit [] = ⊥
BeginsWithDigit (byte ∷ bytes) = digit_value byte < 10

-- The first so many digits, filled with zeros if there are fewer.
abbrev pub filled : ℕ → List ℕ → List ℕ
filled places digits = take places digits ++ replicate (places - length digits) 48

-- The number in units of the scale's last place, without its sign and without what is finer.
abbrev pub units_of : ℕ → Parts → ℕ
units_of scale parts = digits_value 10 (parts.whole ++ filled scale parts.fraction)

-- Only zeros come after the last place that the scale keeps.
abbrev pub IsFine : ℕ → Parts → Type 0
IsFine scale parts = All (λ byte. byte ≡ 48) (drop scale parts.fraction)

-- The magnitude with a sign.
abbrev pub signed : Bool → ℕ → ℤ
signed true magnitude = neg_ℤ (pos magnitude)
signed false magnitude = pos magnitude

-- What a reader of units gives for a text.
abbrev pub Reads : List ℕ → ℕ → Result ℤ NumFault → Type 0
Reads text scale (Ok units) = (parts : Parts) × Spells text parts × IsFine scale parts
    × (units_of scale parts ≤ 10 ^ 12) × (units ≡ signed parts.minus (units_of scale parts))
Reads text scale (Err NotANumber) = (parts : Parts) → ¬ Spells text parts
Reads text scale (Err TooFine) = (parts : Parts) × Spells text parts × (¬ IsFine scale parts)
Reads text scale (Err OutOfRange) = (parts : Parts) × Spells text parts × IsFine scale parts
    × (10 ^ 12 < units_of scale parts)

-- The number is below zero.
abbrev pub is_negative : ℤ → Bool
is_negative (pos magnitude) = false
is_negative (negsuc before) = true

-- The digits, with zeros before them so that there are more digits than the scale has places.
abbrev pub padded : ℕ → List ℕ → List ℕ
padded scale digits = replicate (scale + 1 - length digits) 48 ++ digits

-- The parts of a printed number: just as many digits of a fraction as the scale has places.
abbrev pub printed_parts : ℤ → ℕ → Parts
printed_parts value scale = let digits = padded scale (decimal (unsigned_abs value)) in
    record {
      minus = is_negative value;
      whole = take (length digits - scale) digits;
      fraction = drop (length digits - scale) digits;
    }

-- The sign that is printed before a number.
abbrev pub sign_text : Bool → List ℕ
sign_text true = 45 ∷ []
sign_text false = []

-- How a number of units is printed.
abbrev pub decimal_text : ℤ → ℕ → List ℕ
decimal_text value scale =
    sign_text (is_negative value) ++ unsigned_text (printed_parts value scale)

-- What is printed is spelled by parts with the number's sign, just as many digits of a fraction as
-- the scale has places, and its magnitude as units.
abbrev pub PrintedIsSpelled : Type 0
PrintedIsSpelled = (value : ℤ) (scale : ℕ) → unsigned_abs value < 10 ^ 64 → (parts : Parts)
    × Spells (decimal_text value scale) parts × (parts.minus ≡ is_negative value)
    × (length parts.fraction ≡ scale) × (units_of scale parts ≡ unsigned_abs value)

-- A printed number within the range is read back.
abbrev pub PrintedIsRead : Type 0
PrintedIsRead = (value : ℤ) (scale : ℕ) → unsigned_abs value ≤ 10 ^ 12
    → Reads (decimal_text value scale) scale (Ok value)
