-- Numbers in a line: decimal, without leading zeros, one blank between two of them.
use Rattle.std.specs.Prelude.{◌≡◌, ℕ, zero, suc, ◌/◌, ◌≤◌, List, [], ◌∷◌, ◌++◌, drop}
use Rattle.std.specs.Prelude.{Option, None, Some}
use Rattle.std.specs.Fmt.{decimal}
use Rattle.cert_text.specs.declared.numbers.Range.{Range}
use Rattle.cert_text.specs.declared.numbers.Fit.{Fit}
use Rattle.cert_text.specs.declared.numbers.Fit.TheVariants.{Whole, Begun, Bad}

-- each number after a blank, and all of them with the first one bare
abbrev pub blanked : List ℕ → List ℕ
blanked [] = []
blanked (number ∷ numbers) = 32 ∷ (decimal number ++ blanked numbers)

abbrev pub listed : List ℕ → List ℕ
listed [] = []
listed (number ∷ numbers) = decimal number ++ blanked numbers

-- a number lies within a range, and each number within its own
pub record IsWithin (range : Range) (number : ℕ) : Type 0 where
  pub low : range.low ≤ number
  pub high : number ≤ range.high

abbrev pub AllWithin : List Range → List ℕ → Type 0
AllWithin [] [] = Unit {0}
AllWithin [] (number ∷ numbers) = ⊥
AllWithin (range ∷ ranges) [] = ⊥
AllWithin (range ∷ ranges) (number ∷ numbers) = IsWithin range number × AllWithin ranges numbers

-- some number of the range has these digits first
abbrev pub CanBegin : Range → List ℕ → Type 0
CanBegin range digits =
    (number : ℕ) × (more : List ℕ) × IsWithin range number × (decimal number ≡ digits ++ more)

-- dividing the ends by ten so often, the number comes to lie between them
abbrev pub tens : ℕ → ℕ → ℕ
tens zero number = number
tens (suc times) number = tens times (number / 10)

abbrev pub Reaches : ℕ → ℕ → ℕ → Type 0
Reaches number low high = (times : ℕ) × (tens times low ≤ number) × (number ≤ tens times high)

-- a number of the range is written so, or none is
abbrev pub IsNumber : Range → List ℕ → Option ℕ → Type 0
IsNumber range digits (Some number) = IsWithin range number × (digits ≡ decimal number)
IsNumber range digits None = (number : ℕ) → IsWithin range number → ¬ (digits ≡ decimal number)

-- How a text fits a word and numbers of these ranges after it: it is the word and these numbers, or
-- it is no such text but some of them begin with it, or none of them do.
abbrev pub FitsAs : List ℕ → List Range → List ℕ → List ℕ → Fit → Type 0
FitsAs word ranges text numbers Whole = AllWithin ranges numbers × (text ≡ word ++ listed numbers)
FitsAs word ranges text numbers Begun =
    ((others : List ℕ) × (more : List ℕ) × AllWithin ranges others
    × (word ++ listed others ≡ text ++ more))
    × ((others : List ℕ) → AllWithin ranges others → ¬ (text ≡ word ++ listed others))
FitsAs word ranges text numbers Bad =
    (others more : List ℕ) → AllWithin ranges others → ¬ (word ++ listed others ≡ text ++ more)

-- the same, where the numbers are put after others
abbrev pub AddsFit : List Range → List ℕ → List ℕ → List ℕ → Fit → Type 0
AddsFit ranges text old new fit =
    (numbers : List ℕ) × (new ≡ old ++ numbers) × FitsAs [] ranges text numbers fit

-- the digits are the last number of a line, or no numbers of these ranges are written so
abbrev pub IsLast : List Range → List ℕ → Option ℕ → Type 0
IsLast ranges digits (Some number) =
    AllWithin ranges (number ∷ []) × (digits ≡ listed (number ∷ []))
IsLast ranges digits None =
    (others : List ℕ) → AllWithin ranges others → ¬ (digits ≡ listed others)

-- the digits are a number with others after it, or no numbers of these ranges begin so
abbrev pub IsNext : Range → List Range → List ℕ → List ℕ → Option ℕ → Type 0
IsNext range [] digits more (Some number) = ⊥
IsNext range (another ∷ ranges) digits more (Some number) =
    IsWithin range number × (digits ≡ decimal number) × (more ≡ 32 ∷ drop 1 more)
IsNext range ranges digits more None = FitsAs [] (range ∷ ranges) (digits ++ more) [] Bad
