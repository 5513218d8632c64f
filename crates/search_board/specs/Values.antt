-- Private: the board of a search, which the program does not use yet: values as words.
-- How a value is kept in the word: as the value plus 2 ^ 61. The word 0 says that nothing was offered.
use Rattle.std.specs.Prelude.{ℕ, zero, suc, ◌^◌, ◌≤◌, max, ℤ, pos, ◌+ℤ◌, ◌-ℤ◌}
use Rattle.std.specs.Prelude.{List, [], ◌∷◌, Option, None, Some}
use Rattle.std.specs.Int.RustNames.{unsigned_abs}

-- what may be offered
abbrev pub IsSmall : ℤ → Type 0
IsSmall value = unsigned_abs value ≤ 2 ^ 60

-- the word of a value: a greater value has a greater word
abbrev pub word_of : ℤ → ℕ
word_of value = unsigned_abs (value +ℤ pos (2 ^ 61))

abbrev pub value_of : ℕ → ℤ
value_of word = pos word -ℤ pos (2 ^ 61)

-- the rank of what is best: no value ranks below every value
abbrev pub rank : Option ℤ → ℕ
rank None = 0
rank (Some value) = word_of value

-- what a word says
abbrev pub named : ℕ → Option ℤ
named zero = None
named (suc n) = Some (value_of (suc n))

-- the rank of the best of these values
abbrev pub top : List ℤ → ℕ
top [] = 0
top (value ∷ values) = max (word_of value) (top values)
