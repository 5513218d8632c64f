-- Private: the proofs of the search: which of two values is the greater.
-- Values of a search, where there may be none yet.
use Rattle.std.specs.Prelude.{ℤ, ◌≤ℤ◌, Option, None, Some}

-- one is at most the other, where none is below every value
abbrev pub IsAtMost : Option ℤ → Option ℤ → Type 0
IsAtMost None most = Unit {0}
IsAtMost (Some value) None = ⊥
IsAtMost (Some value) (Some most) = value ≤ℤ most
