-- Private: `given` in `src/giving.rt`, and the laws in `src/laws.rt`.
-- What is held of the parts, and what it gives to the cost and to the rows.
use Rattle.std.specs.Prelude.{◌≡◌, ℕ, ◌<◌, ◌≤◌, List, length, map, ℤ, pos, ◌*ℤ◌, slice_index_or}
use Rattle.std.specs.Prelude.{nat_eq, if◌then◌else◌}
use Rattle.lin_bound.specs.Sums.{sum_below, int_at, nat_at}
use Rattle.lin_bound.specs.Problem.{ProblemData}
use Rattle.sketch.specs.Parts.{part_at, mean, upper_sum}
use Rattle.sketch.specs.declared.held.HeldPart.{HeldPart}
use Rattle.sketch.specs.declared.held.HeldPart.TheVariants.{Sketch, Real}

-- What a part gives to the cost or a row with these numbers: a sketch so many times the mean of its
-- members, real counts the sum of number times count.
abbrev pub given : List ℤ → List ℕ → HeldPart → ℤ
given numbers part (Sketch count) = mean numbers part *ℤ pos count
given numbers part (Real counts) =
    sum_below (λ (k : ℕ). int_at numbers (nat_at part k) *ℤ pos (nat_at counts k)) (length part)

-- a count a member, none above its upper
pub record IsRealOf (p : ProblemData) (part counts : List ℕ) : Type 0 where
  pub each : length counts ≡ length part
  pub within : (k : ℕ) → k < length part → nat_at counts k ≤ nat_at p.upper (nat_at part k)

-- what is held of a part is within the uppers
abbrev pub IsHeldOf : ProblemData → List ℕ → HeldPart → Type 0
IsHeldOf p part (Sketch count) = count ≤ upper_sum p.upper part
IsHeldOf p part (Real counts) = IsRealOf p part counts

-- what is held of part number g, and what it gives
abbrev pub held_at : List HeldPart → ℕ → HeldPart
held_at held g = slice_index_or held g (Sketch 0)

abbrev pub given_at : List ℤ → List (List ℕ) → List HeldPart → ℕ → ℤ
given_at numbers parts held g = given numbers (part_at parts g) (held_at held g)

-- what all parts give together
abbrev pub given_by_all : List ℤ → List (List ℕ) → List HeldPart → ℤ
given_by_all numbers parts held = sum_below (given_at numbers parts held) (length parts)

-- the same numbers, but 0 at one place
abbrev pub without : ℕ → (ℕ → ℤ) → ℕ → ℤ
without g f h = if nat_eq h g then pos 0 else f h

-- what all parts but number g give together
abbrev pub given_by_others : List ℤ → List (List ℕ) → List HeldPart → ℕ → ℤ
given_by_others numbers parts held g =
    sum_below (without g (given_at numbers parts held)) (length parts)

-- a number a row: what all parts but number g give to it
abbrev pub others_of : ProblemData → List (List ℕ) → List HeldPart → ℕ → List ℤ
others_of p parts held g =
    map (λ (row : List ℤ). given_by_others row parts held g) p.rows
