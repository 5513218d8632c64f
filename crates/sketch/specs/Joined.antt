-- Private: `joined` in `src/joining.rt`.
-- The real counts of all parts, put together to a point of the whole problem.
use Rattle.std.specs.Prelude.{◌≡◌, ◌≢◌, ℕ, ◌<◌, List, [], length, slice_index_or}
use Rattle.lin_bound.specs.Sums.{nat_at}
use Rattle.lin_bound.specs.Problem.{ProblemData, variables}
use Rattle.sketch.specs.Parts.{part_at}
use Rattle.sketch.specs.Held.{IsRealOf}

-- the counts of part number g
abbrev pub counts_at : List (List ℕ) → ℕ → List ℕ
counts_at counts g = slice_index_or counts g []

-- a list of counts a part, and a count a member
pub record AreAsLong (parts counts : List (List ℕ)) : Type 0 where
  pub lists : length counts ≡ length parts
  pub each : (g : ℕ) → g < length parts
      → length (counts_at counts g) ≡ length (part_at parts g)

-- the same, and no count above its upper
pub record AreRealOf (p : ProblemData) (parts counts : List (List ℕ)) : Type 0 where
  pub lists : length counts ≡ length parts
  pub each : (g : ℕ) → g < length parts → IsRealOf p (part_at parts g) (counts_at counts g)

-- members below a number, none of them twice
pub record AreOnce (part : List ℕ) (n : ℕ) : Type 0 where
  pub each : (k : ℕ) → k < length part → nat_at part k < n
  pub once : (k l : ℕ) → k < length part → l < length part
      → nat_at part k ≡ nat_at part l → k ≡ l

-- a part's counts are at its members, and elsewhere is what was there
pub record IsSpread (part counts before now : List ℕ) : Type 0 where
  pub members : (k : ℕ) → k < length part → nat_at now (nat_at part k) ≡ nat_at counts k
  pub others : (i : ℕ) → ((k : ℕ) → k < length part → nat_at part k ≢ i)
      → nat_at now i ≡ nat_at before i

-- the count of a variable is the count at its place in its part
pub record IsJoined (p : ProblemData) (parts counts : List (List ℕ)) (point : List ℕ)
    : Type 0 where
  pub each : length point ≡ variables p
  pub placed : (g k : ℕ) → g < length parts → k < length (part_at parts g)
      → nat_at point (nat_at (part_at parts g) k) ≡ nat_at (counts_at counts g) k
