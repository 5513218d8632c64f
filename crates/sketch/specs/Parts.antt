-- Private: `sketch_problem` in `src/sketching.rt` and `refine_problem` in `src/refining.rt`.
-- Parts of a problem's variables, and what the members of a part come to.
use Rattle.std.specs.Prelude.{◌≡◌, ℕ, ◌-◌, ◌*◌, ◌^◌, ◌<◌, ◌≤◌, List, [], length, ℤ, pos, neg_ℤ}
use Rattle.std.specs.Prelude.{◌≤ℤ◌, int_div, slice_index_or, IsPermutation}
use Rattle.std.specs.List.{flat_map, range_with_len}
use Rattle.lin_bound.specs.Sums.{sum_below, count_below, int_at, nat_at}
use Rattle.lin_bound.specs.Problem.{ProblemData, variables}

-- all uppers are equal, and together they are small
pub record IsEven (p : ProblemData) : Type 0 where
  pub same : (i : ℕ) → i < variables p → nat_at p.upper i ≡ nat_at p.upper 0
  pub small : variables p * nat_at p.upper 0 ≤ 10 ^ 12

-- part number g
abbrev pub part_at : List (List ℕ) → ℕ → List ℕ
part_at parts g = slice_index_or parts g []

-- the members of the parts, one part after the other
abbrev pub members_of : List (List ℕ) → List ℕ
members_of parts = flat_map (λ (part : List ℕ). part) parts

-- each variable is in one part, and there once; no part is empty
pub record ArePartsOf (p : ProblemData) (parts : List (List ℕ)) : Type 0 where
  pub once : IsPermutation (members_of parts) (range_with_len 0 (variables p))
  pub some : (g : ℕ) → g < length parts → 0 < length (part_at parts g)

-- a part: one variable or more, none of them twice
pub record IsPartOf (p : ProblemData) (part : List ℕ) : Type 0 where
  pub some : 0 < length part
  pub each : (k : ℕ) → k < length part → nat_at part k < variables p
  pub once : (k l : ℕ) → k < length part → l < length part
      → nat_at part k ≡ nat_at part l → k ≡ l

-- the sum of the numbers at a part's members
abbrev pub part_sum : List ℤ → List ℕ → ℤ
part_sum numbers part = sum_below (λ (k : ℕ). int_at numbers (nat_at part k)) (length part)

-- what so many numbers of 64 bits can add up to
pub record IsSumOf64 (n : ℕ) (sum : ℤ) : Type 0 where
  pub low : neg_ℤ (pos (n * 2 ^ 63)) ≤ℤ sum
  pub high : sum ≤ℤ pos (n * (2 ^ 63 - 1))

-- the mean of the numbers at a part's members, truncated toward zero
abbrev pub mean : List ℤ → List ℕ → ℤ
mean numbers part = int_div (part_sum numbers part) (pos (length part))

-- the sum of the uppers of a part's members
abbrev pub upper_sum : List ℕ → List ℕ → ℕ
upper_sum uppers part = count_below (λ (k : ℕ). nat_at uppers (nat_at part k)) (length part)
