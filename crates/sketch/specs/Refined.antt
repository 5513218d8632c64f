-- Private: `refine_problem` in `src/refining.rt`.
-- The problem of one part's members, where the other parts give what they give.
use Rattle.std.specs.Prelude.{ℕ, ◌^◌, ◌<◌, ◌≤◌, List, map, length, ℤ, pos, neg_ℤ, ◌-ℤ◌}
use Rattle.std.specs.Prelude.{unsigned_abs}
use Rattle.std.specs.Int.{int_max, int_min}
use Rattle.std.specs.List.{range_with_len}
use Rattle.lin_bound.specs.Sums.{int_at, nat_at}
use Rattle.lin_bound.specs.Problem.{ProblemData, row_count}

-- The most in size that the other parts may give to a row. A part gives at most 2^60, and there are
-- fewer than 2^32 parts.
abbrev pub most_others : ℕ
most_others = 2 ^ 100

abbrev pub AreSmall : List ℤ → Type 0
AreSmall others = (j : ℕ) → j < length others → unsigned_abs (int_at others j) ≤ most_others

-- the numbers of a part's members, in the part's order
abbrev pub numbers_at : List ℕ → List ℤ → List ℤ
numbers_at part numbers = map (int_at numbers) part

-- what no right-hand side exceeds; no part's sum comes so far
abbrev pub most_side : ℕ
most_side = 2 ^ 61

abbrev pub held_side : ℤ → ℤ
held_side number = int_max (neg_ℤ (pos most_side)) (int_min number (pos most_side))

-- what is left of row j's right-hand side
abbrev pub side_left : ProblemData → List ℤ → ℕ → ℤ
side_left p others j = held_side (int_at p.rhs j -ℤ int_at others j)

abbrev pub refine_of : ProblemData → List ℕ → List ℤ → ProblemData
refine_of p part others = record {
  cost = numbers_at part p.cost;
  rows = map (numbers_at part) p.rows;
  rhs = map (side_left p others) (range_with_len 0 (row_count p));
  upper = map (nat_at p.upper) part;
}
