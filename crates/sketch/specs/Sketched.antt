-- Private: `sketch_problem` in `src/sketching.rt`.
-- The sketch of a problem: a variable a part.
use Rattle.std.specs.Prelude.{ℕ, List, map, ℤ}
use Rattle.lin_bound.specs.Problem.{ProblemData}
use Rattle.sketch.specs.Parts.{mean, upper_sum}

-- a number a part: the mean of its members' numbers
abbrev pub means_of : List (List ℕ) → List ℤ → List ℤ
means_of parts numbers = map (mean numbers) parts

abbrev pub sketch_of : ProblemData → List (List ℕ) → ProblemData
sketch_of p parts = record {
  cost = means_of parts p.cost;
  rows = map (means_of parts) p.rows;
  rhs = p.rhs;
  upper = map (upper_sum p.upper) parts;
}
