-- Private: `src/bounds.rt`, `src/narrow.rt`, and `src/wide.rt`: weights that are made row by row.
-- The weights of variables while the rows are taken one after another, and how large they can be.
use Rattle.std.specs.Prelude.{◌≡◌, ℕ, ◌+◌, ◌*◌, ◌<◌, ◌≤◌, List, length, ℤ, pos, ◌-ℤ◌, ◌*ℤ◌}
use Rattle.std.specs.Int.RustNames.{unsigned_abs}
use Rattle.lin_bound.specs.Sums.{sum_below, count_below, int_at, nat_at}
use Rattle.lin_bound.specs.Problem.{ProblemData, variables, row_count, coefficient_of}
use Rattle.lin_bound.specs.Bound.{share_of}
use Rattle.lin_bound.specs.declared.mult.Mult.{Mult}

-- no coefficient is larger in size than the number that is kept for the cost or for its row
pub record IsSized (p : ProblemData) (cost_size : ℕ) (row_sizes : List ℕ) : Type 0 where
  pub cost : (i : ℕ) → i < variables p → unsigned_abs (int_at p.cost i) ≤ cost_size
  pub rows : (j i : ℕ) → j < row_count p → i < variables p
      → unsigned_abs (coefficient_of p j i) ≤ nat_at row_sizes j

-- the weight of variable i with the first n rows alone
abbrev pub weight_by : ProblemData → Mult → ℕ → ℕ → ℤ
weight_by p mult n i = (pos mult.d *ℤ int_at p.cost i) -ℤ sum_below (share_of p mult i) n

-- the size of what the cost and the first n rows give to the weight of variable i
abbrev pub mass_by : ProblemData → Mult → ℕ → ℕ → ℕ
mass_by p mult n i = mult.d * unsigned_abs (int_at p.cost i)
    + count_below (λ (j : ℕ). nat_at mult.lambda j * unsigned_abs (coefficient_of p j i)) n

-- and of what all rows give
abbrev pub mass : ProblemData → Mult → ℕ → ℕ
mass p mult i = mass_by p mult (row_count p) i

-- no weight can be as large as that
abbrev pub IsLight : ProblemData → Mult → ℕ → Type 0
IsLight p mult most = (i : ℕ) → i < variables p → mass p mult i < most

-- the weights, with the first n rows alone, of the variables from a start on
abbrev pub AreWeights : ProblemData → Mult → ℕ → ℕ → List ℤ → Type 0
AreWeights p mult n start weights =
    (k : ℕ) → k < length weights → int_at weights k ≡ weight_by p mult n (start + k)
