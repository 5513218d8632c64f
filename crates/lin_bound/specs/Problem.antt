-- A bounded integer program: the whole numbers x with 0 <= x_i <= upper_i whose rows keep row·x <=
-- rhs, and of these one with the greatest cost·x.
use Rattle.std.specs.Prelude.{◌≡◌, ℕ, ◌*◌, ◌^◌, ◌<◌, ◌≤◌, List, [], length, ℤ, pos, ◌*ℤ◌, ◌≤ℤ◌}
use Rattle.std.specs.Prelude.{slice_index_or}
use Rattle.std.specs.Int.RustNames.{unsigned_abs}
use Rattle.lin_bound.specs.Sums.{sum_below, count_below, int_at, nat_at}

pub record ProblemData : Type 0 where
  pub cost : List ℤ
  pub rows : List (List ℤ)
  pub rhs : List ℤ
  pub upper : List ℕ

-- how many variables and rows there are
abbrev pub variables : ProblemData → ℕ
variables p = length p.cost

abbrev pub row_count : ProblemData → ℕ
row_count p = length p.rows

-- row j, and what it has at variable i
abbrev pub row_of : ProblemData → ℕ → List ℤ
row_of p j = slice_index_or p.rows j []

abbrev pub coefficient_of : ProblemData → ℕ → ℕ → ℤ
coefficient_of p j i = int_at (row_of p j) i

-- coefficients·x over n variables
abbrev pub value_at : List ℤ → List ℕ → ℕ → ℤ
value_at coefficients x n = sum_below (λ (i : ℕ). int_at coefficients i *ℤ pos (nat_at x i)) n

abbrev pub cost_at : ProblemData → List ℕ → ℤ
cost_at p x = value_at p.cost x (variables p)

abbrev pub row_at : ProblemData → ℕ → List ℕ → ℤ
row_at p j x = value_at (row_of p j) x (variables p)

-- a point with a count a variable, none above its upper
pub record IsWithin (p : ProblemData) (x : List ℕ) : Type 0 where
  pub each : length x ≡ variables p
  pub within : (i : ℕ) → i < variables p → nat_at x i ≤ nat_at p.upper i

-- a point that keeps each row
abbrev pub KeepsRows : ProblemData → List ℕ → Type 0
KeepsRows p x = (j : ℕ) → j < row_count p → row_at p j x ≤ℤ int_at p.rhs j

-- a point within the uppers that keeps each row
pub record IsFeasible (p : ProblemData) (x : List ℕ) : Type 0 where
  pub each : length x ≡ variables p
  pub within : (i : ℕ) → i < variables p → nat_at x i ≤ nat_at p.upper i
  pub keeps : (j : ℕ) → j < row_count p → row_at p j x ≤ℤ int_at p.rhs j

-- the greatest size that coefficients·x can have within the uppers
abbrev pub load : List ℕ → List ℤ → ℕ → ℕ
load upper coefficients n =
    count_below (λ (i : ℕ). nat_at upper i * unsigned_abs (int_at coefficients i)) n

-- what a problem keeps: lengths agree, and no sum of it is too large for the machine's numbers
pub record IsLegal (p : ProblemData) : Type 0 where
  pub rhs_each : length p.rhs ≡ row_count p
  pub upper_each : length p.upper ≡ variables p
  pub row_each : (j : ℕ) → j < row_count p → length (row_of p j) ≡ variables p
  pub few_variables : variables p < 2 ^ 32
  pub few_rows : row_count p ≤ 64
  pub cost_load : load p.upper p.cost (variables p) ≤ 2 ^ 60
  pub row_loads : (j : ℕ) → j < row_count p → load p.upper (row_of p j) (variables p) ≤ 2 ^ 60
  pub rhs_small : (j : ℕ) → j < row_count p → unsigned_abs (int_at p.rhs j) ≤ 2 ^ 61
  pub upper_small : (i : ℕ) → i < variables p → nat_at p.upper i ≤ 10 ^ 12
