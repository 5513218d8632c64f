-- The bounded integer program of a package query: a variable for each row that can be taken, which
-- says how often it is, and one or two rows for each condition.
use Rattle.std.specs.Prelude.{ℕ, zero, suc, ◌*◌, ◌^◌, ◌≤◌, Bool, true, false, not, List, [], ◌∷◌, map, flat_map, filter, length, replicate, sum, unsigned_abs}
use Rattle.std.specs.Prelude.{ℤ, pos, ◌+ℤ◌, ◌-ℤ◌, neg_ℤ, Option, None, Some}
use Rattle.std.specs.Int.{int_max, int_min}
use Rattle.std.specs.List.{AllByRecursion}
use Rattle.lin_bound.specs.Problem.{ProblemData}
use Rattle.package_query.specs.Meaning.{copies_give}
use Rattle.package_query.specs.Query.{Conjunct, Goal, PackageQuery}
use Rattle.package_query.specs.declared.comparison.Comparison.{Comparison}
use Rattle.package_query.specs.declared.comparison.Comparison.TheVariants.{AtMost, Below, AtLeast, Above, Equals, Between}

-- ---- variables

-- the rows that pass, in the order of the table
abbrev pub candidates : {R : Type 0} → PackageQuery R → List (ℕ × R) → List (ℕ × R)
candidates {R} query rows = filter (λ (entry : ℕ × R). query.passes entry.1) rows

abbrev pub ids_of : {R : Type 0} → List (ℕ × R) → List ℕ
ids_of {R} rows = map (λ (entry : ℕ × R). entry.0) rows

-- ---- numbers

-- what terms give for one copy of a row
abbrev pub per_copy : {R : Type 0} → List (R → ℤ) → R → ℤ
per_copy terms row = copies_give terms 1 row

-- the same if a row can occur so often, and 0 if none can occur at all
abbrev pub coefficient : {R : Type 0} → ℕ → List (R → ℤ) → R → ℤ
coefficient zero terms row = pos 0
coefficient (suc bound) terms row = per_copy terms row

-- what one copy of each row adds to a sum
abbrev pub adds : {R : Type 0} → ℕ → List (R → ℤ) → List (ℕ × R) → List ℤ
adds {R} bound terms rows = map (λ (entry : ℕ × R). coefficient bound terms entry.1) rows

abbrev pub signed : Bool → ℤ → ℤ
signed true number = neg_ℤ number
signed false number = number

-- ---- conditions

-- what a row of a program says of a sum: it, or its negation, is at most a number
pub record Side : Type 0 where
  pub negated : Bool
  pub most : ℤ

abbrev pub at_most : ℤ → Side
at_most most = record { negated = false; most = most }

abbrev pub at_least : ℤ → Side
at_least least = record { negated = true; most = neg_ℤ least }

-- totals are whole numbers, so that less is at most one less
abbrev pub sides : Comparison → List Side
sides (AtMost most) = at_most most ∷ []
sides (Below end) = at_most (end -ℤ pos 1) ∷ []
sides (AtLeast least) = at_least least ∷ []
sides (Above end) = at_least (end +ℤ pos 1) ∷ []
sides (Equals number) = at_most number ∷ at_least number ∷ []
sides (Between least most) = at_most most ∷ at_least least ∷ []

-- what no right-hand side exceeds; no sum of a program's row comes so far
abbrev pub most_side : ℕ
most_side = 2 ^ 61

abbrev pub held : ℤ → ℤ
held number = int_max (int_min number (pos most_side)) (neg_ℤ (pos most_side))

-- the rows of a condition, and their right-hand sides
abbrev pub signed_rows : List ℤ → Comparison → List (List ℤ)
signed_rows sum comparison =
    map (λ (side : Side). map (signed side.negated) sum) (sides comparison)

abbrev pub held_sides : Comparison → List ℤ
held_sides comparison = map (λ (side : Side). held side.most) (sides comparison)

abbrev pub rows_for : {R : Type 0} → ℕ → List (ℕ × R) → Conjunct R → List (List ℤ)
rows_for bound rows conjunct = signed_rows (adds bound conjunct.terms rows) conjunct.comparison

abbrev pub rhs_for : {R : Type 0} → Conjunct R → List ℤ
rhs_for conjunct = held_sides conjunct.comparison

-- ---- the program

-- the sum that is to be greatest, negated if it is to be least: none without a goal
abbrev pub goal_terms : {R : Type 0} → Option (Goal R) → List (R → ℤ)
goal_terms None = []
goal_terms (Some goal) = goal.terms

abbrev pub goal_negated : {R : Type 0} → Option (Goal R) → Bool
goal_negated None = false
goal_negated (Some goal) = not goal.maximize

-- the program over these rows, of which each can occur so often
abbrev pub problem_of : {R : Type 0} → PackageQuery R → ℕ → List (ℕ × R) → ProblemData
problem_of query bound rows = record {
  cost = map (signed (goal_negated query.goal)) (adds bound (goal_terms query.goal) rows);
  rows = flat_map (rows_for bound rows) query.conjuncts;
  rhs = flat_map rhs_for query.conjuncts;
  upper = replicate (length rows) bound;
}

-- ---- sizes

-- how much the copies of each row can change a sum
abbrev pub sizes : {R : Type 0} → ℕ → List (R → ℤ) → List (ℕ × R) → List ℕ
sizes {R} bound terms rows =
    map (λ (entry : ℕ × R). bound * unsigned_abs (per_copy terms entry.1)) rows

abbrev pub most_sum : ℕ
most_sum = 2 ^ 60

-- the sums of a query: the goal's, and that of each condition
abbrev pub sums_of : {R : Type 0} → PackageQuery R → List (List (R → ℤ))
sums_of {R} query = goal_terms query.goal
    ∷ map (λ (conjunct : Conjunct R). conjunct.terms) query.conjuncts

abbrev pub IsSmallSum : {R : Type 0} → ℕ → List (ℕ × R) → List (R → ℤ) → Type 0
IsSmallSum bound rows terms = sum (sizes bound terms rows) ≤ most_sum

abbrev pub AreSumsSmall : {R : Type 0} → PackageQuery R → ℕ → List (ℕ × R) → Type 0
AreSumsSmall query bound rows = AllByRecursion (IsSmallSum bound rows) (sums_of query)
