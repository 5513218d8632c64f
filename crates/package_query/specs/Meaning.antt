-- When a package meets a query, what it is worth, and which is best. All totals are direct sums.
use Rattle.std.specs.Prelude.{◌≡◌, ℕ, ◌+◌, ◌≤◌, List, [], ◌∷◌, ℤ, pos, ◌+ℤ◌, ◌*ℤ◌, ◌≤ℤ◌, Option, None, Some, IsTrue, IfSome, if◌then◌else◌}
use Rattle.std.specs.List.{AllByRecursion}
use lib.IntN.{neg_ℤ}
use Rattle.package_query.specs.Package.{IsPackage, row_at}
use Rattle.package_query.specs.Query.{Holds, Conjunct, Goal, PackageQuery}

-- what so many copies of a row give to terms: the sum over the terms of count times number
abbrev pub copies_give : {R : Type 0} → List (R → ℤ) → ℕ → R → ℤ
copies_give [] count row = pos 0
copies_give (term ∷ terms) count row = (pos count *ℤ term row) +ℤ copies_give terms count row

-- the same of the row with an id, and 0 if the table has none
abbrev pub pair_gives : {R : Type 0} → List (R → ℤ) → ℕ → Option R → ℤ
pair_gives terms count None = pos 0
pair_gives terms count (Some row) = copies_give terms count row

-- the sum over the pairs of a package
abbrev pub total : {R : Type 0} → List (R → ℤ) → List (ℕ × R) → List (ℕ × ℕ) → ℤ
total terms rows [] = pos 0
total terms rows (pair ∷ pairs) = pair_gives terms pair.1 (row_at pair.0 rows) +ℤ total terms rows pairs

-- a pair that the query allows: the table has the row, it passes WHERE, and REPEAT k allows k + 1 copies
pub record IsAllowed {R : Type 0} (query : PackageQuery R) (rows : List (ℕ × R)) (pair : ℕ × ℕ) : Type 0 where
  pub row : R
  pub found : row_at pair.0 rows ≡ Some row
  pub passes : IsTrue (query.passes row)
  pub copies : IfSome query.repeat (λ (k : ℕ). pair.1 ≤ k + 1)

-- the condition holds of the package
abbrev pub Keeps : {R : Type 0} → List (ℕ × R) → List (ℕ × ℕ) → Conjunct R → Type 0
Keeps rows pairs conjunct = Holds conjunct.comparison (total conjunct.terms rows pairs)

-- the package meets the query over these rows
pub record Meets {R : Type 0} (query : PackageQuery R) (rows : List (ℕ × R)) (pairs : List (ℕ × ℕ)) : Type 0 where
  pub rises : IsPackage pairs
  pub each : AllByRecursion (IsAllowed query rows) pairs
  pub conjuncts : AllByRecursion (Keeps rows pairs) query.conjuncts

-- the goal's total, negated if it is to be least, and 0 without a goal
abbrev pub goal_worth : {R : Type 0} → Option (Goal R) → List (ℕ × R) → List (ℕ × ℕ) → ℤ
goal_worth None rows pairs = pos 0
goal_worth (Some goal) rows pairs =
    if goal.maximize then total goal.terms rows pairs else neg_ℤ (total goal.terms rows pairs)

abbrev pub worth : {R : Type 0} → PackageQuery R → List (ℕ × R) → List (ℕ × ℕ) → ℤ
worth query rows pairs = goal_worth query.goal rows pairs

-- it meets the query, and no package that does is worth more
pub record Best {R : Type 0} (query : PackageQuery R) (rows : List (ℕ × R)) (pairs : List (ℕ × ℕ)) : Type 0 where
  pub meets : Meets query rows pairs
  pub none_better : (other : List (ℕ × ℕ)) → Meets query rows other → worth query rows other ≤ℤ worth query rows pairs

-- no package meets the query
abbrev pub Empty : {R : Type 0} → PackageQuery R → List (ℕ × R) → Type 0
Empty query rows = (pairs : List (ℕ × ℕ)) → Meets query rows pairs → ⊥
