-- Private: the totals in `src/sums.rt`.
-- Which packages and tables have totals that fit in 128 bits.
use Rattle.std.specs.Prelude.{ℕ, ◌≤◌, List, length, IsTrue, Option, IfSome}
use Rattle.std.specs.List.{AllByRecursion}
use Rattle.table_schema.specs.declared.cells.Cell.{Cell}
use Rattle.bound_query.specs.Fits.{fits_terms}
use Rattle.bound_query.specs.declared.queries.BoundTerm.{BoundTerm}
use Rattle.bound_query.specs.declared.queries.BoundConjunct.{BoundConjunct}
use Rattle.bound_query.specs.declared.queries.BoundGoal.{BoundGoal}
use Rattle.package_judge.specs.Packages.{IsLimited}

-- few pairs, each with few copies
pub record AreSmall (pairs : List (ℕ × ℕ)) : Type 0 where
  pub few : length pairs ≤ 200000
  pub limited : AllByRecursion IsLimited pairs

-- each row fits the terms
abbrev pub RowsFit : List BoundTerm → List (ℕ × List Cell) → Type 0
RowsFit terms rows =
    AllByRecursion (λ (entry : ℕ × List Cell). IsTrue (fits_terms entry.1 terms)) rows

abbrev pub RowsFitEach : List BoundConjunct → List (ℕ × List Cell) → Type 0
RowsFitEach conjuncts rows =
    AllByRecursion (λ (conjunct : BoundConjunct). RowsFit conjunct.terms rows) conjuncts

abbrev pub RowsFitGoal : Option BoundGoal → List (ℕ × List Cell) → Type 0
RowsFitGoal goal rows = IfSome goal (λ (goal : BoundGoal). RowsFit goal.terms rows)
