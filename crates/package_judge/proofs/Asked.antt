-- A query that can be asked of a table has sums that fit.
use Rattle.std.proofs.Common.{◌≡◌, ℕ, ◌≤◌, List, [], ◌∷◌, length, Option, Some, None, IsTrue, inl, inr, ap, arith}
use Rattle.std.specs.List.{AllByRecursion}
use Rattle.std.specs.Cmp.{first_so, second_so}
use Rattle.table_schema.specs.declared.cells.Cell.{Cell}
use Rattle.package_query.specs.Meaning.{IsAllowed}
use Rattle.package_query.specs.Search.{TakesFrom}
use Rattle.package_query.proofs.Table.{TakesFrom-allowed}
use Rattle.bound_query.specs.declared.queries.BoundConjunct.{BoundConjunct}
use Rattle.bound_query.specs.declared.queries.BoundGoal.{BoundGoal}
use Rattle.bound_query.specs.declared.queries.BoundQuery.{BoundQuery}
use Rattle.bound_query.specs.declared.queries.Op.{Op}
use Rattle.bound_query.specs.declared.queries.Op.TheVariants as ops
use Rattle.bound_query.specs.Fits.{fits_terms, fits_conjuncts, fits_goal, rows_for, rows_of}
use Rattle.bound_query.specs.Asks.{asks, IsAskedOf, AreAskedOf}
use Rattle.package_judge.specs.Packages.{IsPackageOf}
use Rattle.package_judge.specs.Verdicts.{first, pairs_break}
use Rattle.package_judge.proofs.Breaks.{allowed, first-none}
use Rattle.package_judge.specs.Sums.{AreSmall, RowsFitEach, RowsFitGoal}

all_weaker : {X : Type 0} (P Q : X → Type 0) → ((x : X) → P x → Q x) → (xs : List X) → AllByRecursion P xs → AllByRecursion Q xs
all_weaker P Q weaker [] all = tt
all_weaker P Q weaker (x ∷ xs) all = (weaker x all.0, all_weaker P Q weaker xs all.1)

each_fits : (conjuncts : List BoundConjunct) (rows : List (ℕ × List Cell)) → AllByRecursion (λ (entry : ℕ × List Cell). IsTrue (fits_conjuncts entry.1 conjuncts)) rows → RowsFitEach conjuncts rows
each_fits [] rows all = tt
each_fits (conjunct ∷ conjuncts) rows all = (
  all_weaker (λ (entry : ℕ × List Cell). IsTrue (fits_conjuncts entry.1 (conjunct ∷ conjuncts))) (λ (entry : ℕ × List Cell). IsTrue (fits_terms entry.1 conjunct.terms)) (λ entry both. first_so (fits_terms entry.1 conjunct.terms) (fits_conjuncts entry.1 conjuncts) both) rows all,
  each_fits conjuncts rows (all_weaker (λ (entry : ℕ × List Cell). IsTrue (fits_conjuncts entry.1 (conjunct ∷ conjuncts))) (λ (entry : ℕ × List Cell). IsTrue (fits_conjuncts entry.1 conjuncts)) (λ entry both. second_so (fits_terms entry.1 conjunct.terms) (fits_conjuncts entry.1 conjuncts) both) rows all),
)

pub conjuncts_fit : (query : BoundQuery) (rows : List (ℕ × List Cell)) → AreAskedOf query rows → RowsFitEach query.conjuncts rows
conjuncts_fit query rows asked =
    each_fits query.conjuncts rows (all_weaker (λ (entry : ℕ × List Cell). IsAskedOf query entry.1) (λ (entry : ℕ × List Cell). IsTrue (fits_conjuncts entry.1 query.conjuncts)) (λ entry of. of.conjuncts) rows asked.each)

of_goal : (goal : Option BoundGoal) (rows : List (ℕ × List Cell)) → AllByRecursion (λ (entry : ℕ × List Cell). IsTrue (fits_goal entry.1 goal)) rows → RowsFitGoal goal rows
of_goal None rows all = tt
of_goal (Some goal) rows all = all

pub goal_fits : (query : BoundQuery) (rows : List (ℕ × List Cell)) → AreAskedOf query rows → RowsFitGoal query.goal rows
goal_fits query rows asked =
    of_goal query.goal rows (all_weaker (λ (entry : ℕ × List Cell). IsAskedOf query entry.1) (λ (entry : ℕ × List Cell). IsTrue (fits_goal entry.1 query.goal)) (λ entry of. of.goal) rows asked.each)

a_row_at_least : (op : Op) → 1 ≤ rows_for op
a_row_at_least ops.Le = omega arith
a_row_at_least ops.Lt = omega arith
a_row_at_least ops.Ge = omega arith
a_row_at_least ops.Gt = omega arith
a_row_at_least ops.Eq = omega arith
a_row_at_least ops.Between = omega arith

pub few_conjuncts : (conjuncts : List BoundConjunct) → length conjuncts ≤ rows_of conjuncts
few_conjuncts [] = omega arith
few_conjuncts (conjunct ∷ conjuncts) = omega (arith, a_row_at_least conjunct.op, few_conjuncts conjuncts)

-- no more pairs than rows
length-TakesFrom : {R : Type 0} (rows : List (ℕ × R)) (pairs : List (ℕ × ℕ)) → TakesFrom rows pairs → length pairs ≤ length rows
length-TakesFrom [] pairs takes = let none : length pairs ≡ 0 = ap length takes in omega (arith, none)
length-TakesFrom (entry ∷ entries) [] takes = omega arith
length-TakesFrom (entry ∷ entries) (pair ∷ pairs) takes =
    elim takes [
      | inl here ↦ omega (arith, length-TakesFrom entries pairs here.1)
      | inr later ↦ omega (arith, length-TakesFrom entries (pair ∷ pairs) later)
    ]

small-allowed : (query : BoundQuery) (rows : List (ℕ × List Cell)) (pairs : List (ℕ × ℕ)) → AreAskedOf query rows → IsPackageOf pairs → AllByRecursion (IsAllowed (asks query) rows) pairs → AreSmall pairs
small-allowed query rows pairs asked legal each = record {
  few = omega (arith, asked.few, length-TakesFrom rows pairs (TakesFrom-allowed (asks query) rows pairs asked.ascending legal.rises each));
  limited = legal.limited;
}

-- pairs that break nothing
pub small-unbroken : (query : BoundQuery) (rows : List (ℕ × List Cell)) (pairs : List (ℕ × ℕ)) → AreAskedOf query rows → IsPackageOf pairs → first (pairs_break (asks query) rows pairs) ≡ None → AreSmall pairs
small-unbroken query rows pairs asked legal none =
    small-allowed query rows pairs asked legal (allowed (asks query) rows pairs (first-none (pairs_break (asks query) rows pairs) none))
