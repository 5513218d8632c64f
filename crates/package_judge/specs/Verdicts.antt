-- Private: `judge` in `src/judging.rt`.
-- Where a package breaks a query, and what is said of it.
use Rattle.std.specs.Prelude.{◌≡◌, ℕ, ◌+◌, Bool, ◌&&◌, if◌then◌else◌, List, [], ◌∷◌, ◌++◌, ℤ, pos, Option, None, Some, ◌↔◌}
use Rattle.std.specs.Bool.{nat_le}
use lib.Signed.{le_z, lt_z}
use Rattle.std.specs.Ordering.{int_eq}
use Rattle.table_schema.specs.declared.cells.Cell.{Cell}
use Rattle.package_query.specs.Package.{IsPackage, row_at}
use Rattle.package_query.specs.Query.{Conjunct, Goal, PackageQuery}
use Rattle.package_query.specs.Meaning as meaning
use Rattle.package_query.specs.Meaning.{total}
use Rattle.package_query.specs.declared.comparison.Comparison.{Comparison}
use Rattle.package_query.specs.declared.comparison.Comparison.TheVariants as comparisons
use Rattle.package_judge.specs.declared.judging.Place.{Place}
use Rattle.package_judge.specs.declared.judging.Place.TheVariants as places
use Rattle.package_judge.specs.declared.judging.Verdict.{Verdict}
use Rattle.package_judge.specs.declared.judging.Verdict.TheVariants as verdicts

-- ---- places

-- the table has no row with the id, or WHERE doesn't let it pass
abbrev pub row_breaks : {R : Type 0} → (R → Bool) → ℕ → Option R → List Place
row_breaks passes id None = places.Id id ∷ []
row_breaks passes id (Some row) = if passes row then [] else places.Where id ∷ []

-- REPEAT k allows k + 1 copies
abbrev pub count_breaks : Option ℕ → ℕ × ℕ → List Place
count_breaks None pair = []
count_breaks (Some k) pair = if nat_le pair.1 (k + 1) then [] else places.Repeat pair.0 ∷ []

abbrev pub pair_breaks : {R : Type 0} → PackageQuery R → List (ℕ × R) → ℕ × ℕ → List Place
pair_breaks query rows pair =
    row_breaks query.passes pair.0 (row_at pair.0 rows) ++ count_breaks query.repeat pair

abbrev pub pairs_break : {R : Type 0} → PackageQuery R → List (ℕ × R) → List (ℕ × ℕ) → List Place
pairs_break query rows [] = []
pairs_break query rows (pair ∷ pairs) = pair_breaks query rows pair ++ pairs_break query rows pairs

-- what a comparison says of a total
abbrev pub keeps : Comparison → ℤ → Bool
keeps (comparisons.AtMost most) sum = le_z sum most
keeps (comparisons.Below end) sum = lt_z sum end
keeps (comparisons.AtLeast least) sum = le_z least sum
keeps (comparisons.Above end) sum = lt_z end sum
keeps (comparisons.Equals number) sum = int_eq sum number
keeps (comparisons.Between least most) sum = le_z least sum && le_z sum most

-- the conjuncts that don't hold, by their numbers
abbrev pub conjuncts_break : {R : Type 0} → List (ℕ × R) → List (ℕ × ℕ) → ℕ → List (Conjunct R)
    → List Place
conjuncts_break rows pairs number [] = []
conjuncts_break rows pairs number (conjunct ∷ conjuncts) =
    (if keeps conjunct.comparison (total conjunct.terms rows pairs) then []
    else places.Conjunct number ∷ []) ++ conjuncts_break rows pairs (number + 1) conjuncts

-- all places where the package breaks the query: pair by pair, and then conjunct by conjunct
abbrev pub breaks : {R : Type 0} → PackageQuery R → List (ℕ × R) → List (ℕ × ℕ) → List Place
breaks query rows pairs =
    pairs_break query rows pairs ++ conjuncts_break rows pairs 1 query.conjuncts

-- ---- verdicts

abbrev pub first : List Place → Option Place
first [] = None
first (place ∷ later) = Some place

-- the goal's total, and 0 without a goal
abbrev pub goal_total : {R : Type 0} → Option (Goal R) → List (ℕ × R) → List (ℕ × ℕ) → ℤ
goal_total None rows pairs = pos 0
goal_total (Some goal) rows pairs = total goal.terms rows pairs

-- it meets the query, and its goal has this value; or this is the first place where it breaks it
abbrev pub IsVerdict : {R : Type 0} → PackageQuery R → List (ℕ × R) → List (ℕ × ℕ) → Verdict
    → Type 0
IsVerdict query rows pairs (verdicts.Meets value) =
    meaning.Meets query rows pairs × (value ≡ goal_total query.goal rows pairs)
IsVerdict query rows pairs (verdicts.Breaks place) = first (breaks query rows pairs) ≡ Some place

-- a package meets a query exactly if there is no place where it breaks it
abbrev pub MeetsIfNothingBreaks : Type 0
MeetsIfNothingBreaks = (query : PackageQuery (List Cell)) (rows : List (ℕ × List Cell))
    → (pairs : List (ℕ × ℕ)) → IsPackage pairs
    → ((breaks query rows pairs ≡ []) ↔ meaning.Meets query rows pairs)
