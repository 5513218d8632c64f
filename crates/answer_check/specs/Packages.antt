-- Private: `src/packages.rt`.
-- How the package of a certificate is judged: up to the first pair with too many copies.
use Rattle.std.specs.Prelude.{◌≡◌, ◌≢◌, ℕ, nat_lt, if◌then◌else◌, List, [], ◌∷◌, ℤ, neg_ℤ, Option, None, Some}
use Rattle.bound_query.specs.Asks.{asks}
use Rattle.bound_query.specs.declared.queries.BoundGoal.{BoundGoal}
use Rattle.bound_query.specs.declared.queries.BoundQuery.{BoundQuery}
use Rattle.package_judge.specs.Verdicts.{goal_total}
use Rattle.package_judge.specs.declared.judging.Place.{Place}
use Rattle.package_judge.specs.declared.judging.Place.TheVariants as places
use Rattle.package_judge.specs.declared.judging.Verdict.{Verdict as Judged}
use Rattle.package_judge.specs.declared.judging.Verdict.TheVariants.{Meets, Breaks}
use Rattle.package_query.specs.Meaning as meaning
use Rattle.answer_check.specs.Verdicts.{Rows, break_of, worth_of}
use Rattle.answer_check.specs.declared.verdict.Verdict.{Verdict}
use Rattle.answer_check.specs.declared.verdict.Verdict.TheVariants.{BadCert, Shape, Package}
use Rattle.answer_check.specs.declared.verdict.Verdict.TheVariants.{Value, Fault, Valid}

-- the pairs up to the first one with more than a million copies, which keeps a million of them
abbrev pub cut_off : List (ℕ × ℕ) → List (ℕ × ℕ)
cut_off [] = []
cut_off (pair ∷ pairs) =
    if nat_lt 1000000 pair.1 then (pair.0, 1000000) ∷ [] else pair ∷ cut_off pairs

-- the id of that one
abbrev pub first_over : List (ℕ × ℕ) → Option ℕ
first_over [] = None
first_over (pair ∷ pairs) = if nat_lt 1000000 pair.1 then Some pair.0 else first_over pairs

-- a pair with too many copies comes before all conjuncts
abbrev pub broken_by : Judged → ℕ → Place
broken_by (Breaks (places.Id id)) over = places.Id id
broken_by (Breaks (places.Where id)) over = places.Where id
broken_by (Breaks (places.Repeat id)) over = places.Repeat id
broken_by (Breaks (places.Conjunct number)) over = places.Repeat over
broken_by (Meets total) over = places.Repeat over

-- the pairs break the query first at this place; or they meet it, and this is the goal's total
abbrev pub IsJudged : BoundQuery → Rows → List (ℕ × ℕ) → Judged → Type 0
IsJudged query rows pairs (Breaks place) = break_of query rows pairs ≡ Some place
IsJudged query rows pairs (Meets total) = (break_of query rows pairs ≡ None)
    × meaning.Meets (asks query) rows pairs × (total ≡ goal_total (asks query).goal rows pairs)

-- the total, negated for a goal that is to be least
abbrev pub signed_by : Option BoundGoal → ℤ → ℤ
signed_by None total = total
signed_by (Some goal) total = if goal.maximize then total else neg_ℤ total

-- a value is what the package is worth, or is told with it
abbrev pub ComparesValue : ℤ → ℤ → Option Verdict → Type 0
ComparesValue said other None = said ≡ other
ComparesValue said other (Some (Value one another)) =
    (one ≡ said) × (another ≡ other) × (said ≢ other)
ComparesValue said other (Some (BadCert bad)) = ⊥
ComparesValue said other (Some Shape) = ⊥
ComparesValue said other (Some (Package place)) = ⊥
ComparesValue said other (Some (Fault path reason)) = ⊥
ComparesValue said other (Some Valid) = ⊥

-- what is wrong with the pairs, if anything is, where this value is claimed
abbrev pub JudgesPackage : BoundQuery → Rows → List (ℕ × ℕ) → ℤ → Option Verdict → Type 0
JudgesPackage query rows pairs said None =
    (break_of query rows pairs ≡ None) × (said ≡ worth_of query rows pairs)
JudgesPackage query rows pairs said (Some (Package place)) =
    break_of query rows pairs ≡ Some place
JudgesPackage query rows pairs said (Some (Value one other)) =
    (break_of query rows pairs ≡ None) × (one ≡ said)
    × (other ≡ worth_of query rows pairs) × (said ≢ other)
JudgesPackage query rows pairs said (Some (BadCert bad)) = ⊥
JudgesPackage query rows pairs said (Some Shape) = ⊥
JudgesPackage query rows pairs said (Some (Fault path reason)) = ⊥
JudgesPackage query rows pairs said (Some Valid) = ⊥
