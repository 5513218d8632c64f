-- The searches that the tests write by hand are balanced, and right where a tree is made of them.
use Rattle.std.proofs.Common.{◌≡◌, ◌≢◌, ℕ, zero, suc, ◌*◌, ◌-◌, ◌^◌, ◌<◌, ◌≤◌, List, [], ◌∷◌, All, length, refl, sym, ap, ◌∙◌, arith}
use Rattle.std.specs.Prelude.{ℤ, pos, negsuc, Option, None, Some}
use Rattle.std.proofs.lemmas.Int.{ints}
use Rattle.std.proofs.lemmas.List.Elements.{All-cons, All-nil}
use Rattle.std.proofs.lemmas.List.Sorted.{IsPermutation-refl}
use Rattle.lin_bound.specs.Sums.{nat_at}
use Rattle.lin_bound.specs.Problem.{ProblemData}
use Rattle.lin_bound.specs.Box.{whole_box, Splits, lower}
use Rattle.lin_bound.specs.Bound.{Closes, IsMult, plain}
use Rattle.lin_bound.specs.declared.path.Branch.{Branch}
use Rattle.lin_bound.specs.declared.mult.Mult.{Mult}
use Rattle.lin_bound.specs.declared.region.Region.{Region}
use Rattle.cert_tree.specs.declared.nodes.TreeNode.{TreeNode}
use Rattle.cert_tree.specs.declared.nodes.TreeNode.TheVariants.{Split, Open}
use Rattle.cert_tree.specs.declared.records.Act.TheVariants.{Closed, Split as SplitAct}
use Rattle.cert_tree.specs.declared.records.Record.{Record}
use Rattle.cert_tree.specs.Records.{IsBalanced}
use Rattle.cert_tree.specs.Trees.{IsAssembled}
use Rattle.cert_tree.specs.Multipliers.{ActIsLegal, HasLegalMult}
use Rattle.cert_tree.specs.Laws.{AssembledPartly, AssembledLegal, WasPlainlyRight}
use Rattle.cert_tree.specs.Partial.{PlainlyOpen, PartlyCertify}
use Rattle.cert_tree.specs.Counts.{points_below}
use Rattle.bound_tests.specs.Worked.{least_cost, strong, weak, open_records, open_paths, half_closed_records, half_closed_paths}

abbrev low_x : Region
low_x = record { low = 0 ∷ 0 ∷ []; high = 1 ∷ 2 ∷ [] }

whole_open : PlainlyOpen least_cost (whole_box least_cost) None
whole_open =
    record { more = (0, omega arith, omega arith); unclosed = each }
  where
    each : (number : ℕ) → number ≤ 1 → ¬ Closes least_cost (whole_box least_cost) (plain least_cost number) None
    each zero h closed = absurd (omega (arith, closed.0))
    each (suc zero) h closed = absurd (omega (arith, ints, closed.1))
    each (suc (suc number)) h closed = absurd (omega (arith, h))

low_open : PlainlyOpen least_cost low_x None
low_open =
    record { more = (0, omega arith, omega arith); unclosed = each }
  where
    each : (number : ℕ) → number ≤ 1 → ¬ Closes least_cost low_x (plain least_cost number) None
    each zero h closed = absurd (omega (arith, closed.0))
    each (suc zero) h closed = absurd (omega (arith, ints, closed.1))
    each (suc (suc number)) h closed = absurd (omega (arith, h))

whole_splits : Splits (lower 0 1) (whole_box least_cost)
whole_splits = record { var = omega arith; low = omega arith; high = omega arith }

low_splits : Splits (lower 1 1) low_x
low_splits = record { var = omega arith; low = omega arith; high = omega arith }

low_closes : Closes least_cost low_x strong (Some (negsuc 9))
low_closes = omega (arith, ints)

strong_legal : IsMult least_cost strong
strong_legal = record { each = refl; cost = omega arith; small = each }
  where
    each : (j : ℕ) → j < 1 → nat_at strong.lambda j ≤ 2 ^ 30
    each zero h = omega arith
    each (suc j) h = absurd (omega (arith, h))

weak_legal : IsMult least_cost weak
weak_legal = record { each = refl; cost = omega arith; small = each }
  where
    each : (j : ℕ) → j < 1 → nat_at weak.lambda j ≤ 2 ^ 30
    each zero h = omega arith
    each (suc j) h = absurd (omega (arith, h))

-- both lists are balanced
pub open_balanced : (records : List Record) (left : List (List Branch)) → records ≡ open_records → left ≡ open_paths → IsBalanced records left
open_balanced records left records_are left_are =
    let known : IsBalanced open_records open_paths = IsPermutation-refl _ in
    rw (records_are, left_are) known

pub half_closed_balanced : (records : List Record) (left : List (List Branch)) → records ≡ half_closed_records → left ≡ half_closed_paths → IsBalanced records left
half_closed_balanced records left records_are left_are =
    let known : IsBalanced half_closed_records half_closed_paths = IsPermutation-refl _ in
    rw (records_are, left_are) known

-- each record is right, and each of their multipliers legal
abbrev first : Record
first = record { path = []; act = SplitAct 0 1 strong }

abbrev second : Record
second = record { path = lower 0 1 ∷ []; act = SplitAct 1 1 weak }

abbrev closed_one : Record
closed_one = record { path = lower 0 1 ∷ []; act = Closed strong }

first_right : (best : Option ℤ) → WasPlainlyRight least_cost best first
first_right best = (None, (whole_splits, whole_open))

second_right : (best : Option ℤ) → WasPlainlyRight least_cost best second
second_right best = (None, (low_splits, low_open))

closed_right : WasPlainlyRight least_cost (Some (negsuc 9)) closed_one
closed_right = (None, low_closes)

open_right : (best : Option ℤ) → All (WasPlainlyRight least_cost best) open_records
open_right best =
    let right : Record → Type 0 = WasPlainlyRight least_cost best in
    All-cons right first (second ∷ []) (first_right best) (All-cons right second [] (second_right best) (All-nil right))

half_closed_right : All (WasPlainlyRight least_cost (Some (negsuc 9))) half_closed_records
half_closed_right =
    let right : Record → Type 0 = WasPlainlyRight least_cost (Some (negsuc 9)) in
    All-cons right first (closed_one ∷ []) (first_right (Some (negsuc 9))) (All-cons right closed_one [] closed_right (All-nil right))

open_legal : All (λ (done : Record). ActIsLegal least_cost done.act) open_records
open_legal =
    let legal : Record → Type 0 = λ (done : Record). ActIsLegal least_cost done.act in
    All-cons legal first (second ∷ []) strong_legal (All-cons legal second [] weak_legal (All-nil legal))

half_closed_legal : All (λ (done : Record). ActIsLegal least_cost done.act) half_closed_records
half_closed_legal =
    let legal : Record → Type 0 = λ (done : Record). ActIsLegal least_cost done.act in
    All-cons legal first (closed_one ∷ []) strong_legal (All-cons legal closed_one [] strong_legal (All-nil legal))

left_some : (left : List (List Branch)) (path : List Branch) (paths : List (List Branch)) → left ≡ path ∷ paths → left ≢ []
left_some left path paths is none =
    let counts : length (path ∷ paths) ≡ 0 = ap (λ (all : List (List Branch)). length all) (sym is ∙ none) in
    absurd (omega (arith, counts))

-- so the trees of them certify in part, and their multipliers are legal
pub open_partly : (best : Option ℤ) (p : ProblemData) (records : List Record) (left : List (List Branch)) (nodes : List TreeNode) → p ≡ least_cost → records ≡ open_records → left ≡ open_paths → AssembledPartly → IsAssembled records left nodes → PartlyCertify p best (whole_box p ∷ []) nodes
open_partly best p records left nodes p_is records_are left_are law assembled =
    let right : All (WasPlainlyRight p best) records = rw (p_is, records_are) (open_right best) in
    (law p best records left nodes assembled right (left_some left _ _ left_are)).parts

pub open_mults : (p : ProblemData) (records : List Record) (left : List (List Branch)) (nodes : List TreeNode) → p ≡ least_cost → records ≡ open_records → AssembledLegal → IsAssembled records left nodes → All (HasLegalMult p) nodes
open_mults p records left nodes p_is records_are law assembled =
    law p records left nodes assembled (rw (p_is, records_are) open_legal)

pub half_closed_partly : (p : ProblemData) (records : List Record) (left : List (List Branch)) (nodes : List TreeNode) → p ≡ least_cost → records ≡ half_closed_records → left ≡ half_closed_paths → AssembledPartly → IsAssembled records left nodes → PartlyCertify p (Some (negsuc 9)) (whole_box p ∷ []) nodes
half_closed_partly p records left nodes p_is records_are left_are law assembled =
    let right : All (WasPlainlyRight p (Some (negsuc 9))) records = rw (p_is, records_are) half_closed_right in
    (law p (Some (negsuc 9)) records left nodes assembled right (left_some left _ _ left_are)).parts

pub half_closed_mults : (p : ProblemData) (records : List Record) (left : List (List Branch)) (nodes : List TreeNode) → p ≡ least_cost → records ≡ half_closed_records → AssembledLegal → IsAssembled records left nodes → All (HasLegalMult p) nodes
half_closed_mults p records left nodes p_is records_are law assembled =
    law p records left nodes assembled (rw (p_is, records_are) half_closed_legal)

-- the problem of the tests has 4 * 3 points
twelve_points : points_below least_cost.upper 2 ≡ 12
twelve_points = refl

-- a problem of two points, and a tree of it that has as many nodes as it can: three
abbrev two_points : ProblemData
two_points = record { cost = pos 1 ∷ []; rows = []; rhs = []; upper = 1 ∷ [] }

abbrev full_tree : List TreeNode
full_tree = Split 0 0 (record { d = 1; lambda = [] }) ∷ (Open ∷ (Open ∷ []))

two_open : PlainlyOpen two_points (whole_box two_points) None
two_open =
    record { more = (0, omega arith, omega arith); unclosed = each }
  where
    each : (number : ℕ) → number ≤ 0 → ¬ Closes two_points (whole_box two_points) (plain two_points number) None
    each zero h closed = absurd (omega (arith, closed.0))
    each (suc number) h closed = absurd (omega (arith, h))

full_partly : PartlyCertify two_points None (whole_box two_points ∷ []) full_tree
full_partly = (record { var = omega arith; low = omega arith; high = omega arith }, two_open, tt)

full_many : length full_tree ≡ 2 * points_below two_points.upper 1 - 1
full_many = refl
