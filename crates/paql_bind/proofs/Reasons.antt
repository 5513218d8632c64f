-- A row bound is that of REPEAT or of a constraint that keeps the count.
use Rattle.std.proofs.Common.{◌≡◌, ℕ, zero, suc, ◌+◌, ◌-◌, ◌≤◌, min, Bool, true, false, List, [], ◌∷◌, ◌++◌, ◌⊎◌, inl, inr, refl, sym, ap, ◌∙◌, subst, arith}
use Rattle.std.specs.Prelude.{Option, Some, None, Contains}
use Rattle.pq_base.specs.declared.scaled.Scaled.{Scaled}
use Rattle.paql_ast.specs.declared.conditions.CmpOp.{CmpOp}
use Rattle.paql_ast.specs.declared.conditions.CmpOp.TheVariants as ops
use Rattle.paql_ast.specs.declared.conditions.Pred.{Pred}
use Rattle.paql_ast.specs.declared.aggregates.Plain.{Plain}
use Rattle.paql_ast.specs.declared.aggregates.Plain.TheVariants as plains
use Rattle.paql_ast.specs.declared.aggregates.Term.{Term}
use Rattle.paql_ast.specs.declared.aggregates.Term.TheVariants as terms
use Rattle.paql_ast.specs.declared.aggregates.SumItem.{SumItem}
use Rattle.paql_ast.specs.declared.queries.Conjunct.{Conjunct}
use Rattle.paql_ast.specs.declared.queries.Conjunct.TheVariants as conjuncts
use Rattle.bound_query.specs.declared.queries.BoundConjunct.{BoundConjunct}
use Rattle.paql_bind.specs.Constraints.{bound_op, bound_sums, bound_range, bound_conjunct, bound_conjuncts}
use Rattle.paql_bind.specs.Names.{Scope}
use Rattle.paql_bind.specs.RowBounds.{plain_side, term_side, sum_side, sides_bound, conjunct_bound, least, counts_bound, repeat_bound, row_bound_of}
use Rattle.paql_bind.specs.Sound.{KeepsCount, HasReason}
use Rattle.paql_bind.specs.declared.row_bounds.Side.{Side}
use Rattle.paql_bind.specs.declared.row_bounds.Side.TheVariants as sides
use Rattle.paql_bind.proofs.RowBoundLemmas.{counting, numbered, left_keeps, right_keeps, range_keeps}

-- ---- what a side is

count_agg : (plain : Plain) (only : Option (List ℕ × Pred)) → plain_side plain only ≡ sides.Count → (name : Option (List ℕ)) × (record { minus = false; term = terms.Agg None (record { plain = plain; only = only }) } ≡ counting name)
count_agg (plains.Count name) None h = (name, refl)
count_agg (plains.Count name) (Some only) h = absurd (cc h)
count_agg (plains.Sum column) only h = absurd (cc h)

count_item : (minus : Bool) (term : Term) → term_side minus term ≡ sides.Count → (name : Option (List ℕ)) × (record { minus = minus; term = term } ≡ counting name)
count_item minus (terms.Number number) h = absurd (cc h)
count_item false (terms.Agg None agg) h = count_agg agg.plain agg.only h
count_item false (terms.Agg (Some factor) agg) h = absurd (cc h)
count_item true (terms.Agg factor agg) h = absurd (cc h)

side_count : (items : List SumItem) → sum_side items ≡ sides.Count → (name : Option (List ℕ)) × (items ≡ counting name ∷ [])
side_count [] h = absurd (cc h)
side_count (item ∷ []) h =
    let found = count_item item.minus item.term h in
    (found.0, ap (λ (of : SumItem). of ∷ []) found.1)
side_count (item ∷ (other ∷ items)) h = absurd (cc h)

no_number : (plain : Plain) (only : Option (List ℕ × Pred)) (minus : Bool) (number : Scaled) → plain_side plain only ≡ sides.Number minus number → ⊥
no_number (plains.Count name) None minus number h = cc h
no_number (plains.Count name) (Some only) minus number h = cc h
no_number (plains.Sum column) only minus number h = cc h

number_item : (minus : Bool) (term : Term) (other : Bool) (number : Scaled) → term_side minus term ≡ sides.Number other number → record { minus = minus; term = term } ≡ numbered other number
number_item minus (terms.Number own) other number h =
    let same_minus : minus ≡ other = cc h in
    let same_number : own ≡ number = cc h in
    ap (λ (of : Bool). numbered of own) same_minus ∙ ap (λ (of : Scaled). numbered other of) same_number
number_item false (terms.Agg None agg) other number h = absurd (no_number agg.plain agg.only other number h)
number_item false (terms.Agg (Some factor) agg) other number h = absurd (cc h)
number_item true (terms.Agg factor agg) other number h = absurd (cc h)

side_number : (items : List SumItem) (minus : Bool) (number : Scaled) → sum_side items ≡ sides.Number minus number → items ≡ numbered minus number ∷ []
side_number [] minus number h = absurd (cc h)
side_number (item ∷ []) minus number h = ap (λ (of : SumItem). of ∷ []) (number_item item.minus item.term minus number h)
side_number (item ∷ (other ∷ items)) minus number h = absurd (cc h)

-- ---- one constraint

abbrev Keeps : Scope → Conjunct → ℕ → Type 0
Keeps scope conjunct most = (bound : BoundConjunct) × (bound_conjunct scope conjunct ≡ bound ∷ []) × KeepsCount most bound

sides_keep : (scope : Scope) (left : List SumItem) (op : CmpOp) (right : List SumItem) (most : ℕ) (one other : Side) → sum_side left ≡ one → sum_side right ≡ other → sides_bound one op other ≡ Some most → KeepsCount most (bound_sums scope left (bound_op op) right)
sides_keep scope left op right most sides.Count (sides.Number minus number) is_left is_right h =
    let count = side_count left is_left in
    let of_number = side_number right minus number is_right in
    subst (λ (of : List SumItem). KeepsCount most (bound_sums scope of (bound_op op) right)) (sym count.1)
    (subst (λ (of : List SumItem). KeepsCount most (bound_sums scope (counting count.0 ∷ []) (bound_op op) of)) (sym of_number)
    (left_keeps scope count.0 op minus number most h))
sides_keep scope left op right most (sides.Number minus number) sides.Count is_left is_right h =
    let count = side_count right is_right in
    let of_number = side_number left minus number is_left in
    subst (λ (of : List SumItem). KeepsCount most (bound_sums scope of (bound_op op) right)) (sym of_number)
    (subst (λ (of : List SumItem). KeepsCount most (bound_sums scope (numbered minus number ∷ []) (bound_op op) of)) (sym count.1)
    (right_keeps scope count.0 op minus number most h))
sides_keep scope left op right most sides.Count sides.Count is_left is_right h = absurd (cc h)
sides_keep scope left op right most sides.Count sides.Other is_left is_right h = absurd (cc h)
sides_keep scope left op right most (sides.Number minus number) (sides.Number other_minus other) is_left is_right h = absurd (cc h)
sides_keep scope left op right most (sides.Number minus number) sides.Other is_left is_right h = absurd (cc h)
sides_keep scope left op right most sides.Other last is_left is_right h = absurd (cc h)

range_keep : (scope : Scope) (sum : List SumItem) (low high : Scaled) (most : ℕ) (one : Side) → sum_side sum ≡ one → sides_bound one ops.Le (sides.Number false high) ≡ Some most → KeepsCount most (bound_range scope sum low high)
range_keep scope sum low high most sides.Count is h =
    let count = side_count sum is in
    subst (λ (of : List SumItem). KeepsCount most (bound_range scope of low high)) (sym count.1) (range_keeps scope count.0 low high most h)
range_keep scope sum low high most (sides.Number minus number) is h = absurd (cc h)
range_keep scope sum low high most sides.Other is h = absurd (cc h)

conjunct_keeps : (scope : Scope) (conjunct : Conjunct) (most : ℕ) → conjunct_bound conjunct ≡ Some most → Keeps scope conjunct most
conjunct_keeps scope (conjuncts.Compare left op right) most h =
    (bound_sums scope left (bound_op op) right, refl, sides_keep scope left op right most (sum_side left) (sum_side right) refl refl h)
conjunct_keeps scope (conjuncts.Between sum low high) most h =
    (bound_range scope sum low high, refl, range_keep scope sum low high most (sum_side sum) refl h)
conjunct_keeps scope (conjuncts.Avg column op limit) most h = absurd (cc h)
conjunct_keeps scope (conjuncts.AvgBetween column low high) most h = absurd (cc h)

-- ---- all constraints, and REPEAT

min_is : (one other : ℕ) → (min one other ≡ one) ⊎ (min one other ≡ other)
min_is zero other = inl (omega arith)
min_is (suc one) zero = inr (omega arith)
min_is (suc one) (suc other) = elim (min_is one other) [
  | inl same ↦ inl (omega (arith, same))
  | inr same ↦ inr (omega (arith, same))
]

least_is : (one other : Option ℕ) (most : ℕ) → least one other ≡ Some most → (one ≡ Some most) ⊎ (other ≡ Some most)
least_is None other most h = inr h
least_is (Some one) None most h = inl h
least_is (Some one) (Some other) most h = elim (min_is one other) [
  | inl same ↦ inl (ap Some (sym same) ∙ h)
  | inr same ↦ inr (ap Some (sym same) ∙ h)
]

contains_first : {X : Type 0} (x : X) (xs : List X) → Contains (x ∷ xs) x
contains_first x xs = (0, omega arith, refl)

contains_cons : {X : Type 0} (x y : X) (xs : List X) → Contains xs x → Contains (y ∷ xs) x
contains_cons x y xs (k, within, is) = (suc k, omega arith, is)

contains_later : {X : Type 0} (x : X) (ys xs : List X) → Contains xs x → Contains (ys ++ xs) x
contains_later x [] xs h = h
contains_later x (y ∷ ys) xs h = contains_cons x y (ys ++ xs) (contains_later x ys xs h)

abbrev SomeKeeps : List BoundConjunct → ℕ → Type 0
SomeKeeps bound most = (conjunct : BoundConjunct) × Contains bound conjunct × KeepsCount most conjunct

counts_keep : (scope : Scope) (written : List Conjunct) (most : ℕ) → counts_bound written ≡ Some most → SomeKeeps (bound_conjuncts scope written) most
counts_keep scope [] most h = absurd (cc h)
counts_keep scope (conjunct ∷ later) most h = elim (least_is (conjunct_bound conjunct) (counts_bound later) most h) [
  | inl here ↦ let found = conjunct_keeps scope conjunct most here in
      (found.0, subst (λ (bound : List BoundConjunct). Contains (bound ++ bound_conjuncts scope later) found.0) (sym found.1) (contains_first found.0 (bound_conjuncts scope later)), found.2)
  | inr there ↦ let found = counts_keep scope later most there in
      (found.0, contains_later found.0 (bound_conjunct scope conjunct) (bound_conjuncts scope later) found.1, found.2)
]

repeat_keeps : (repeat : Option ℕ) (most : ℕ) → repeat_bound repeat ≡ Some most → (repeat ≡ Some (most - 1)) × (1 ≤ most)
repeat_keeps None most h = absurd (cc h)
repeat_keeps (Some k) most h =
    let same : k + 1 ≡ most = cc h in
    (ap Some (omega (arith, same)), omega (arith, same))

pub has_reason : (scope : Scope) (repeat : Option ℕ) (written : List Conjunct) (most : ℕ) → row_bound_of repeat written ≡ Some most → HasReason repeat (bound_conjuncts scope written) most
has_reason scope repeat written most h = elim (least_is (repeat_bound repeat) (counts_bound written) most h) [
  | inl by_repeat ↦ inl (repeat_keeps repeat most by_repeat)
  | inr by_count ↦ inr (counts_keep scope written most by_count)
]
