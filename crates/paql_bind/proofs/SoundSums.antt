-- The terms and numbers that a sum without faults is bound to are in range.
use Rattle.std.proofs.Common.{◌≡◌, ℕ, ◌+◌, ◌-◌, ◌*◌, ◌≤◌, ◌^◌, length, Bool, true, false, List, [], ◌∷◌, ◌++◌, refl, sym, ap, ◌∙◌, subst, lit≤, inl, inr, arith}
use Rattle.std.specs.Prelude.{ℤ, pos, ◌+ℤ◌, ◌-ℤ◌, unsigned_abs, Option, Some, None, IsTrue, All, slice_get, ◌==◌, ◌&&◌, if◌then◌else◌}
use Rattle.std.specs.List.{AllByRecursion}
use Rattle.std.specs.Bool.{nat_le}
use Rattle.std.proofs.lemmas.Bool.Decides.{nat_tests}
use Rattle.std.proofs.lemmas.Int.{ints, unsigned_abs-mul}
use Rattle.std.proofs.lemmas.List.{length-append}
use Rattle.std.proofs.lemmas.Option.{slice_get_cases}
use Rattle.std.proofs.Math.Nat.{mul-le-mul_left, mul-le-mul_right}
use Rattle.pq_base.specs.declared.scaled.Scaled.{Scaled}
use Rattle.schema_types.specs.declared.Column.{Column}
use Rattle.schema_types.specs.declared.Kind.{Kind}
use Rattle.schema_types.specs.declared.Kind.TheVariants as kinds
use Rattle.table_schema.specs.Columns.{has_legal_scale, scale_of}
use Rattle.paql_ast.specs.declared.conditions.Pred.{Pred}
use Rattle.paql_ast.specs.declared.aggregates.Plain.{Plain}
use Rattle.paql_ast.specs.declared.aggregates.Plain.TheVariants as plains
use Rattle.paql_ast.specs.declared.aggregates.Agg.{Agg}
use Rattle.paql_ast.specs.declared.aggregates.Term.{Term}
use Rattle.paql_ast.specs.declared.aggregates.Term.TheVariants as terms
use Rattle.paql_ast.specs.declared.aggregates.SumItem.{SumItem}
use Rattle.bound_query.specs.Fits.{is_bound, bound_parts, agg_is_bound, IsBoundTerm}
use Rattle.bound_query.specs.declared.conditions.RowPred.{RowPred}
use Rattle.bound_query.specs.declared.conditions.RowPred.TheVariants as preds
use Rattle.bound_query.specs.declared.conditions.RowPred.TheOpen.{RowPred-F}
use Rattle.bound_query.specs.declared.conditions.RowPred.TheFolds.{fold-roll-RowPred}
use Rattle.paql_bind.specs.Names.{Scope, kind_of, kind_at, place_in, scale_or_zero, number_faults}
use Rattle.paql_bind.specs.Conditions.{pred_faults}
use Rattle.paql_bind.specs.Sums.{name_faults, plain_faults, only_faults, agg_faults, is_factor, whole_faults, factor_faults, term_faults, item_faults, sum_faults, plain_scale, term_scale, sum_scale, bound_only, bound_plain, in_units, with_sign, factor_of, bound_factor, bound_term, opposite, aggregates_of, item_terms, bound_terms, scaled_units, term_number, item_number, sum_number}
use Rattle.paql_bind.specs.declared.faults.Refusal.TheVariants.{Factor}
use Rattle.paql_bind.proofs.FaultLemmas.{nil_of_append}
use Rattle.paql_bind.proofs.NumberLemmas.{ten_to_most}
use Rattle.paql_bind.proofs.SoundConditions.{HasSmallScales, kept, number_good}

some_same : {X : Type 0} {one other : X} → Some one ≡ Some other → one ≡ other
some_same h = cc h

pub all_append : {X : Type 0} (P : X → Type 0) (xs ys : List X) → AllByRecursion P xs → AllByRecursion P ys → AllByRecursion P (xs ++ ys)
all_append P [] ys first second = second
all_append P (x ∷ xs) ys first second = (first.0, all_append P xs ys first.1 second)

-- ---- scales

legal_small : (kind : Kind) → IsTrue (has_legal_scale kind) → scale_of kind ≤ 6
legal_small kinds.Int legal = lit≤ tt
legal_small (kinds.Dec scale) legal = grind (arith, nat_tests)
legal_small kinds.Text legal = lit≤ tt

kind_small : (found : Option Column) → ((column : Column) → found ≡ Some column → IsTrue (has_legal_scale column.kind)) → scale_or_zero (kind_of found) ≤ 6
kind_small None legal = lit≤ tt
kind_small (Some column) legal = legal_small column.kind (legal column refl)

at_small : (place : Option ℕ) (columns : List Column) → All (λ (column : Column). IsTrue (has_legal_scale column.kind)) columns → scale_or_zero (kind_at place columns) ≤ 6
at_small None columns legal = lit≤ tt
at_small (Some place) columns legal = kind_small (slice_get columns place) (λ column is.
    elim (slice_get_cases columns place).1 [
      | inl found ↦ subst (λ (of : Column). IsTrue (has_legal_scale of.kind)) (found.3 ∙ some_same (sym found.2 ∙ is)) (legal place found.0 found.1)
      | inr past ↦ absurd (cc (past.1, is))
    ])

pub small_scales : (scope : Scope) → All (λ (column : Column). IsTrue (has_legal_scale column.kind)) scope.columns → HasSmallScales scope
small_scales scope legal column = at_small (place_in scope column) scope.columns legal

module _ (scope : Scope) (small : HasSmallScales scope) where
  plain_small : (plain : Plain) → plain_scale scope plain ≤ 6
  plain_small (plains.Count name) = lit≤ tt
  plain_small (plains.Sum column) = small column

  term_small : (term : Term) → term_faults scope term ≡ [] → term_scale scope term ≤ 6
  term_small (terms.Number number) none = (number_good number none).0
  term_small (terms.Agg factor agg) none = plain_small agg.plain

  pub sum_small : (items : List SumItem) → sum_faults scope items ≡ [] → sum_scale scope items ≤ 6
  sum_small [] none = lit≤ tt
  sum_small (item ∷ items) none =
      let both = nil_of_append (item_faults scope item) (sum_faults scope items) none in
      omega (arith, term_small item.term both.0, sum_small items both.1)

-- ---- sizes of numbers

pub units_size : (scale places : ℕ) (number : ℤ) (most : ℕ) → scale ≤ 6 → unsigned_abs number ≤ most → unsigned_abs (in_units scale places number) ≤ most * 10 ^ 6
units_size scale places number most scale_small number_small =
    let unit : 10 ^ (scale - places) ≤ 10 ^ 6 = ten_to_most (scale - places) 6 (omega arith) in
    rw (unsigned_abs-mul number (pos (10 ^ (scale - places))))
    (omega (arith, mul-le-mul_left (unsigned_abs number) unit, mul-le-mul_right (10 ^ 6) number_small))

sign_size : (minus : Bool) (number : ℤ) → unsigned_abs (with_sign minus number) ≡ unsigned_abs number
sign_size true number = omega (arith, ints)
sign_size false number = refl

pub scaled_size : (scale : ℕ) (number : Scaled) → scale ≤ 6 → number_faults number ≡ [] → unsigned_abs (scaled_units scale number) ≤ 10 ^ 18
scaled_size scale number scale_small none = units_size scale number.scale number.mant (10 ^ 12) scale_small (number_good number none).1

term_number_size : (scope : Scope) (scale : ℕ) (term : Term) → scale ≤ 6 → term_faults scope term ≡ [] → unsigned_abs (term_number scale term) ≤ 10 ^ 18
term_number_size scope scale (terms.Number number) scale_small none = scaled_size scale number scale_small none
term_number_size scope scale (terms.Agg factor agg) scale_small none = lit≤ tt

abs_add : (a b : ℤ) → unsigned_abs (a +ℤ b) ≤ unsigned_abs a + unsigned_abs b
abs_add a b = omega (arith, ints)

pub abs_sub : (a b : ℤ) → unsigned_abs (a -ℤ b) ≤ unsigned_abs a + unsigned_abs b
abs_sub a b = omega (arith, ints)

pub sum_number_size : (scope : Scope) (scale : ℕ) (items : List SumItem) → scale ≤ 6 → sum_faults scope items ≡ [] → unsigned_abs (sum_number scale items) ≤ length items * 10 ^ 18
sum_number_size scope scale [] scale_small none = lit≤ tt
sum_number_size scope scale (item ∷ items) scale_small none =
    let both = nil_of_append (item_faults scope item) (sum_faults scope items) none in
    let one : unsigned_abs (item_number scale item) ≤ 10 ^ 18 = rw (sign_size item.minus (term_number scale item.term)) (term_number_size scope scale item.term scale_small both.0) in
    let rest = sum_number_size scope scale items scale_small both.1 in
    omega (arith, abs_add (item_number scale item) (sum_number scale items), one, rest)

-- ---- terms

factor_or_none : (good : Bool) → (if good then [] else Factor ∷ []) ≡ [] → good ≡ true
factor_or_none true none = refl
factor_or_none false none = absurd (cc none)

and_second : (a b : Bool) → (a && b) ≡ true → b ≡ true
and_second true b h = h
and_second false b h = absurd (cc h)

passes_le : (n m : ℕ) → nat_le n m ≡ true → n ≤ m
passes_le n m h = grind (arith, nat_tests)

factor_size : (factor : Option Scaled) → factor_faults factor ≡ [] → unsigned_abs (factor_of factor) ≤ 10 ^ 6
factor_size None none = lit≤ tt
factor_size (Some number) none =
    let whole = factor_or_none (is_factor number) (nil_of_append (number_faults number) (whole_faults number) none).1 in
    passes_le (unsigned_abs number.mant) (10 ^ 6) (and_second (number.scale == 0) (nat_le (unsigned_abs number.mant) (10 ^ 6)) whole)

bound_factor_size : (scale places : ℕ) (minus : Bool) (factor : Option Scaled) → scale ≤ 6 → factor_faults factor ≡ [] → unsigned_abs (bound_factor scale places minus factor) ≤ 10 ^ 12
bound_factor_size scale places minus factor scale_small none =
    rw (sign_size minus (in_units scale places (factor_of factor))) (units_size scale places (factor_of factor) (10 ^ 6) scale_small (factor_size factor none))

pub all_bound : is_bound preds.All ≡ true
all_bound = ap is_bound (sym preds.rolls-All) ∙ fold-roll-RowPred Bool bound_parts RowPred-F.All

module _ (scope : Scope) (small : HasSmallScales scope) where
  only_bound : (only : Option (List ℕ × Pred)) → only_faults scope only ≡ [] → is_bound (bound_only scope only) ≡ true
  only_bound None none = all_bound
  only_bound (Some only) none = kept scope small only.1 (nil_of_append (name_faults scope only.0) (pred_faults scope only.1) none).1

  plain_bound : (plain : Plain) (pred : RowPred) → is_bound pred ≡ true → IsTrue (agg_is_bound (bound_plain scope plain pred))
  plain_bound (plains.Count name) pred h = h
  plain_bound (plains.Sum column) pred h = h

  term_bound : (scale : ℕ) (minus : Bool) (factor : Option Scaled) (agg : Agg) → scale ≤ 6 → factor_faults factor ++ agg_faults scope agg ≡ [] → IsBoundTerm (bound_term scope scale minus factor agg)
  term_bound scale minus factor agg scale_small none =
      let both = nil_of_append (factor_faults factor) (agg_faults scope agg) none in
      let parts = nil_of_append (plain_faults scope agg.plain) (only_faults scope agg.only) both.1 in
      record {
        agg = plain_bound agg.plain (bound_only scope agg.only) (only_bound agg.only parts.1);
        factor = bound_factor_size scale (plain_scale scope agg.plain) minus factor scale_small both.0;
        minus = lit≤ tt;
      }

  aggregates_bound : (scale : ℕ) (minus : Bool) (term : Term) → scale ≤ 6 → term_faults scope term ≡ [] → AllByRecursion IsBoundTerm (aggregates_of scope scale minus term)
  aggregates_bound scale minus (terms.Number number) scale_small none = tt
  aggregates_bound scale minus (terms.Agg factor agg) scale_small none = (term_bound scale minus factor agg scale_small none, tt)

  pub terms_bound : (scale : ℕ) (denied : Bool) (items : List SumItem) → scale ≤ 6 → sum_faults scope items ≡ [] → AllByRecursion IsBoundTerm (bound_terms scope scale denied items)
  terms_bound scale denied [] scale_small none = tt
  terms_bound scale denied (item ∷ items) scale_small none =
      let both = nil_of_append (item_faults scope item) (sum_faults scope items) none in
      all_append IsBoundTerm (item_terms scope scale denied item) (bound_terms scope scale denied items)
      (aggregates_bound scale (opposite denied item.minus) item.term scale_small both.0) (terms_bound scale denied items scale_small both.1)

  one_term : (scale : ℕ) (minus : Bool) (term : Term) → length (aggregates_of scope scale minus term) ≤ 1
  one_term scale minus (terms.Number number) = lit≤ tt
  one_term scale minus (terms.Agg factor agg) = lit≤ tt

  pub few_terms : (scale : ℕ) (denied : Bool) (items : List SumItem) → length (bound_terms scope scale denied items) ≤ length items
  few_terms scale denied [] = lit≤ tt
  few_terms scale denied (item ∷ items) =
      omega (arith, length-append (item_terms scope scale denied item) (bound_terms scope scale denied items), one_term scale (opposite denied item.minus) item.term, few_terms scale denied items)
