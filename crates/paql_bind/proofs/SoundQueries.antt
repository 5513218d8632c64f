-- What a query without faults is bound to is sound.
use Rattle.std.proofs.Common.{◌≡◌, ℕ, ◌+◌, ◌*◌, ◌≤◌, max, length, Bool, true, false, List, [], ◌∷◌, ◌++◌, ◌-◌, inl, inr, refl, lit≤, arith}
use Rattle.std.specs.Prelude.{pos, Option, Some, None, IfSome, ◌&&◌, if◌then◌else◌, unwrap_or}
use Rattle.std.specs.List.{AllByRecursion}
use Rattle.std.specs.Bool.{nat_le, nat_lt}
use Rattle.std.proofs.lemmas.Bool.Decides.{nat_tests}
use Rattle.std.proofs.lemmas.List.{length-append}
use Rattle.pq_base.specs.declared.scaled.Scaled.{Scaled}
use Rattle.paql_ast.specs.declared.conditions.ColumnName.{ColumnName}
use Rattle.paql_ast.specs.declared.conditions.Pred.{Pred}
use Rattle.paql_ast.specs.declared.aggregates.SumItem.{SumItem}
use Rattle.paql_ast.specs.declared.queries.Conjunct.{Conjunct}
use Rattle.paql_ast.specs.declared.queries.Conjunct.TheVariants as conjuncts
use Rattle.paql_ast.specs.declared.queries.Goal.{Goal}
use Rattle.paql_ast.specs.declared.queries.Query.{Query}
use Rattle.bound_query.specs.Fits.{is_bound, IsBoundTerm, IsBoundConjunct, AreBoundTerms, AreBoundParts, IsRowBound, HasReason as IsReason, rows_for, rows_of}
use Rattle.bound_query.specs.declared.queries.BoundConjunct.{BoundConjunct}
use Rattle.bound_query.specs.declared.queries.BoundGoal.{BoundGoal}
use Rattle.bound_query.specs.declared.queries.Op.{Op}
use Rattle.bound_query.specs.declared.queries.Op.TheVariants as ops
use Rattle.paql_bind.specs.Conditions.{filter_faults, bound_filter}
use Rattle.paql_bind.specs.Constraints.{conjunct_faults, conjuncts_faults, goal_faults, bound_op, bound_sums, bound_range, bound_average, average_term, bound_conjunct, bound_conjuncts, bound_goal}
use Rattle.paql_bind.specs.Names.{Scope, scope, bound_scale, summed_faults, number_faults}
use Rattle.paql_bind.specs.Queries.{budget_faults, number_of_conjuncts, number_of_terms, written_terms, places_of, terms_faults, parts_faults, bound_faults, held, checked_faults, bound_in, BoundParts}
use Rattle.paql_bind.specs.RowBounds.{least, counts_bound, row_bound_of}
use Rattle.paql_bind.specs.Sound.{HasReason, IsSound}
use Rattle.paql_bind.specs.Sums.{sum_faults, sum_scale, sum_number, scaled_units, bound_terms}
use Rattle.paql_bind.specs.declared.faults.Refusal.{Refusal}
use Rattle.paql_bind.specs.declared.faults.Refusal.TheVariants.{LimitBudget, LimitConjuncts, LimitTerms, LimitRepeat}
use Rattle.paql_bind.specs.declared.limits.TheConstants.{DEFAULT_BUDGET}
use Rattle.paql_bind.proofs.FaultLemmas.{nil_of_append}
use Rattle.paql_bind.proofs.QueryLemmas.{has_no_fault}
use Rattle.paql_bind.proofs.Reasons.{has_reason}
use Rattle.paql_bind.proofs.SoundConditions.{HasSmallScales, kept, number_good}
use Rattle.paql_bind.proofs.SoundSums.{all_append, all_bound, units_size, sum_small, scaled_size, sum_number_size, abs_sub, terms_bound, few_terms}

-- ---- what the limits say

passes_or_none : (test : Bool) (refusal : Refusal) → (if test then [] else refusal ∷ []) ≡ [] → test ≡ true
passes_or_none true refusal none = refl
passes_or_none false refusal none = absurd (cc none)

fails_or_none : (test : Bool) (refusal : Refusal) → (if test then refusal ∷ [] else []) ≡ [] → test ≡ false
fails_or_none false refusal none = refl
fails_or_none true refusal none = absurd (cc none)

not_above : (n m : ℕ) → nat_lt m n ≡ false → n ≤ m
not_above n m h = grind (arith, nat_tests)

few : (number given : ℕ) → number_of_terms number given ≡ [] → given ≤ 64
few number given none = not_above given 64 (fails_or_none (nat_lt 64 given) (LimitTerms number (held given)) none)

few_conjuncts : (written : List Conjunct) → number_of_conjuncts written ≡ [] → length written ≤ 31
few_conjuncts written none = not_above (length written) 31 (fails_or_none (nat_lt 31 (length written)) (LimitConjuncts (length written)) none)

and_first : (a b : Bool) → (a && b) ≡ true → a ≡ true
and_first true b h = refl
and_first false b h = absurd (cc h)

passes_le : (n m : ℕ) → nat_le n m ≡ true → n ≤ m
passes_le n m h = grind (arith, nat_tests)

some_budget : (budget : Option ℕ) → budget_faults budget ≡ [] → 1 ≤ unwrap_or budget DEFAULT_BUDGET
some_budget None none = lit≤ tt
some_budget (Some budget) none =
    passes_le 1 budget (and_first (nat_le 1 budget) (nat_le budget 20000) (passes_or_none (nat_le 1 budget && nat_le budget 20000) (LimitBudget budget) none))

few_copies : (bound : Option ℕ) → bound_faults bound ≡ [] → unwrap_or bound 0 ≤ 1000000
few_copies None none = absurd (cc none)
few_copies (Some bound) none = not_above bound 1000000 (fails_or_none (nat_lt 1000000 bound) (LimitRepeat (held bound)) none)

least_below : (most : ℕ) (other : Option ℕ) → unwrap_or (least (Some most) other) 0 ≤ most
least_below most None = omega arith
least_below most (Some other) = omega arith

within_repeat : (repeat : Option ℕ) (written : List Conjunct) → IfSome repeat (λ (k : ℕ). unwrap_or (row_bound_of repeat written) 0 ≤ k + 1)
within_repeat None written = tt
within_repeat (Some k) written = least_below (k + 1) (counts_bound written)

some_reason : (scope : Scope) (repeat : Option ℕ) (written : List Conjunct) (bound : Option ℕ) → row_bound_of repeat written ≡ bound → bound_faults bound ≡ [] → HasReason repeat (bound_conjuncts scope written) (unwrap_or bound 0)
some_reason scope repeat written None is none = absurd (cc none)
some_reason scope repeat written (Some most) is none = has_reason scope repeat written most is

-- ---- constraints

module _ (scope : Scope) (small : HasSmallScales scope) where
  sums_bound : (left : List SumItem) (op : Op) (right : List SumItem) → sum_faults scope left ++ sum_faults scope right ≡ [] → length left + length right ≤ 64 → IsBoundConjunct (bound_sums scope left op right)
  sums_bound left op right none terms =
      let both = nil_of_append (sum_faults scope left) (sum_faults scope right) none in
      let scale = max (sum_scale scope left) (sum_scale scope right) in
      let scale_small : scale ≤ 6 = omega (arith, sum_small scope small left both.0, sum_small scope small right both.1) in
      let first = bound_terms scope scale false left in
      let second = bound_terms scope scale true right in
      record {
        terms = (
          omega (arith, length-append first second, few_terms scope small scale false left, few_terms scope small scale true right, terms),
          all_append IsBoundTerm first second (terms_bound scope small scale false left scale_small both.0) (terms_bound scope small scale true right scale_small both.1),
        );
        high = omega (arith, abs_sub (sum_number scale right) (sum_number scale left), sum_number_size scope scale right scale_small both.1, sum_number_size scope scale left scale_small both.0, terms);
        low = lit≤ tt;
      }

  range_bound : (sum : List SumItem) (low high : Scaled) → sum_faults scope sum ++ (number_faults low ++ number_faults high) ≡ [] → length sum ≤ 64 → IsBoundConjunct (bound_range scope sum low high)
  range_bound sum low high none terms =
      let parts = nil_of_append (sum_faults scope sum) (number_faults low ++ number_faults high) none in
      let ends = nil_of_append (number_faults low) (number_faults high) parts.1 in
      let scale = max (sum_scale scope sum) (max low.scale high.scale) in
      let scale_small : scale ≤ 6 = omega (arith, sum_small scope small sum parts.0, (number_good low ends.0).0, (number_good high ends.1).0) in
      let number = sum_number_size scope scale sum scale_small parts.0 in
      record {
        terms = (omega (arith, few_terms scope small scale false sum, terms), terms_bound scope small scale false sum scale_small parts.0);
        high = omega (arith, abs_sub (scaled_units scale high) (sum_number scale sum), number, scaled_size scale high scale_small ends.1, terms);
        low = omega (arith, abs_sub (scaled_units scale low) (sum_number scale sum), number, scaled_size scale low scale_small ends.0, terms);
      }

  average_bound : (column : ColumnName) (op : Op) (limit : Scaled) → number_faults limit ≡ [] → IsBoundConjunct (bound_average scope column op limit)
  average_bound column op limit none =
      let scale = max (bound_scale scope column) limit.scale in
      let scale_small : scale ≤ 6 = omega (arith, small column, (number_good limit none).0) in
      let factor = units_size scale (bound_scale scope column) (pos 1) 1 scale_small (lit≤ tt) in
      let term : IsBoundTerm (average_term scope scale column limit) = record {
        agg = all_bound;
        factor = omega (arith, factor);
        minus = scaled_size scale limit scale_small none;
      } in
      record { terms = (lit≤ tt, (term, tt)); high = lit≤ tt; low = lit≤ tt }

  conjunct_bound : (conjunct : Conjunct) → conjunct_faults scope conjunct ≡ [] → written_terms conjunct ≤ 64 → AllByRecursion IsBoundConjunct (bound_conjunct scope conjunct)
  conjunct_bound (conjuncts.Compare left op right) none terms = (sums_bound left (bound_op op) right none terms, tt)
  conjunct_bound (conjuncts.Between sum low high) none terms = (range_bound sum low high none terms, tt)
  conjunct_bound (conjuncts.Avg column op limit) none terms =
      (average_bound column (bound_op op) limit (nil_of_append (summed_faults scope column) (number_faults limit) none).1, tt)
  conjunct_bound (conjuncts.AvgBetween column low high) none terms =
      let ends = nil_of_append (number_faults low) (number_faults high) (nil_of_append (summed_faults scope column) (number_faults low ++ number_faults high) none).1 in
      (average_bound column ops.Le high ends.1, (average_bound column ops.Ge low ends.0, tt))

  conjuncts_bound : (number : ℕ) (written : List Conjunct) → conjuncts_faults scope written ≡ [] → terms_faults number written ≡ [] → AllByRecursion IsBoundConjunct (bound_conjuncts scope written)
  conjuncts_bound number [] none terms = tt
  conjuncts_bound number (conjunct ∷ later) none terms =
      let both = nil_of_append (conjunct_faults scope conjunct) (conjuncts_faults scope later) none in
      let sizes = nil_of_append (number_of_terms number (written_terms conjunct)) (terms_faults (number + places_of conjunct) later) terms in
      all_append IsBoundConjunct (bound_conjunct scope conjunct) (bound_conjuncts scope later)
      (conjunct_bound conjunct both.0 (few number (written_terms conjunct) sizes.0))
      (conjuncts_bound (number + places_of conjunct) later both.1 sizes.1)

  goal_bound : (goal : Option Goal) → goal_faults scope goal ≡ [] → parts_faults goal ≡ [] → IfSome (bound_goal scope goal) (λ (bound : BoundGoal). AreBoundTerms bound.terms)
  goal_bound None none parts = tt
  goal_bound (Some goal) none parts =
      let scale = sum_scale scope goal.parts in (
        omega (arith, few_terms scope small scale false goal.parts, few 0 (length goal.parts) parts),
        terms_bound scope small scale false goal.parts (sum_small scope small goal.parts none) none,
      )

  filter_bound : (filter : Option Pred) → filter_faults scope filter ≡ [] → is_bound (bound_filter scope filter) ≡ true
  filter_bound None none = all_bound
  filter_bound (Some pred) none = kept scope small pred none

-- ---- rows of a linear program

rows_two : (op : Op) → rows_for op ≤ 2
rows_two ops.Le = lit≤ tt
rows_two ops.Lt = lit≤ tt
rows_two ops.Ge = lit≤ tt
rows_two ops.Gt = lit≤ tt
rows_two ops.Eq = lit≤ tt
rows_two ops.Between = lit≤ tt

rows_append : (xs ys : List BoundConjunct) → rows_of (xs ++ ys) ≡ rows_of xs + rows_of ys
rows_append [] ys = omega arith
rows_append (x ∷ xs) ys = omega (arith, rows_append xs ys)

rows_conjunct : (scope : Scope) (conjunct : Conjunct) → rows_of (bound_conjunct scope conjunct) ≤ 2
rows_conjunct scope (conjuncts.Compare left op right) = omega (arith, rows_two (bound_op op))
rows_conjunct scope (conjuncts.Between sum low high) = lit≤ tt
rows_conjunct scope (conjuncts.Avg column op limit) = omega (arith, rows_two (bound_op op))
rows_conjunct scope (conjuncts.AvgBetween column low high) = lit≤ tt

rows_all : (scope : Scope) (written : List Conjunct) → rows_of (bound_conjuncts scope written) ≤ 2 * length written
rows_all scope [] = lit≤ tt
rows_all scope (conjunct ∷ later) =
    omega (arith, rows_append (bound_conjunct scope conjunct) (bound_conjuncts scope later), rows_conjunct scope conjunct, rows_all scope later)

-- ---- the whole query

pub bound_is_sound : (rows copies : Scope) (query : Query) → HasSmallScales rows → HasSmallScales copies → checked_faults rows copies query ≡ [] → IsSound (bound_in rows copies query)
bound_is_sound rows copies query rows_small copies_small none =
    let good = has_no_fault rows copies query none in
    record {
      filter = filter_bound rows rows_small query.filter good.filter;
      conjuncts = conjuncts_bound copies copies_small 1 query.conjuncts good.conjuncts good.terms;
      few_rows = omega (arith, rows_all copies query.conjuncts, few_conjuncts query.conjuncts good.number);
      goal = goal_bound copies copies_small query.goal good.goal good.parts;
      few_copies = few_copies (row_bound_of query.repeat query.conjuncts) good.bound;
      repeat = within_repeat query.repeat query.conjuncts;
      reason = some_reason copies query.repeat query.conjuncts (row_bound_of query.repeat query.conjuncts) refl good.bound;
      budget = some_budget query.budget good.budget;
    }

-- ---- what a bound query keeps

to_reason : (repeat : Option ℕ) (conjuncts : List BoundConjunct) (most : ℕ) → HasReason repeat conjuncts most → IsReason repeat conjuncts most
to_reason repeat conjuncts most (inl said) = inl (most - 1, said.0, omega (arith, said.1))
to_reason repeat conjuncts most (inr said) = inr (said.0, said.1, record { factor = said.2.factor; count = said.2.count; fails = said.2.fails })

pub sizes_of : (parts : BoundParts) → IsSound parts → AreBoundParts parts.filter parts.conjuncts parts.goal
sizes_of parts sound = record { filter = sound.filter; conjuncts = sound.conjuncts; few_rows = sound.few_rows; goal = sound.goal }

pub copies_of : (parts : BoundParts) → IsSound parts → IsRowBound parts.repeat parts.row_bound parts.conjuncts
copies_of parts sound = record {
  few_copies = sound.few_copies;
  repeat = sound.repeat;
  reason = ∣ to_reason parts.repeat parts.conjuncts parts.row_bound sound.reason ∣₁;
}
