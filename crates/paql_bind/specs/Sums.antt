-- Aggregates and sums: their faults, their scales, and the terms and numbers of a bound sum.
use Rattle.std.specs.Prelude.{ℕ, ◌-◌, ◌^◌, max, Bool, not, ◌&&◌, ◌==◌, if◌then◌else◌, List, [], ◌∷◌, ◌++◌, flat_map, ℤ, pos, ◌+ℤ◌, ◌*ℤ◌, Option, Some, None}
use Rattle.std.specs.Bool.{nat_le}
use Rattle.std.specs.Int.RustNames.{unsigned_abs}
use Rattle.std.specs.Str.{bytes_eq}
use lib.IntN.{neg_ℤ}
use Rattle.pq_base.specs.declared.scaled.Scaled.{Scaled}
use Rattle.paql_ast.specs.declared.conditions.Pred.{Pred}
use Rattle.paql_ast.specs.declared.aggregates.Plain.{Plain}
use Rattle.paql_ast.specs.declared.aggregates.Plain.TheVariants as plains
use Rattle.paql_ast.specs.declared.aggregates.Agg.{Agg}
use Rattle.paql_ast.specs.declared.aggregates.Term.{Term}
use Rattle.paql_ast.specs.declared.aggregates.Term.TheVariants as terms
use Rattle.paql_ast.specs.declared.aggregates.SumItem.{SumItem}
use Rattle.bound_query.specs.declared.conditions.RowPred.{RowPred}
use Rattle.bound_query.specs.declared.conditions.RowPred.TheVariants as preds
use Rattle.bound_query.specs.declared.queries.BoundAgg.{BoundAgg}
use Rattle.bound_query.specs.declared.queries.BoundAgg.TheVariants as aggs
use Rattle.bound_query.specs.declared.queries.BoundTerm.{BoundTerm}
use Rattle.paql_bind.specs.Names.{Scope, summed_faults, number_faults, bound_place, bound_scale}
use Rattle.paql_bind.specs.Conditions.{pred_faults, bound_pred}
use Rattle.paql_bind.specs.declared.limits.TheConstants.{MAX_FACTOR}
use Rattle.paql_bind.specs.declared.faults.Refusal.{Refusal}
use Rattle.paql_bind.specs.declared.faults.Refusal.TheVariants.{NoTable, Factor}

-- ---- faults

-- the name after a FROM, or in a COUNT, is that of the scope
abbrev pub name_faults : Scope → List ℕ → List Refusal
name_faults scope name = if bytes_eq name scope.prefix then [] else NoTable name ∷ []

abbrev pub counted_faults : Scope → Option (List ℕ) → List Refusal
counted_faults scope None = []
counted_faults scope (Some name) = name_faults scope name

abbrev pub plain_faults : Scope → Plain → List Refusal
plain_faults scope (plains.Count name) = counted_faults scope name
plain_faults scope (plains.Sum column) = summed_faults scope column

abbrev pub only_faults : Scope → Option (List ℕ × Pred) → List Refusal
only_faults scope None = []
only_faults scope (Some only) = name_faults scope only.0 ++ pred_faults scope only.1

abbrev pub agg_faults : Scope → Agg → List Refusal
agg_faults scope agg = plain_faults scope agg.plain ++ only_faults scope agg.only

-- a factor is whole, and at most 1,000,000
abbrev pub is_factor : Scaled → Bool
is_factor number = (number.scale == 0) && nat_le (unsigned_abs number.mant) MAX_FACTOR

abbrev pub whole_faults : Scaled → List Refusal
whole_faults number = if is_factor number then [] else Factor ∷ []

abbrev pub factor_faults : Option Scaled → List Refusal
factor_faults None = []
factor_faults (Some number) = number_faults number ++ whole_faults number

abbrev pub term_faults : Scope → Term → List Refusal
term_faults scope (terms.Number number) = number_faults number
term_faults scope (terms.Agg factor agg) = factor_faults factor ++ agg_faults scope agg

abbrev pub item_faults : Scope → SumItem → List Refusal
item_faults scope item = term_faults scope item.term

abbrev pub sum_faults : Scope → List SumItem → List Refusal
sum_faults scope items = flat_map (item_faults scope) items

-- ---- scales: those of columns that are summed, and of numbers, but not of conditions

abbrev pub plain_scale : Scope → Plain → ℕ
plain_scale scope (plains.Count name) = 0
plain_scale scope (plains.Sum column) = bound_scale scope column

abbrev pub term_scale : Scope → Term → ℕ
term_scale scope (terms.Number number) = number.scale
term_scale scope (terms.Agg factor agg) = plain_scale scope agg.plain

-- the greatest scale of a sum, 0 if it has none
abbrev pub sum_scale : Scope → List SumItem → ℕ
sum_scale scope [] = 0
sum_scale scope (item ∷ items) = max (term_scale scope item.term) (sum_scale scope items)

-- ---- bound terms

abbrev pub bound_only : Scope → Option (List ℕ × Pred) → RowPred
bound_only scope None = preds.All
bound_only scope (Some only) = bound_pred scope only.1

abbrev pub bound_plain : Scope → Plain → RowPred → BoundAgg
bound_plain scope (plains.Count name) pred = aggs.Count pred
bound_plain scope (plains.Sum column) pred = aggs.Sum (bound_place scope column) pred

abbrev pub bound_agg : Scope → Agg → BoundAgg
bound_agg scope agg = bound_plain scope agg.plain (bound_only scope agg.only)

-- a number of units of 10^-places in units of 10^-scale
abbrev pub in_units : ℕ → ℕ → ℤ → ℤ
in_units scale places number = number *ℤ pos (10 ^ (scale - places))

abbrev pub with_sign : Bool → ℤ → ℤ
with_sign minus number = if minus then neg_ℤ number else number

abbrev pub factor_of : Option Scaled → ℤ
factor_of None = pos 1
factor_of (Some number) = number.mant

-- the sum's aggregates, in units of the scale; with `denied` each has the other sign
abbrev pub opposite : Bool → Bool → Bool
opposite denied minus = if denied then not minus else minus

abbrev pub bound_factor : ℕ → ℕ → Bool → Option Scaled → ℤ
bound_factor scale places minus factor = with_sign minus (in_units scale places (factor_of factor))

abbrev pub bound_term : Scope → ℕ → Bool → Option Scaled → Agg → BoundTerm
bound_term scope scale minus factor agg = record {
  factor = bound_factor scale (plain_scale scope agg.plain) minus factor;
  agg = bound_agg scope agg;
  minus = pos 0;
}

abbrev pub aggregates_of : Scope → ℕ → Bool → Term → List BoundTerm
aggregates_of scope scale minus (terms.Number number) = []
aggregates_of scope scale minus (terms.Agg factor agg) =
    bound_term scope scale minus factor agg ∷ []

abbrev pub item_terms : Scope → ℕ → Bool → SumItem → List BoundTerm
item_terms scope scale denied item =
    aggregates_of scope scale (opposite denied item.minus) item.term

abbrev pub bound_terms : Scope → ℕ → Bool → List SumItem → List BoundTerm
bound_terms scope scale denied items = flat_map (item_terms scope scale denied) items

-- the faults of a term that is a number
abbrev pub number_faults_of : Term → List Refusal
number_faults_of (terms.Number number) = number_faults number
number_faults_of (terms.Agg factor agg) = []

-- the sum's numbers, in units of the scale
abbrev pub scaled_units : ℕ → Scaled → ℤ
scaled_units scale number = in_units scale number.scale number.mant

abbrev pub term_number : ℕ → Term → ℤ
term_number scale (terms.Number number) = scaled_units scale number
term_number scale (terms.Agg factor agg) = pos 0

abbrev pub item_number : ℕ → SumItem → ℤ
item_number scale item = with_sign item.minus (term_number scale item.term)

abbrev pub sum_number : ℕ → List SumItem → ℤ
sum_number scale [] = pos 0
sum_number scale (item ∷ items) = item_number scale item +ℤ sum_number scale items
