-- How often a row can occur in a package that meets a query, as far as REPEAT and counts say it.
use Rattle.std.specs.Prelude.{ℕ, ◌+◌, ◌-◌, ◌/◌, ◌^◌, min, Bool, true, false, List, [], ◌∷◌, ℤ, pos, negsuc, Option, Some, None}
use Rattle.std.specs.Int.{div_ceil}
use Rattle.pq_base.specs.declared.scaled.Scaled.{Scaled}
use Rattle.paql_ast.specs.declared.conditions.CmpOp.{CmpOp}
use Rattle.paql_ast.specs.declared.conditions.CmpOp.TheVariants as ops
use Rattle.paql_ast.specs.declared.conditions.Pred.{Pred}
use Rattle.paql_ast.specs.declared.aggregates.Plain.{Plain}
use Rattle.paql_ast.specs.declared.aggregates.Plain.TheVariants as plains
use Rattle.paql_ast.specs.declared.aggregates.Agg.{Agg}
use Rattle.paql_ast.specs.declared.aggregates.Term.{Term}
use Rattle.paql_ast.specs.declared.aggregates.Term.TheVariants as terms
use Rattle.paql_ast.specs.declared.aggregates.SumItem.{SumItem}
use Rattle.paql_ast.specs.declared.queries.Conjunct.{Conjunct}
use Rattle.paql_ast.specs.declared.queries.Conjunct.TheVariants as conjuncts
use Rattle.paql_bind.specs.Sums.{with_sign}
use Rattle.paql_bind.specs.declared.row_bounds.Side.{Side}
use Rattle.paql_bind.specs.declared.row_bounds.Side.TheVariants as sides

-- ---- which constraints bound the count of all copies

-- the count without a factor and without a condition
abbrev pub plain_side : Plain → Option (List ℕ × Pred) → Side
plain_side (plains.Count name) None = sides.Count
plain_side (plains.Count name) (Some only) = sides.Other
plain_side (plains.Sum column) only = sides.Other

abbrev pub agg_side : Bool → Option Scaled → Agg → Side
agg_side false None agg = plain_side agg.plain agg.only
agg_side false (Some factor) agg = sides.Other
agg_side true factor agg = sides.Other

-- a number may have a minus
abbrev pub term_side : Bool → Term → Side
term_side minus (terms.Number scaled) = sides.Number minus scaled
term_side minus (terms.Agg factor agg) = agg_side minus factor agg

-- what a sum of one term is
abbrev pub sum_side : List SumItem → Side
sum_side [] = sides.Other
sum_side (item ∷ []) = term_side item.minus item.term
sum_side (item ∷ (other ∷ items)) = sides.Other

-- ---- by how much

-- a negative number counts as 0
abbrev pub at_least_zero : ℤ → ℕ
at_least_zero (pos digits) = digits
at_least_zero (negsuc before) = 0

-- the floor of a number, and the greatest whole number below it, or 0 if there is none
abbrev pub floor_of : ℕ → ℕ → ℕ
floor_of digits scale = digits / 10 ^ scale

abbrev pub whole_below : ℕ → ℕ → ℕ
whole_below digits scale = div_ceil digits (10 ^ scale) - 1

-- what `count op number` bounds the count by
abbrev pub count_bound : CmpOp → ℕ → ℕ → Option ℕ
count_bound ops.Le digits scale = Some (floor_of digits scale)
count_bound ops.Eq digits scale = Some (floor_of digits scale)
count_bound ops.Lt digits scale = Some (whole_below digits scale)
count_bound ops.Ge digits scale = None
count_bound ops.Gt digits scale = None
count_bound ops.Ne digits scale = None

-- the comparison with its sides exchanged
abbrev pub mirrored : CmpOp → CmpOp
mirrored ops.Eq = ops.Eq
mirrored ops.Ne = ops.Ne
mirrored ops.Lt = ops.Gt
mirrored ops.Le = ops.Ge
mirrored ops.Gt = ops.Lt
mirrored ops.Ge = ops.Le

abbrev pub number_bound : CmpOp → Bool → Scaled → Option ℕ
number_bound op minus number =
    count_bound op (at_least_zero (with_sign minus number.mant)) number.scale

abbrev pub sides_bound : Side → CmpOp → Side → Option ℕ
sides_bound sides.Count op (sides.Number minus number) = number_bound op minus number
sides_bound sides.Count op sides.Count = None
sides_bound sides.Count op sides.Other = None
sides_bound (sides.Number minus number) op sides.Count = number_bound (mirrored op) minus number
sides_bound (sides.Number minus number) op (sides.Number other_minus other) = None
sides_bound (sides.Number minus number) op sides.Other = None
sides_bound sides.Other op right = None

-- BETWEEN bounds by its upper end
abbrev pub conjunct_bound : Conjunct → Option ℕ
conjunct_bound (conjuncts.Compare left op right) = sides_bound (sum_side left) op (sum_side right)
conjunct_bound (conjuncts.Between sum low high) =
    sides_bound (sum_side sum) ops.Le (sides.Number false high)
conjunct_bound (conjuncts.Avg column op limit) = None
conjunct_bound (conjuncts.AvgBetween column low high) = None

-- ---- the least bound, if there is one

abbrev pub least : Option ℕ → Option ℕ → Option ℕ
least None other = other
least (Some one) None = Some one
least (Some one) (Some other) = Some (min one other)

abbrev pub counts_bound : List Conjunct → Option ℕ
counts_bound [] = None
counts_bound (conjunct ∷ conjuncts) = least (conjunct_bound conjunct) (counts_bound conjuncts)

-- REPEAT k allows k + 1 copies
abbrev pub repeat_bound : Option ℕ → Option ℕ
repeat_bound None = None
repeat_bound (Some k) = Some (k + 1)

abbrev pub row_bound_of : Option ℕ → List Conjunct → Option ℕ
row_bound_of repeat conjuncts = least (repeat_bound repeat) (counts_bound conjuncts)
