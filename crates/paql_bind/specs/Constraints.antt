-- Constraints and goals: their faults, and what they are bound to.
use Rattle.std.specs.Prelude.{ℕ, max, true, false, List, [], ◌∷◌, ◌++◌, flat_map, pos, ◌-ℤ◌, Option, Some, None}
use Rattle.pq_base.specs.declared.scaled.Scaled.{Scaled}
use Rattle.paql_ast.specs.declared.conditions.ColumnName.{ColumnName}
use Rattle.paql_ast.specs.declared.conditions.CmpOp.{CmpOp}
use Rattle.paql_ast.specs.declared.conditions.CmpOp.TheVariants as written
use Rattle.paql_ast.specs.declared.aggregates.SumItem.{SumItem}
use Rattle.paql_ast.specs.declared.queries.Conjunct.{Conjunct}
use Rattle.paql_ast.specs.declared.queries.Conjunct.TheVariants as conjuncts
use Rattle.paql_ast.specs.declared.queries.Goal.{Goal}
use Rattle.bound_query.specs.declared.conditions.RowPred.TheVariants as preds
use Rattle.bound_query.specs.declared.queries.BoundAgg.TheVariants as aggs
use Rattle.bound_query.specs.declared.queries.BoundTerm.{BoundTerm}
use Rattle.bound_query.specs.declared.queries.BoundConjunct.{BoundConjunct}
use Rattle.bound_query.specs.declared.queries.BoundGoal.{BoundGoal}
use Rattle.bound_query.specs.declared.queries.Op.{Op}
use Rattle.bound_query.specs.declared.queries.Op.TheVariants as ops
use Rattle.paql_bind.specs.Names.{Scope, summed_faults, number_faults, bound_place, bound_scale}
use Rattle.paql_bind.specs.Sums.{sum_faults, sum_scale, in_units, scaled_units, bound_terms, sum_number}
use Rattle.paql_bind.specs.declared.faults.Refusal.{Refusal}

-- ---- faults

abbrev pub conjunct_faults : Scope → Conjunct → List Refusal
conjunct_faults scope (conjuncts.Compare left op right) =
    sum_faults scope left ++ sum_faults scope right
conjunct_faults scope (conjuncts.Between sum low high) =
    sum_faults scope sum ++ (number_faults low ++ number_faults high)
conjunct_faults scope (conjuncts.Avg column op limit) =
    summed_faults scope column ++ number_faults limit
conjunct_faults scope (conjuncts.AvgBetween column low high) =
    summed_faults scope column ++ (number_faults low ++ number_faults high)

abbrev pub conjuncts_faults : Scope → List Conjunct → List Refusal
conjuncts_faults scope conjuncts = flat_map (conjunct_faults scope) conjuncts

abbrev pub goal_faults : Scope → Option Goal → List Refusal
goal_faults scope None = []
goal_faults scope (Some goal) = sum_faults scope goal.parts

-- ---- bound constraints

-- `<>` compares no sums: the grammar has none
abbrev pub bound_op : CmpOp → Op
bound_op written.Eq = ops.Eq
bound_op written.Ne = ops.Eq
bound_op written.Lt = ops.Lt
bound_op written.Le = ops.Le
bound_op written.Gt = ops.Gt
bound_op written.Ge = ops.Ge

-- the aggregates of the left less those of the right, and the numbers of the right less those of
-- the left
abbrev pub sums_at : ℕ → Scope → List SumItem → Op → List SumItem → BoundConjunct
sums_at scale scope left op right = record {
  terms = bound_terms scope scale false left ++ bound_terms scope scale true right;
  op = op;
  high = sum_number scale right -ℤ sum_number scale left;
  low = pos 0;
  scale = scale;
}

abbrev pub bound_sums : Scope → List SumItem → Op → List SumItem → BoundConjunct
bound_sums scope left op right =
    sums_at (max (sum_scale scope left) (sum_scale scope right)) scope left op right

-- the numbers of the sum go to both ends
abbrev pub range_at : ℕ → Scope → List SumItem → Scaled → Scaled → BoundConjunct
range_at scale scope sum low high = record {
  terms = bound_terms scope scale false sum;
  op = ops.Between;
  high = scaled_units scale high -ℤ sum_number scale sum;
  low = scaled_units scale low -ℤ sum_number scale sum;
  scale = scale;
}

abbrev pub bound_range : Scope → List SumItem → Scaled → Scaled → BoundConjunct
bound_range scope sum low high =
    range_at (max (sum_scale scope sum) (max low.scale high.scale)) scope sum low high

-- the sum of value less limit, for each copy, compared with 0
abbrev pub average_term : Scope → ℕ → ColumnName → Scaled → BoundTerm
average_term scope scale column limit = record {
  factor = in_units scale (bound_scale scope column) (pos 1);
  agg = aggs.Sum (bound_place scope column) preds.All;
  minus = scaled_units scale limit;
}

abbrev pub average_at : ℕ → Scope → ColumnName → Op → Scaled → BoundConjunct
average_at scale scope column op limit = record {
  terms = average_term scope scale column limit ∷ [];
  op = op;
  high = pos 0;
  low = pos 0;
  scale = scale;
}

abbrev pub bound_average : Scope → ColumnName → Op → Scaled → BoundConjunct
bound_average scope column op limit =
    average_at (max (bound_scale scope column) limit.scale) scope column op limit

-- AVG .. BETWEEN is two constraints, each with the scale of its own limit
abbrev pub bound_conjunct : Scope → Conjunct → List BoundConjunct
bound_conjunct scope (conjuncts.Compare left op right) =
    bound_sums scope left (bound_op op) right ∷ []
bound_conjunct scope (conjuncts.Between sum low high) = bound_range scope sum low high ∷ []
bound_conjunct scope (conjuncts.Avg column op limit) =
    bound_average scope column (bound_op op) limit ∷ []
bound_conjunct scope (conjuncts.AvgBetween column low high) =
    bound_average scope column ops.Le high ∷ (bound_average scope column ops.Ge low ∷ [])

abbrev pub bound_conjuncts : Scope → List Conjunct → List BoundConjunct
bound_conjuncts scope conjuncts = flat_map (bound_conjunct scope) conjuncts

abbrev pub parts_at : ℕ → Scope → Goal → BoundGoal
parts_at scale scope goal = record {
  terms = bound_terms scope scale false goal.parts;
  maximize = goal.maximize;
  scale = scale;
}

abbrev pub goal_at : Scope → Goal → BoundGoal
goal_at scope goal = parts_at (sum_scale scope goal.parts) scope goal

abbrev pub bound_goal : Scope → Option Goal → Option BoundGoal
bound_goal scope None = None
bound_goal scope (Some goal) = Some (goal_at scope goal)
