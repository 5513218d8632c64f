-- What the terms of a bound query add up, and what its sums are compared with.
use Rattle.std.specs.Prelude.{ℕ, List, map, ℤ, pos, ◌-ℤ◌, ◌*ℤ◌, Option, None, Some, if◌then◌else◌}
use Rattle.package_query.specs.Query.{Conjunct, Goal}
use Rattle.package_query.specs.declared.comparison.Comparison.{Comparison}
use Rattle.package_query.specs.declared.comparison.Comparison.TheVariants.{AtMost, Below, AtLeast, Above, Equals, Between}
use Rattle.table_schema.specs.declared.cells.Cell.{Cell}
use Rattle.table_schema.specs.declared.cells.Cell.TheVariants as cells
use Rattle.bound_query.specs.Rows.{cell_at, true_on}
use Rattle.bound_query.specs.declared.conditions.RowPred.{RowPred}
use Rattle.bound_query.specs.declared.queries.BoundAgg.{BoundAgg}
use Rattle.bound_query.specs.declared.queries.BoundAgg.TheVariants.{Count, Sum}
use Rattle.bound_query.specs.declared.queries.BoundTerm.{BoundTerm}
use Rattle.bound_query.specs.declared.queries.BoundConjunct.{BoundConjunct}
use Rattle.bound_query.specs.declared.queries.BoundGoal.{BoundGoal}
use Rattle.bound_query.specs.declared.queries.Op.{Op}
use Rattle.bound_query.specs.declared.queries.Op.TheVariants as ops

-- the units of a cell that is a number
abbrev pub units_of : Cell → ℤ
units_of (cells.Num units) = units
units_of (cells.Text bytes) = pos 0

-- the number that a row has in a column
abbrev pub number_in : ℕ → List Cell → ℤ
number_in column row = units_of (cell_at row column)

-- the rows that an aggregate takes, and the value that it adds up: 1 for each copy, or its number
abbrev pub taken_by : BoundAgg → RowPred
taken_by (Count pred) = pred
taken_by (Sum column pred) = pred

abbrev pub measured : BoundAgg → List Cell → ℤ
measured (Count pred) row = pos 1
measured (Sum column pred) row = number_in column row

-- what a term gives for one copy of a row: factor times value, less minus, if the row meets its
-- condition, and 0 for any other row
abbrev pub term_value : BoundTerm → List Cell → ℤ
term_value term row = if true_on (taken_by term.agg) row
    then (term.factor *ℤ measured term.agg row) -ℤ term.minus else pos 0

abbrev pub compared : Op → ℤ → ℤ → Comparison
compared ops.Le low high = AtMost high
compared ops.Lt low high = Below high
compared ops.Ge low high = AtLeast high
compared ops.Gt low high = Above high
compared ops.Eq low high = Equals high
compared ops.Between low high = Between low high

abbrev pub conjunct_of : BoundConjunct → Conjunct (List Cell)
conjunct_of conjunct = record {
  terms = map term_value conjunct.terms;
  comparison = compared conjunct.op conjunct.low conjunct.high;
}

abbrev pub goal_of : Option BoundGoal → Option (Goal (List Cell))
goal_of None = None
goal_of (Some goal) =
    Some (record { maximize = goal.maximize; terms = map term_value goal.terms })
