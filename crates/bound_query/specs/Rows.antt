-- Which rows meet a condition.
use Rattle.std.specs.Prelude.{ℕ, ◌^◌, Bool, true, false, not, ◌&&◌, ◌||◌, List, [], ◌∷◌, ℤ, pos, ◌*ℤ◌, slice_index_or}
use Rattle.std.specs.Ordering.{int_cmp, nat_cmp}
use Rattle.std.specs.declared.cmp.Ordering.{Ordering}
use Rattle.std.specs.declared.cmp.Ordering.TheVariants.{Less, Equal, Greater}
use Rattle.std.specs.Cmp.Lexicographic.{slice_cmp}
use Rattle.schema_types.specs.declared.Lit.{Lit}
use Rattle.schema_types.specs.declared.Lit.TheVariants as lits
use Rattle.table_schema.specs.declared.cells.Cell.{Cell}
use Rattle.table_schema.specs.declared.cells.Cell.TheVariants as cells
use Rattle.paql_ast.specs.declared.conditions.CmpOp.{CmpOp}
use Rattle.paql_ast.specs.declared.conditions.CmpOp.TheVariants as ops
use Rattle.bound_query.specs.declared.conditions.RowRight.{RowRight}
use Rattle.bound_query.specs.declared.conditions.RowRight.TheVariants as rights
use Rattle.bound_query.specs.declared.conditions.RowPred.{RowPred}
use Rattle.bound_query.specs.declared.conditions.RowPred.TheOpen.{RowPred-F}
use Rattle.bound_query.specs.declared.conditions.RowPred.TheFolds.{fold-RowPred}

-- what is compared: mant / 10^scale, or a text
pub data Value : Type 0 where
  number : ℤ → ℕ → Value
  text : List ℕ → Value

-- numbers as numbers, whatever their scales; texts by their bytes; a number and a text are never
-- compared
abbrev pub order : Value → Value → Ordering
order (number mant scale) (number other places) =
    int_cmp (mant *ℤ pos (10 ^ places)) (other *ℤ pos (10 ^ scale))
order (text bytes) (text others) = slice_cmp nat_cmp bytes others
order one other = Equal

-- what an operator says of an order
abbrev pub allows : CmpOp → Ordering → Bool
allows ops.Eq Equal = true
allows ops.Eq way = false
allows ops.Ne Equal = false
allows ops.Ne way = true
allows ops.Lt Less = true
allows ops.Lt way = false
allows ops.Le Greater = false
allows ops.Le way = true
allows ops.Gt Greater = true
allows ops.Gt way = false
allows ops.Ge Less = false
allows ops.Ge way = true

abbrev pub compares : CmpOp → Value → Value → Bool
compares op one other = allows op (order one other)

abbrev pub cell_value : Cell → ℕ → Value
cell_value (cells.Num units) scale = number units scale
cell_value (cells.Text bytes) scale = text bytes

abbrev pub lit_value : Lit → Value
lit_value (lits.Num scaled) = number scaled.mant scaled.scale
lit_value (lits.Text bytes) = text bytes

-- what a row has in a column, and the same in a column of this scale
abbrev pub cell_at : List Cell → ℕ → Cell
cell_at row column = slice_index_or row column (cells.Num (pos 0))

abbrev pub value_at : List Cell → ℕ → ℕ → Value
value_at row column scale = cell_value (cell_at row column) scale

abbrev pub right_value : List Cell → RowRight → Value
right_value row (rights.Lit lit) = lit_value lit
right_value row (rights.Column column scale) = value_at row column scale

-- at least the one literal and at most the other
abbrev pub lies_between : Value → Lit → Lit → Bool
lies_between value low high =
    compares ops.Ge value (lit_value low) && compares ops.Le value (lit_value high)

-- the value is that of one of the literals
abbrev pub is_one_of : Value → List Lit → Bool
is_one_of value [] = false
is_one_of value (lit ∷ lits) = compares ops.Eq value (lit_value lit) || is_one_of value lits

-- some of the parts are true; all of them are
abbrev pub some_true : List Bool → Bool
some_true [] = false
some_true (part ∷ parts) = part || some_true parts

abbrev pub all_true : List Bool → Bool
all_true [] = true
all_true (part ∷ parts) = part && all_true parts

-- what a condition says of a row, given what its parts say
abbrev pub truth : List Cell → RowPred-F Bool → Bool
truth row RowPred-F.All = true
truth row (RowPred-F.Or parts) = some_true parts
truth row (RowPred-F.And parts) = all_true parts
truth row (RowPred-F.Not denied) = not denied
truth row (RowPred-F.Compare column scale op right) =
    compares op (value_at row column scale) (right_value row right)
truth row (RowPred-F.Between column scale low high) =
    lies_between (value_at row column scale) low high
truth row (RowPred-F.In column scale list) = is_one_of (value_at row column scale) list

-- the row meets the condition
abbrev pub true_of : List Cell → RowPred → Bool
true_of row pred = fold-RowPred Bool (truth row) pred

abbrev pub true_on : RowPred → List Cell → Bool
true_on pred row = true_of row pred
