-- Which rows the parts of a bound query fit, and how large its numbers are.
use Rattle.std.specs.Prelude.{◌≡◌, ℕ, zero, suc, ◌+◌, ◌*ℤ◌, ◌^◌, ◌<◌, ◌≤◌, Bool, true, false, not, ◌&&◌, ◌||◌, IsTrue, if◌then◌else◌, List, [], ◌∷◌, map, length, ℤ, pos, Option, None, Some, IfSome, Contains, ◌⊎◌}
use Rattle.std.specs.Bool.{nat_le}
use Rattle.std.specs.Int.RustNames.{unsigned_abs}
use Rattle.std.specs.List.{AllByRecursion, AllByRecursion-prop}
use Rattle.std.specs.Coded.{×_prop, Unit-prop, le_prop}
use Rattle.std.proofs.Props.{props}
use Rattle.schema_types.specs.declared.Lit.{Lit}
use Rattle.schema_types.specs.declared.Lit.TheVariants as lits
use Rattle.table_schema.specs.declared.cells.Cell.{Cell}
use Rattle.table_schema.specs.declared.cells.Cell.TheVariants as cells
use Rattle.package_query.specs.Query.{Holds}
use Rattle.bound_query.specs.Rows.{all_true}
use Rattle.bound_query.specs.Terms.{compared, number_in}
use Rattle.bound_query.specs.declared.conditions.RowRight.{RowRight}
use Rattle.bound_query.specs.declared.conditions.RowRight.TheVariants as rights
use Rattle.bound_query.specs.declared.conditions.RowPred.{RowPred}
use Rattle.bound_query.specs.declared.conditions.RowPred.TheOpen.{RowPred-F}
use Rattle.bound_query.specs.declared.conditions.RowPred.TheFolds.{fold-RowPred}
use Rattle.bound_query.specs.declared.conditions.RowPred.TheVariants as preds
use Rattle.bound_query.specs.declared.queries.BoundAgg.{BoundAgg}
use Rattle.bound_query.specs.declared.queries.BoundAgg.TheVariants.{Count, Sum}
use Rattle.bound_query.specs.declared.queries.BoundTerm.{BoundTerm}
use Rattle.bound_query.specs.declared.queries.BoundConjunct.{BoundConjunct}
use Rattle.bound_query.specs.declared.queries.BoundGoal.{BoundGoal}
use Rattle.bound_query.specs.declared.queries.Op.{Op}
use Rattle.bound_query.specs.declared.queries.Op.TheVariants as ops

-- ---- numbers of conditions

-- the greatest scale, and the most units of a number of a statement
abbrev pub most_scale : ℕ
most_scale = 6

abbrev pub most_units : ℕ
most_units = 10 ^ 12

-- a text, or a number that is neither too fine nor out of range
abbrev pub is_bound_lit : Lit → Bool
is_bound_lit (lits.Num scaled) =
    nat_le scaled.scale most_scale && nat_le (unsigned_abs scaled.mant) most_units
is_bound_lit (lits.Text bytes) = true

abbrev pub are_bound_lits : List Lit → Bool
are_bound_lits [] = true
are_bound_lits (lit ∷ list) = is_bound_lit lit && are_bound_lits list

abbrev pub is_bound_right : RowRight → Bool
is_bound_right (rights.Lit lit) = is_bound_lit lit
is_bound_right (rights.Column column scale) = nat_le scale most_scale

abbrev pub bound_parts : RowPred-F Bool → Bool
bound_parts RowPred-F.All = true
bound_parts (RowPred-F.Or parts) = all_true parts
bound_parts (RowPred-F.And parts) = all_true parts
bound_parts (RowPred-F.Not denied) = denied
bound_parts (RowPred-F.Compare column scale op right) =
    nat_le scale most_scale && is_bound_right right
bound_parts (RowPred-F.Between column scale low high) =
    nat_le scale most_scale && (is_bound_lit low && is_bound_lit high)
bound_parts (RowPred-F.In column scale list) = nat_le scale most_scale && are_bound_lits list

-- each scale of the condition is at most 6, and each of its literals a text or a number in range
abbrev pub is_bound : RowPred → Bool
is_bound pred = fold-RowPred Bool bound_parts pred

abbrev pub all_are_bound : List RowPred → Bool
all_are_bound parts = all_true (map is_bound parts)

-- ---- rows of conditions

abbrev pub is_text : Cell → Bool
is_text (cells.Num units) = false
is_text (cells.Text bytes) = true

abbrev pub is_text_lit : Lit → Bool
is_text_lit (lits.Num scaled) = false
is_text_lit (lits.Text bytes) = true

-- both are texts, or neither is
abbrev pub alike : Bool → Bool → Bool
alike one other = if one then other else not other

-- the row has the column, and its cell is a text or a number, as is asked
abbrev pub column_is : Bool → List Cell → ℕ → Bool
column_is textual [] column = false
column_is textual (cell ∷ cells) zero = alike textual (is_text cell)
column_is textual (cell ∷ cells) (suc column) = column_is textual cells column

abbrev pub lits_are : Bool → List Lit → Bool
lits_are textual [] = true
lits_are textual (lit ∷ list) = alike textual (is_text_lit lit) && lits_are textual list

abbrev pub right_is : Bool → List Cell → RowRight → Bool
right_is textual row (rights.Lit lit) = alike textual (is_text_lit lit)
right_is textual row (rights.Column column scale) = column_is textual row column

-- the row has the column, and what it is compared with is of its sort
abbrev pub suits : List Cell → ℕ → List Lit → Bool
suits row column list = (column_is true row column && lits_are true list)
    || (column_is false row column && lits_are false list)

abbrev pub suits_right : List Cell → ℕ → RowRight → Bool
suits_right row column right = (column_is true row column && right_is true row right)
    || (column_is false row column && right_is false row right)

abbrev pub fitting_parts : List Cell → RowPred-F Bool → Bool
fitting_parts row RowPred-F.All = true
fitting_parts row (RowPred-F.Or parts) = all_true parts
fitting_parts row (RowPred-F.And parts) = all_true parts
fitting_parts row (RowPred-F.Not denied) = denied
fitting_parts row (RowPred-F.Compare column scale op right) = suits_right row column right
fitting_parts row (RowPred-F.Between column scale low high) =
    suits row column (low ∷ high ∷ [])
fitting_parts row (RowPred-F.In column scale list) = suits row column list

-- the row has each column of the condition, and no number is compared with a text
abbrev pub fits : List Cell → RowPred → Bool
fits row pred = fold-RowPred Bool (fitting_parts row) pred

abbrev pub all_fit : List Cell → List RowPred → Bool
all_fit row parts = all_true (map (fits row) parts)

-- ---- sizes of terms

-- its condition is bound
abbrev pub agg_is_bound : BoundAgg → Bool
agg_is_bound (Count pred) = is_bound pred
agg_is_bound (Sum column pred) = is_bound pred

-- the row has the column, and its cell is a number in range
abbrev pub is_summable : List Cell → ℕ → Bool
is_summable row column =
    column_is false row column && nat_le (unsigned_abs (number_in column row)) most_units

-- the row fits its condition, and has a number in range in a column that it sums
abbrev pub agg_fits : List Cell → BoundAgg → Bool
agg_fits row (Count pred) = fits row pred
agg_fits row (Sum column pred) = is_summable row column && fits row pred

pub record IsBoundTerm (term : BoundTerm) : Type 0 where
  pub agg : IsTrue (agg_is_bound term.agg)
  pub factor : unsigned_abs term.factor ≤ 10 ^ 12
  pub minus : unsigned_abs term.minus ≤ 10 ^ 18

abbrev pub AreBoundTerms : List BoundTerm → Type 0
AreBoundTerms terms = (length terms ≤ 64) × AllByRecursion IsBoundTerm terms

pub record IsBoundConjunct (conjunct : BoundConjunct) : Type 0 where
  pub terms : AreBoundTerms conjunct.terms
  pub high : unsigned_abs conjunct.high ≤ 10 ^ 20
  pub low : unsigned_abs conjunct.low ≤ 10 ^ 20

-- how many rows of a linear program keep the comparison
abbrev pub rows_for : Op → ℕ
rows_for ops.Eq = 2
rows_for ops.Between = 2
rows_for op = 1

abbrev pub rows_of : List BoundConjunct → ℕ
rows_of [] = 0
rows_of (conjunct ∷ conjuncts) = rows_for conjunct.op + rows_of conjuncts

-- ---- how often a row can occur

-- the count of all copies, times a factor: a power of ten if the sum has a scale, and below 0
-- if the count is compared from the right
abbrev pub count_times : ℤ → BoundTerm
count_times factor = record { factor = factor; agg = Count preds.All; minus = pos 0 }

-- its one term is such a count, and no package of more copies keeps it
pub record KeepsCount (most : ℕ) (conjunct : BoundConjunct) : Type 0 where
  pub factor : ℤ
  pub count : conjunct.terms ≡ count_times factor ∷ []
  pub fails : (copies : ℕ) → most < copies
      → ¬ Holds (compared conjunct.op conjunct.low conjunct.high) (factor *ℤ pos copies)

-- REPEAT says so, or one of the conjuncts
abbrev pub HasReason : Option ℕ → List BoundConjunct → ℕ → Type 0
HasReason repeat conjuncts most = ((k : ℕ) × (repeat ≡ Some k) × (most ≡ k + 1))
    ⊎ ((conjunct : BoundConjunct) × Contains conjuncts conjunct × KeepsCount most conjunct)

-- ---- the whole query

abbrev pub IsBoundGoal : Option BoundGoal → Type 0
IsBoundGoal goal = IfSome goal (λ (goal : BoundGoal). AreBoundTerms goal.terms)

-- sizes within which every sum fits
pub record AreBoundParts (passes : RowPred) (constraints : List BoundConjunct)
    (best : Option BoundGoal) : Type 0 where
  pub filter : IsTrue (is_bound passes)
  pub conjuncts : AllByRecursion IsBoundConjunct constraints
  pub few_rows : rows_of constraints ≤ 62
  pub goal : IsBoundGoal best

-- a package that meets the query has at most so many copies of a row, and few at that
pub record IsRowBound (again : Option ℕ) (most : ℕ) (constraints : List BoundConjunct)
    : Type 0 where
  pub few_copies : most ≤ 1000000
  pub repeat : IfSome again (λ (k : ℕ). most ≤ k + 1)
  pub reason : ∥ HasReason again constraints most ∥₁

-- the row fits the terms
abbrev pub fits_terms : List Cell → List BoundTerm → Bool
fits_terms row [] = true
fits_terms row (term ∷ terms) = agg_fits row term.agg && fits_terms row terms

abbrev pub fits_conjuncts : List Cell → List BoundConjunct → Bool
fits_conjuncts row [] = true
fits_conjuncts row (conjunct ∷ conjuncts) =
    fits_terms row conjunct.terms && fits_conjuncts row conjuncts

abbrev pub fits_goal : List Cell → Option BoundGoal → Bool
fits_goal row None = true
fits_goal row (Some goal) = fits_terms row goal.terms

-- ---- at most one proof of each

IsBoundTerm-prop : (term : BoundTerm) → IsProp (IsBoundTerm term)
IsBoundTerm-prop term = hlevel props

AreBoundTerms-prop : (terms : List BoundTerm) → IsProp (AreBoundTerms terms)
AreBoundTerms-prop terms = ×_prop le_prop (AllByRecursion-prop IsBoundTerm IsBoundTerm-prop terms)

IsBoundConjunct-prop : (conjunct : BoundConjunct) → IsProp (IsBoundConjunct conjunct)
IsBoundConjunct-prop conjunct = hlevel (props, AreBoundTerms-prop)

IsBoundGoal-prop : (goal : Option BoundGoal) → IsProp (IsBoundGoal goal)
IsBoundGoal-prop None = Unit-prop
IsBoundGoal-prop (Some goal) = AreBoundTerms-prop goal.terms

AreBoundConjuncts-prop : (conjuncts : List BoundConjunct)
    → IsProp (AllByRecursion IsBoundConjunct conjuncts)
AreBoundConjuncts-prop conjuncts =
    AllByRecursion-prop IsBoundConjunct IsBoundConjunct-prop conjuncts

pub AreBoundParts-prop : (passes : RowPred) (constraints : List BoundConjunct)
    (best : Option BoundGoal) → IsProp (AreBoundParts passes constraints best)
AreBoundParts-prop passes constraints best =
    hlevel (props, AreBoundConjuncts-prop, IsBoundGoal-prop)

pub IsRowBound-prop : (again : Option ℕ) (most : ℕ) (constraints : List BoundConjunct)
    → IsProp (IsRowBound again most constraints)
IsRowBound-prop again most constraints = hlevel props
