-- Conditions on rows: their faults, and what they are bound to.
use Rattle.std.specs.Prelude.{Bool, List, [], ◌∷◌, ◌++◌, flat_map, Option, Some, None}
use Rattle.schema_types.specs.declared.Lit.{Lit}
use Rattle.schema_types.specs.declared.Lit.TheVariants as lits
use Rattle.paql_ast.specs.declared.conditions.ColumnName.{ColumnName}
use Rattle.paql_ast.specs.declared.conditions.CmpOp.{CmpOp}
use Rattle.paql_ast.specs.declared.conditions.Operand.{Operand}
use Rattle.paql_ast.specs.declared.conditions.Operand.TheVariants as operands
use Rattle.paql_ast.specs.declared.conditions.Pred.{Pred}
use Rattle.paql_ast.specs.declared.conditions.Pred.TheOpen.{Pred-F}
use Rattle.paql_ast.specs.declared.conditions.Pred.TheFolds.{fold-Pred}
use Rattle.bound_query.specs.Fits.{is_text_lit}
use Rattle.bound_query.specs.declared.conditions.RowRight.{RowRight}
use Rattle.bound_query.specs.declared.conditions.RowRight.TheVariants as rights
use Rattle.bound_query.specs.declared.conditions.RowPred.{RowPred}
use Rattle.bound_query.specs.declared.conditions.RowPred.TheVariants as preds
use Rattle.paql_bind.specs.Names.{Scope, column_faults, kind_faults, number_faults, is_text_column, bound_place, bound_scale}
use Rattle.paql_bind.specs.declared.faults.Refusal.{Refusal}

-- ---- faults

abbrev pub lit_faults : Lit → List Refusal
lit_faults (lits.Num number) = number_faults number
lit_faults (lits.Text text) = []

abbrev pub operand_faults : Scope → Operand → List Refusal
operand_faults scope (operands.Lit lit) = lit_faults lit
operand_faults scope (operands.Column column) = column_faults scope column

abbrev pub is_text_operand : Scope → Operand → Bool
is_text_operand scope (operands.Lit lit) = is_text_lit lit
is_text_operand scope (operands.Column column) = is_text_column scope column

-- the second operand's own fault comes before that of comparing a number with a text, which names
-- the first column
abbrev pub against_faults : Scope → ColumnName → Operand → List Refusal
against_faults scope column right =
    operand_faults scope right ++ kind_faults scope column (is_text_operand scope right)

abbrev pub against_lit : Scope → ColumnName → Lit → List Refusal
against_lit scope column lit = lit_faults lit ++ kind_faults scope column (is_text_lit lit)

abbrev pub comparison_faults : Scope → ColumnName → Operand → List Refusal
comparison_faults scope column right =
    column_faults scope column ++ against_faults scope column right

abbrev pub range_faults : Scope → ColumnName → Lit → Lit → List Refusal
range_faults scope column low high =
    column_faults scope column ++ (against_lit scope column low ++ against_lit scope column high)

abbrev pub list_faults : Scope → ColumnName → List Lit → List Refusal
list_faults scope column list =
    column_faults scope column ++ flat_map (against_lit scope column) list

-- what the parts of a condition give, one after another
abbrev pub all_faults : List (List Refusal) → List Refusal
all_faults [] = []
all_faults (faults ∷ later) = faults ++ all_faults later

abbrev pub faults_of_parts : Scope → Pred-F (List Refusal) → List Refusal
faults_of_parts scope (Pred-F.Or parts) = all_faults parts
faults_of_parts scope (Pred-F.And parts) = all_faults parts
faults_of_parts scope (Pred-F.Not denied) = denied
faults_of_parts scope (Pred-F.Compare column op right) = comparison_faults scope column right
faults_of_parts scope (Pred-F.Between column low high) = range_faults scope column low high
faults_of_parts scope (Pred-F.In column list) = list_faults scope column list

-- the faults of a condition, from left to right
abbrev pub pred_faults : Scope → Pred → List Refusal
pred_faults scope pred = fold-Pred (List Refusal) (faults_of_parts scope) pred

abbrev pub filter_faults : Scope → Option Pred → List Refusal
filter_faults scope None = []
filter_faults scope (Some pred) = pred_faults scope pred

-- ---- bound conditions

abbrev pub bound_right : Scope → Operand → RowRight
bound_right scope (operands.Lit lit) = rights.Lit lit
bound_right scope (operands.Column column) =
    rights.Column (bound_place scope column) (bound_scale scope column)

abbrev pub bound_comparison : Scope → ColumnName → CmpOp → Operand → RowPred
bound_comparison scope column op right =
    preds.Compare (bound_place scope column) (bound_scale scope column) op
    (bound_right scope right)

abbrev pub bound_range : Scope → ColumnName → Lit → Lit → RowPred
bound_range scope column low high =
    preds.Between (bound_place scope column) (bound_scale scope column) low high

abbrev pub bound_list : Scope → ColumnName → List Lit → RowPred
bound_list scope column list =
    preds.In (bound_place scope column) (bound_scale scope column) list

abbrev pub bound_of_parts : Scope → Pred-F RowPred → RowPred
bound_of_parts scope (Pred-F.Or parts) = preds.Or parts
bound_of_parts scope (Pred-F.And parts) = preds.And parts
bound_of_parts scope (Pred-F.Not denied) = preds.Not denied
bound_of_parts scope (Pred-F.Compare column op right) = bound_comparison scope column op right
bound_of_parts scope (Pred-F.Between column low high) = bound_range scope column low high
bound_of_parts scope (Pred-F.In column list) = bound_list scope column list

-- the condition with places in place of names
abbrev pub bound_pred : Scope → Pred → RowPred
bound_pred scope pred = fold-Pred RowPred (bound_of_parts scope) pred

-- without a condition every row is taken
abbrev pub bound_filter : Scope → Option Pred → RowPred
bound_filter scope None = preds.All
bound_filter scope (Some pred) = bound_pred scope pred
