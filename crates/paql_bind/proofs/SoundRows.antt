-- What a query without faults is bound to can be asked of each row that fits the columns.
use Rattle.std.proofs.Common.{◌≡◌, ℕ, zero, suc, ◌+◌, ◌<◌, ◌≤◌, ◌^◌, length, Bool, true, false, List, [], ◌∷◌, ◌++◌, flat_map, map, refl, sym, ap, ◌∙◌, subst, arith}
use Rattle.std.specs.Bool.{nat_le}
use Rattle.std.specs.List.{position_from}
use Rattle.std.specs.Prelude.{Option, Some, None, ◌&&◌, ◌||◌, is_some, if◌then◌else◌, slice_get}
use Rattle.std.specs.Int.RustNames.{unsigned_abs}
use Rattle.std.proofs.lemmas.Bool.Decides.{nat_tests}
use Rattle.pq_base.specs.declared.scaled.Scaled.{Scaled}
use Rattle.schema_types.specs.declared.Column.{Column}
use Rattle.schema_types.specs.declared.Kind.{Kind}
use Rattle.schema_types.specs.declared.Kind.TheVariants as kinds
use Rattle.schema_types.specs.declared.Lit.{Lit}
use Rattle.table_schema.specs.Cells.{FitsKind}
use Rattle.table_schema.specs.Rows.{FitsSchema}
use Rattle.table_schema.specs.declared.cells.Cell.{Cell}
use Rattle.table_schema.specs.declared.cells.Cell.TheVariants as cells
use Rattle.paql_ast.specs.declared.aggregates.Agg.{Agg}
use Rattle.paql_ast.specs.declared.aggregates.Plain.{Plain}
use Rattle.paql_ast.specs.declared.aggregates.Plain.TheVariants as plains
use Rattle.paql_ast.specs.declared.aggregates.SumItem.{SumItem}
use Rattle.paql_ast.specs.declared.aggregates.Term.{Term}
use Rattle.paql_ast.specs.declared.aggregates.Term.TheVariants as terms
use Rattle.paql_ast.specs.declared.conditions.ColumnName.{ColumnName}
use Rattle.paql_ast.specs.declared.conditions.CmpOp.{CmpOp}
use Rattle.paql_ast.specs.declared.conditions.Operand.{Operand}
use Rattle.paql_ast.specs.declared.conditions.Operand.TheVariants as operands
use Rattle.paql_ast.specs.declared.conditions.Pred.{Pred, roll-Pred, map-Pred}
use Rattle.paql_ast.specs.declared.conditions.Pred.TheOpen.{Pred-F}
use Rattle.paql_ast.specs.declared.conditions.Pred.TheFolds.{fold-roll-Pred, ind-Pred}
use Rattle.paql_ast.specs.declared.queries.Conjunct.{Conjunct}
use Rattle.paql_ast.specs.declared.queries.Conjunct.TheVariants as conjuncts
use Rattle.paql_ast.specs.declared.queries.Goal.{Goal}
use Rattle.paql_ast.specs.declared.queries.Query.{Query}
use Rattle.bound_query.specs.Asks.{IsAskedOf}
use Rattle.bound_query.specs.Rows.{all_true}
use Rattle.bound_query.specs.Terms.{number_in, units_of}
use Rattle.bound_query.specs.Fits.{fits, fitting_parts, suits, suits_right, column_is, lits_are, right_is, alike, is_text, is_text_lit, is_summable, agg_fits, fits_terms, fits_conjuncts, fits_goal, most_units}
use Rattle.bound_query.specs.declared.conditions.RowPred.{RowPred}
use Rattle.bound_query.specs.declared.conditions.RowPred.TheVariants as preds
use Rattle.bound_query.specs.declared.conditions.RowPred.TheOpen.{RowPred-F}
use Rattle.bound_query.specs.declared.conditions.RowPred.TheFolds.{fold-roll-RowPred}
use Rattle.bound_query.specs.declared.queries.BoundConjunct.{BoundConjunct}
use Rattle.bound_query.specs.declared.queries.BoundGoal.{BoundGoal}
use Rattle.bound_query.specs.declared.queries.BoundQuery.{BoundQuery}
use Rattle.bound_query.specs.declared.queries.BoundTerm.{BoundTerm}
use Rattle.bound_query.specs.declared.queries.Op.{Op}
use Rattle.bound_query.specs.declared.queries.Op.TheVariants as ops
use Rattle.bound_query.proofs.Folds.{fits-or, fits-and, fits-not}
use Rattle.paql_bind.specs.Conditions.{pred_faults, faults_of_parts, bound_pred, bound_of_parts, filter_faults, bound_filter, lit_faults, operand_faults, is_text_operand, against_lit, against_faults, comparison_faults, range_faults, list_faults, bound_right}
use Rattle.paql_bind.specs.Constraints.{conjunct_faults, conjuncts_faults, goal_faults, bound_op, bound_sums, bound_range, bound_average, bound_conjunct, bound_conjuncts, bound_goal}
use Rattle.paql_bind.specs.Names.{Scope, allows, place_in, kind_of, kind_at, number_or_zero, bound_place, bound_scale, is_text_kind, is_text_column, written, number_faults, column_faults, kind_faults, summed_faults}
use Rattle.paql_bind.specs.Queries.{BoundParts, parts_of, bound_over, faults_over, row_scope, package_scope}
use Rattle.paql_bind.specs.Sums.{name_faults, plain_faults, only_faults, agg_faults, factor_faults, term_faults, item_faults, sum_faults, sum_scale, bound_only, bound_plain, bound_agg, opposite, aggregates_of, item_terms, bound_terms}
use Rattle.paql_bind.specs.declared.faults.Refusal.{Refusal}
use Rattle.paql_bind.specs.declared.faults.Refusal.TheVariants.{NoColumn, WrongKind}
use Rattle.paql_bind.proofs.ConditionLemmas.{all_of_parts}
use Rattle.paql_bind.proofs.FaultLemmas.{nil_of_append}
use Rattle.paql_bind.proofs.QueryLemmas.{has_no_fault}

-- ---- tests

and_true : {a b : Bool} → a ≡ true → b ≡ true → (a && b) ≡ true
and_true {a} {b} one other = ap (λ (of : Bool). of && b) one ∙ other

or_left : (a b : Bool) → a ≡ true → (a || b) ≡ true
or_left true b one = refl
or_left false b one = absurd (cc one)

or_right : (a b : Bool) → b ≡ true → (a || b) ≡ true
or_right true b one = refl
or_right false b one = one

alike_same : (a b : Bool) → alike a b ≡ true → a ≡ b
alike_same true true is = refl
alike_same true false is = absurd (cc is)
alike_same false true is = absurd (cc is)
alike_same false false is = refl

alike_self : (a : Bool) → alike a a ≡ true
alike_self true = refl
alike_self false = refl

none_if : (good : Bool) (fault : Refusal) → (if good then [] else fault ∷ []) ≡ [] → good ≡ true
none_if true fault none = refl
none_if false fault none = absurd (cc none)

-- ---- columns

step : (found : Bool) (k p n : ℕ) (rest : Option ℕ) → (if found then Some k else rest) ≡ Some p → (rest ≡ Some p → (q : ℕ) × (p ≡ k + 1 + q) × (q < n)) → (q : ℕ) × (p ≡ k + q) × (q < suc n)
step true k p n rest is later = let e : k ≡ p = cc is in (0, omega (arith, e), omega arith)
step false k p n rest is later = let found = later is in (suc found.0, omega (arith, found.1), omega (arith, found.2))

within_from : (test : Column → Bool) (k : ℕ) (columns : List Column) (p : ℕ) → position_from test k columns ≡ Some p → (q : ℕ) × (p ≡ k + q) × (q < length columns)
within_from test k [] p is = absurd (cc is)
within_from test k (column ∷ columns) p is =
    step (test column) k p (length columns) (position_from test (k + 1) columns) is (λ (rest : position_from test (k + 1) columns ≡ Some p). within_from test (k + 1) columns p rest)

kind_cell : (kind : Kind) (cell : Cell) → FitsKind kind cell → alike (is_text_kind (Some kind)) (is_text cell) ≡ true
kind_cell kinds.Int (cells.Num units) fit = refl
kind_cell kinds.Int (cells.Text text) fit = absurd fit
kind_cell (kinds.Dec scale) (cells.Num units) fit = refl
kind_cell (kinds.Dec scale) (cells.Text text) fit = absurd fit
kind_cell kinds.Text (cells.Num units) fit = absurd fit
kind_cell kinds.Text (cells.Text text) fit = refl

kind_units : (kind : Kind) (cell : Cell) → FitsKind kind cell → is_text_kind (Some kind) ≡ false → unsigned_abs (units_of cell) ≤ 10 ^ 12
kind_units kinds.Int (cells.Num units) fit number = fit
kind_units kinds.Int (cells.Text text) fit number = absurd fit
kind_units (kinds.Dec scale) (cells.Num units) fit number = fit
kind_units (kinds.Dec scale) (cells.Text text) fit number = absurd fit
kind_units kinds.Text (cells.Num units) fit number = absurd fit
kind_units kinds.Text (cells.Text text) fit number = absurd (cc number)

column_at : (columns : List Column) (row : List Cell) (p : ℕ) → FitsSchema columns row → p < length columns → column_is (is_text_kind (kind_of (slice_get columns p))) row p ≡ true
column_at [] row p fit within = absurd (omega (arith, within))
column_at (column ∷ columns) [] p fit within = absurd fit
column_at (column ∷ columns) (cell ∷ cells) zero fit within = kind_cell column.kind cell fit.0
column_at (column ∷ columns) (cell ∷ cells) (suc p) fit within = column_at columns cells p fit.1 (omega (arith, within))

units_at : (columns : List Column) (row : List Cell) (p : ℕ) → FitsSchema columns row → p < length columns → is_text_kind (kind_of (slice_get columns p)) ≡ false → unsigned_abs (number_in p row) ≤ 10 ^ 12
units_at [] row p fit within number = absurd (omega (arith, within))
units_at (column ∷ columns) [] p fit within number = absurd fit
units_at (column ∷ columns) (cell ∷ cells) zero fit within number = kind_units column.kind cell fit.0 number
units_at (column ∷ columns) (cell ∷ cells) (suc p) fit within number = units_at columns cells p fit.1 (omega (arith, within)) number

allowed : (good : Bool) (found : Option ℕ) (p : ℕ) → (if good then found else None) ≡ Some p → found ≡ Some p
allowed true found p is = is
allowed false found p is = absurd (cc is)

-- a column that is there has a place among the columns
place_here : (scope : Scope) (column : ColumnName) (place : Option ℕ) → place_in scope column ≡ place → (if is_some place then [] else NoColumn (written column) ∷ []) ≡ [] → (p : ℕ) × (place_in scope column ≡ Some p) × (p < length scope.columns)
place_here scope column None is none = absurd (cc none)
place_here scope column (Some p) is none =
    let found = within_from _ 0 scope.columns p (allowed (allows scope column.prefix) _ p is) in
    (p, is, omega (arith, found.1, found.2))

-- ---- rows that fit

module _ (scope : Scope) (row : List Cell) (fit : FitsSchema scope.columns row) where
  here : (column : ColumnName) → column_faults scope column ≡ [] → column_is (is_text_column scope column) row (bound_place scope column) ≡ true
  here column none =
      let found = place_here scope column (place_in scope column) refl none in
      subst (λ (place : Option ℕ). column_is (is_text_kind (kind_at place scope.columns)) row (number_or_zero place) ≡ true) (sym found.1) (column_at scope.columns row found.0 fit found.2)

  units_here : (column : ColumnName) → column_faults scope column ≡ [] → is_text_column scope column ≡ false → unsigned_abs (number_in (bound_place scope column) row) ≤ 10 ^ 12
  units_here column none number =
      let found = place_here scope column (place_in scope column) refl none in
      let numeric = subst (λ (place : Option ℕ). is_text_kind (kind_at place scope.columns) ≡ false) found.1 number in
      subst (λ (place : Option ℕ). unsigned_abs (number_in (number_or_zero place) row) ≤ 10 ^ 12) (sym found.1) (units_at scope.columns row found.0 fit found.2 numeric)

  kind_same : (column : ColumnName) (textual : Bool) → kind_faults scope column textual ≡ [] → textual ≡ is_text_column scope column
  kind_same column textual none = alike_same textual (is_text_column scope column) (none_if (alike textual (is_text_column scope column)) (WrongKind (written column)) none)

  suits_by : (textual : Bool) (p : ℕ) (list : List Lit) → column_is textual row p ≡ true → lits_are textual list ≡ true → suits row p list ≡ true
  suits_by true p list one other = or_left (column_is true row p && lits_are true list) (column_is false row p && lits_are false list) (and_true one other)
  suits_by false p list one other = or_right (column_is true row p && lits_are true list) (column_is false row p && lits_are false list) (and_true one other)

  right_by : (textual : Bool) (p : ℕ) (right : _) → column_is textual row p ≡ true → right_is textual row right ≡ true → suits_right row p right ≡ true
  right_by true p right one other = or_left (column_is true row p && right_is true row right) (column_is false row p && right_is false row right) (and_true one other)
  right_by false p right one other = or_right (column_is true row p && right_is true row right) (column_is false row p && right_is false row right) (and_true one other)

  lit_alike : (column : ColumnName) (lit : Lit) → against_lit scope column lit ≡ [] → alike (is_text_column scope column) (is_text_lit lit) ≡ true
  lit_alike column lit none =
      let own = nil_of_append (lit_faults lit) (kind_faults scope column (is_text_lit lit)) none in
      subst (λ (textual : Bool). alike (is_text_column scope column) textual ≡ true) (sym (kind_same column (is_text_lit lit) own.1)) (alike_self (is_text_column scope column))

  lits_alike : (column : ColumnName) (list : List Lit) → flat_map (against_lit scope column) list ≡ [] → lits_are (is_text_column scope column) list ≡ true
  lits_alike column [] none = refl
  lits_alike column (lit ∷ list) none =
      let both = nil_of_append (against_lit scope column lit) (flat_map (against_lit scope column) list) none in
      and_true (lit_alike column lit both.0) (lits_alike column list both.1)

  right_alike : (column : ColumnName) (right : Operand) → operand_faults scope right ≡ [] → kind_faults scope column (is_text_operand scope right) ≡ [] → right_is (is_text_column scope column) row (bound_right scope right) ≡ true
  right_alike column (operands.Lit lit) own kind =
      subst (λ (textual : Bool). alike textual (is_text_lit lit) ≡ true) (kind_same column (is_text_lit lit) kind) (alike_self (is_text_lit lit))
  right_alike column (operands.Column other) own kind =
      subst (λ (textual : Bool). column_is textual row (bound_place scope other) ≡ true) (kind_same column (is_text_column scope other) kind) (here other own)

  compare_fits : (column : ColumnName) (op : CmpOp) (right : Operand) → comparison_faults scope column right ≡ [] → suits_right row (bound_place scope column) (bound_right scope right) ≡ true
  compare_fits column op right none =
      let after = nil_of_append (column_faults scope column) (against_faults scope column right) none in
      let own = nil_of_append (operand_faults scope right) (kind_faults scope column (is_text_operand scope right)) after.1 in
      right_by (is_text_column scope column) (bound_place scope column) (bound_right scope right) (here column after.0) (right_alike column right own.0 own.1)

  between_fits : (column : ColumnName) (low high : Lit) → range_faults scope column low high ≡ [] → suits row (bound_place scope column) (low ∷ high ∷ []) ≡ true
  between_fits column low high none =
      let after = nil_of_append (column_faults scope column) (against_lit scope column low ++ against_lit scope column high) none in
      let ends = nil_of_append (against_lit scope column low) (against_lit scope column high) after.1 in
      suits_by (is_text_column scope column) (bound_place scope column) (low ∷ high ∷ []) (here column after.0) (and_true (lit_alike column low ends.0) (and_true (lit_alike column high ends.1) refl))

  in_fits : (column : ColumnName) (list : List Lit) → list_faults scope column list ≡ [] → suits row (bound_place scope column) list ≡ true
  in_fits column list none =
      let after = nil_of_append (column_faults scope column) (flat_map (against_lit scope column) list) none in
      suits_by (is_text_column scope column) (bound_place scope column) list (here column after.0) (lits_alike column list after.1)

  abbrev IsFitting : Pred → Type 0
  IsFitting pred = pred_faults scope pred ≡ [] → fits row (bound_pred scope pred) ≡ true

  fits_parts : (parts : List ((pred : Pred) × IsFitting pred)) → flat_map (pred_faults scope) (map (λ e. e.0) parts) ≡ [] → all_true (map (fits row) (map (bound_pred scope) (map (λ e. e.0) parts))) ≡ true
  fits_parts [] none = refl
  fits_parts (part ∷ parts) none =
      let both = nil_of_append (pred_faults scope part.0) (flat_map (pred_faults scope) (map (λ e. e.0) parts)) none in
      and_true (part.1 both.0) (fits_parts parts both.1)

  layer_fits : (layer : Pred-F ((pred : Pred) × IsFitting pred)) → faults_of_parts scope (map-Pred Pred (List Refusal) (pred_faults scope) (map-Pred ((pred : Pred) × IsFitting pred) Pred (λ e. e.0) layer)) ≡ [] → fits row (bound_of_parts scope (map-Pred Pred RowPred (bound_pred scope) (map-Pred ((pred : Pred) × IsFitting pred) Pred (λ e. e.0) layer))) ≡ true
  layer_fits (Pred-F.Or parts) none =
      let all = map (λ e. e.0) parts in
      fits-or row (map (bound_pred scope) all) ∙ fits_parts parts (sym (all_of_parts scope all) ∙ none)
  layer_fits (Pred-F.And parts) none =
      let all = map (λ e. e.0) parts in
      fits-and row (map (bound_pred scope) all) ∙ fits_parts parts (sym (all_of_parts scope all) ∙ none)
  layer_fits (Pred-F.Not denied) none = fits-not row (bound_pred scope denied.0) ∙ denied.1 none
  layer_fits (Pred-F.Compare column op right) none =
      ap (fits row) (sym (preds.rolls-Compare (bound_place scope column) (bound_scale scope column) op (bound_right scope right)))
      ∙ (fold-roll-RowPred Bool (fitting_parts row) (RowPred-F.Compare (bound_place scope column) (bound_scale scope column) op (bound_right scope right)) ∙ compare_fits column op right none)
  layer_fits (Pred-F.Between column low high) none =
      ap (fits row) (sym (preds.rolls-Between (bound_place scope column) (bound_scale scope column) low high))
      ∙ (fold-roll-RowPred Bool (fitting_parts row) (RowPred-F.Between (bound_place scope column) (bound_scale scope column) low high) ∙ between_fits column low high none)
  layer_fits (Pred-F.In column list) none =
      ap (fits row) (sym (preds.rolls-In (bound_place scope column) (bound_scale scope column) list))
      ∙ (fold-roll-RowPred Bool (fitting_parts row) (RowPred-F.In (bound_place scope column) (bound_scale scope column) list) ∙ in_fits column list none)

  pred_fits : (pred : Pred) → IsFitting pred
  pred_fits = ind-Pred IsFitting (λ x y is. subst (λ z. IsFitting (roll-Pred z)) is (λ none.
      let all = map-Pred ((pred : Pred) × IsFitting pred) Pred (λ e. e.0) y in
      ap (fits row) (fold-roll-Pred RowPred (bound_of_parts scope) all)
      ∙ layer_fits y (sym (fold-roll-Pred (List Refusal) (faults_of_parts scope) all) ∙ none)))

  all_fits : fits row preds.All ≡ true
  all_fits = ap (fits row) (sym preds.rolls-All) ∙ fold-roll-RowPred Bool (fitting_parts row) RowPred-F.All

  filter_fits : (filter : Option Pred) → filter_faults scope filter ≡ [] → fits row (bound_filter scope filter) ≡ true
  filter_fits None none = all_fits
  filter_fits (Some pred) none = pred_fits pred none

  -- ---- sums

  le_passes : (n m : ℕ) → n ≤ m → nat_le n m ≡ true
  le_passes n m h = grind (arith, nat_tests)

  summable : (column : ColumnName) → summed_faults scope column ≡ [] → is_summable row (bound_place scope column) ≡ true
  summable column none =
      let both = nil_of_append (column_faults scope column) (kind_faults scope column false) none in
      let number : false ≡ is_text_column scope column = kind_same column false both.1 in
      and_true (subst (λ (textual : Bool). column_is textual row (bound_place scope column) ≡ true) (sym number) (here column both.0))
      (le_passes (unsigned_abs (number_in (bound_place scope column) row)) (10 ^ 12) (units_here column both.0 (sym number)))

  only_fits : (only : Option (List ℕ × Pred)) → only_faults scope only ≡ [] → fits row (bound_only scope only) ≡ true
  only_fits None none = all_fits
  only_fits (Some only) none = pred_fits only.1 (nil_of_append (name_faults scope only.0) (pred_faults scope only.1) none).1

  plain_fits : (plain : Plain) (pred : RowPred) → plain_faults scope plain ≡ [] → fits row pred ≡ true → agg_fits row (bound_plain scope plain pred) ≡ true
  plain_fits (plains.Count name) pred none passes = passes
  plain_fits (plains.Sum column) pred none passes = and_true (summable column none) passes

  agg_is : (agg : Agg) → agg_faults scope agg ≡ [] → agg_fits row (bound_agg scope agg) ≡ true
  agg_is agg none =
      let both = nil_of_append (plain_faults scope agg.plain) (only_faults scope agg.only) none in
      plain_fits agg.plain (bound_only scope agg.only) both.0 (only_fits agg.only both.1)

  fits_append : (xs ys : List BoundTerm) → fits_terms row xs ≡ true → fits_terms row ys ≡ true → fits_terms row (xs ++ ys) ≡ true
  fits_append [] ys one other = other
  fits_append (x ∷ xs) ys one other =
      let both = split (agg_fits row x.agg) (fits_terms row xs) one in
      and_true both.0 (fits_append xs ys both.1 other)
    where
      split : (a b : Bool) → (a && b) ≡ true → (a ≡ true) × (b ≡ true)
      split true b h = (refl, h)
      split false b h = absurd (cc h)

  aggregates_fit : (scale : ℕ) (minus : Bool) (term : Term) → term_faults scope term ≡ [] → fits_terms row (aggregates_of scope scale minus term) ≡ true
  aggregates_fit scale minus (terms.Number number) none = refl
  aggregates_fit scale minus (terms.Agg factor agg) none =
      and_true (agg_is agg (nil_of_append (factor_faults factor) (agg_faults scope agg) none).1) refl

  terms_fit : (scale : ℕ) (denied : Bool) (items : List SumItem) → sum_faults scope items ≡ [] → fits_terms row (bound_terms scope scale denied items) ≡ true
  terms_fit scale denied [] none = refl
  terms_fit scale denied (item ∷ items) none =
      let both = nil_of_append (item_faults scope item) (sum_faults scope items) none in
      fits_append (item_terms scope scale denied item) (bound_terms scope scale denied items)
      (aggregates_fit scale (opposite denied item.minus) item.term both.0) (terms_fit scale denied items both.1)

  -- ---- constraints

  average_fits : (column : ColumnName) → summed_faults scope column ≡ [] → (is_summable row (bound_place scope column) && fits row preds.All) ≡ true
  average_fits column none = and_true (summable column none) all_fits

  conjunct_fits : (conjunct : Conjunct) → conjunct_faults scope conjunct ≡ [] → fits_conjuncts row (bound_conjunct scope conjunct) ≡ true
  conjunct_fits (conjuncts.Compare left op right) none =
      let both = nil_of_append (sum_faults scope left) (sum_faults scope right) none in
      and_true (fits_append _ _ (terms_fit _ false left both.0) (terms_fit _ true right both.1)) refl
  conjunct_fits (conjuncts.Between sum low high) none =
      and_true (terms_fit _ false sum (nil_of_append (sum_faults scope sum) (number_faults low ++ number_faults high) none).0) refl
  conjunct_fits (conjuncts.Avg column op limit) none =
      and_true (and_true (average_fits column (nil_of_append (summed_faults scope column) (number_faults limit) none).0) refl) refl
  conjunct_fits (conjuncts.AvgBetween column low high) none =
      let one = average_fits column (nil_of_append (summed_faults scope column) (number_faults low ++ number_faults high) none).0 in
      and_true (and_true one refl) (and_true (and_true one refl) refl)

  conjuncts_append : (xs ys : List BoundConjunct) → fits_conjuncts row xs ≡ true → fits_conjuncts row ys ≡ true → fits_conjuncts row (xs ++ ys) ≡ true
  conjuncts_append [] ys one other = other
  conjuncts_append (x ∷ xs) ys one other =
      let both = split (fits_terms row x.terms) (fits_conjuncts row xs) one in
      and_true both.0 (conjuncts_append xs ys both.1 other)
    where
      split : (a b : Bool) → (a && b) ≡ true → (a ≡ true) × (b ≡ true)
      split true b h = (refl, h)
      split false b h = absurd (cc h)

  conjuncts_fit : (all : List Conjunct) → conjuncts_faults scope all ≡ [] → fits_conjuncts row (bound_conjuncts scope all) ≡ true
  conjuncts_fit [] none = refl
  conjuncts_fit (conjunct ∷ later) none =
      let both = nil_of_append (conjunct_faults scope conjunct) (conjuncts_faults scope later) none in
      conjuncts_append (bound_conjunct scope conjunct) (bound_conjuncts scope later) (conjunct_fits conjunct both.0) (conjuncts_fit later both.1)

  goal_fits : (goal : Option Goal) → goal_faults scope goal ≡ [] → fits_goal row (bound_goal scope goal) ≡ true
  goal_fits None none = refl
  goal_fits (Some goal) none = terms_fit (sum_scale scope goal.parts) false goal.parts none

-- a bound query can be asked of a row that fits the columns
pub asked_of : (columns : List Column) (query : Query) (bound : BoundQuery) (row : List Cell) → faults_over columns query ≡ [] → parts_of bound ≡ bound_over columns query → FitsSchema columns row → IsAskedOf bound row
asked_of columns query bound row none is fit =
    let rows = row_scope columns query in
    let copies = package_scope columns query in
    let good = has_no_fault rows copies query none in
    record {
      filter = subst (λ (filter : RowPred). fits row filter ≡ true) (sym (ap (λ (parts : BoundParts). parts.filter) is)) (filter_fits rows row fit query.filter good.filter);
      conjuncts = subst (λ (all : List BoundConjunct). fits_conjuncts row all ≡ true) (sym (ap (λ (parts : BoundParts). parts.conjuncts) is)) (conjuncts_fit copies row fit query.conjuncts good.conjuncts);
      goal = subst (λ (goal : Option BoundGoal). fits_goal row goal ≡ true) (sym (ap (λ (parts : BoundParts). parts.goal) is)) (goal_fits copies row fit query.goal good.goal);
    }

-- a condition can be asked of a row that fits the columns
pub condition_fits : (scope : Scope) (row : List Cell) → FitsSchema scope.columns row → (pred : Pred) → pred_faults scope pred ≡ [] → fits row (bound_pred scope pred) ≡ true
condition_fits scope row fit pred none = pred_fits scope row fit pred none
