-- What a condition without faults is bound to has good scales and literals.
use Rattle.std.proofs.Common.{◌≡◌, ℕ, ◌≤◌, ◌^◌, Bool, true, false, List, [], ◌∷◌, ◌++◌, flat_map, map, refl, sym, ap, ◌∙◌, subst, arith}
use Rattle.std.specs.Bool.{nat_le, nat_lt}
use Rattle.std.proofs.lemmas.Bool.Decides.{nat_tests}
use Rattle.std.specs.Prelude.{◌&&◌, if◌then◌else◌}
use Rattle.std.specs.Int.RustNames.{unsigned_abs}
use Rattle.pq_base.specs.declared.scaled.Scaled.{Scaled}
use Rattle.schema_types.specs.declared.Lit.{Lit}
use Rattle.schema_types.specs.declared.Lit.TheVariants as lits
use Rattle.paql_ast.specs.declared.conditions.ColumnName.{ColumnName}
use Rattle.paql_ast.specs.declared.conditions.CmpOp.{CmpOp}
use Rattle.paql_ast.specs.declared.conditions.Operand.{Operand}
use Rattle.paql_ast.specs.declared.conditions.Operand.TheVariants as operands
use Rattle.paql_ast.specs.declared.conditions.Pred.{Pred, roll-Pred, map-Pred}
use Rattle.paql_ast.specs.declared.conditions.Pred.TheOpen.{Pred-F}
use Rattle.paql_ast.specs.declared.conditions.Pred.TheFolds.{fold-roll-Pred, ind-Pred}
use Rattle.bound_query.specs.Rows.{all_true}
use Rattle.bound_query.specs.Fits.{is_bound, bound_parts, is_bound_lit, are_bound_lits, is_bound_right, is_text_lit}
use Rattle.bound_query.specs.declared.conditions.RowPred.{RowPred}
use Rattle.bound_query.specs.declared.conditions.RowPred.TheVariants as preds
use Rattle.bound_query.specs.declared.conditions.RowPred.TheOpen.{RowPred-F}
use Rattle.bound_query.specs.declared.conditions.RowPred.TheFolds.{fold-roll-RowPred}
use Rattle.paql_bind.specs.Conditions.{pred_faults, faults_of_parts, bound_pred, bound_of_parts, lit_faults, operand_faults, is_text_operand, against_lit, against_faults, comparison_faults, range_faults, list_faults, bound_right}
use Rattle.paql_bind.specs.Names.{Scope, bound_place, bound_scale, number_faults, column_faults, kind_faults}
use Rattle.paql_bind.proofs.ConditionLemmas.{all_of_parts}
use Rattle.paql_bind.proofs.FaultLemmas.{nil_of_append}
use Rattle.paql_bind.specs.declared.faults.Refusal.{Refusal}
use Rattle.paql_bind.specs.declared.faults.Refusal.TheVariants.{TooFineLiteral, LiteralRange}

-- each column's scale is at most 6
abbrev pub HasSmallScales : Scope → Type 0
HasSmallScales scope = (column : ColumnName) → bound_scale scope column ≤ 6

abbrev pub IsKept : Scope → Pred → Type 0
IsKept scope pred = pred_faults scope pred ≡ [] → is_bound (bound_pred scope pred) ≡ true

and_true : {a b : Bool} → a ≡ true → b ≡ true → (a && b) ≡ true
and_true {a} {b} one other = ap (λ (of : Bool). of && b) one ∙ other

le_passes : (n m : ℕ) → n ≤ m → nat_le n m ≡ true
le_passes n m h = grind (arith, nat_tests)

not_below : (n m : ℕ) → nat_lt m n ≡ false → n ≤ m
not_below n m h = grind (arith, nat_tests)

none_of_two : (first second : Bool) (one other : Refusal) → (if first then one ∷ [] else (if second then other ∷ [] else [])) ≡ [] → (first ≡ false) × (second ≡ false)
none_of_two true second one other none = absurd (cc none)
none_of_two false true one other none = absurd (cc none)
none_of_two false false one other none = (refl, refl)

pub number_good : (number : Scaled) → number_faults number ≡ [] → (number.scale ≤ 6) × (unsigned_abs number.mant ≤ 10 ^ 12)
number_good number none =
    let both = none_of_two (nat_lt 6 number.scale) (nat_lt (10 ^ 12) (unsigned_abs number.mant)) TooFineLiteral LiteralRange none in
    (not_below number.scale 6 both.0, not_below (unsigned_abs number.mant) (10 ^ 12) both.1)

lit_passes : (lit : Lit) → lit_faults lit ≡ [] → is_bound_lit lit ≡ true
lit_passes (lits.Num number) none =
    let good = number_good number none in
    and_true (le_passes number.scale 6 good.0) (le_passes (unsigned_abs number.mant) (10 ^ 12) good.1)
lit_passes (lits.Text text) none = refl

module _ (scope : Scope) (small : HasSmallScales scope) where
  kept_parts : (parts : List ((pred : Pred) × IsKept scope pred)) → flat_map (pred_faults scope) (map (λ e. e.0) parts) ≡ [] → all_true (map is_bound (map (bound_pred scope) (map (λ e. e.0) parts))) ≡ true
  kept_parts [] none = refl
  kept_parts (part ∷ parts) none =
      let both = nil_of_append (pred_faults scope part.0) (flat_map (pred_faults scope) (map (λ e. e.0) parts)) none in
      and_true (part.1 both.0) (kept_parts parts both.1)

  scale_passes : (column : ColumnName) → nat_le (bound_scale scope column) 6 ≡ true
  scale_passes column = le_passes (bound_scale scope column) 6 (small column)

  right_passes : (right : Operand) → operand_faults scope right ≡ [] → is_bound_right (bound_right scope right) ≡ true
  right_passes (operands.Lit lit) none = lit_passes lit none
  right_passes (operands.Column column) none = scale_passes column

  against_passes : (column : ColumnName) (lit : Lit) → against_lit scope column lit ≡ [] → is_bound_lit lit ≡ true
  against_passes column lit none = lit_passes lit (nil_of_append (lit_faults lit) (kind_faults scope column (is_text_lit lit)) none).0

  lits_pass : (column : ColumnName) (list : List Lit) → flat_map (against_lit scope column) list ≡ [] → are_bound_lits list ≡ true
  lits_pass column [] none = refl
  lits_pass column (lit ∷ list) none =
      let both = nil_of_append (against_lit scope column lit) (flat_map (against_lit scope column) list) none in
      and_true (against_passes column lit both.0) (lits_pass column list both.1)

  compare_kept : (column : ColumnName) (op : CmpOp) (right : Operand) → comparison_faults scope column right ≡ [] → bound_parts (RowPred-F.Compare (bound_place scope column) (bound_scale scope column) op (bound_right scope right)) ≡ true
  compare_kept column op right none =
      let after = nil_of_append (column_faults scope column) (against_faults scope column right) none in
      let own = nil_of_append (operand_faults scope right) (kind_faults scope column (is_text_operand scope right)) after.1 in
      and_true (scale_passes column) (right_passes right own.0)

  between_kept : (column : ColumnName) (low high : Lit) → range_faults scope column low high ≡ [] → bound_parts (RowPred-F.Between (bound_place scope column) (bound_scale scope column) low high) ≡ true
  between_kept column low high none =
      let after = nil_of_append (column_faults scope column) (against_lit scope column low ++ against_lit scope column high) none in
      let ends = nil_of_append (against_lit scope column low) (against_lit scope column high) after.1 in
      and_true (scale_passes column) (and_true (against_passes column low ends.0) (against_passes column high ends.1))

  in_kept : (column : ColumnName) (list : List Lit) → list_faults scope column list ≡ [] → bound_parts (RowPred-F.In (bound_place scope column) (bound_scale scope column) list) ≡ true
  in_kept column list none =
      let after = nil_of_append (column_faults scope column) (flat_map (against_lit scope column) list) none in
      and_true (scale_passes column) (lits_pass column list after.1)

  or_kept : (parts : List RowPred) → all_true (map is_bound parts) ≡ true → is_bound (preds.Or parts) ≡ true
  or_kept parts h = ap is_bound (sym (preds.rolls-Or parts)) ∙ (fold-roll-RowPred Bool bound_parts (RowPred-F.Or parts) ∙ h)

  and_kept : (parts : List RowPred) → all_true (map is_bound parts) ≡ true → is_bound (preds.And parts) ≡ true
  and_kept parts h = ap is_bound (sym (preds.rolls-And parts)) ∙ (fold-roll-RowPred Bool bound_parts (RowPred-F.And parts) ∙ h)

  not_kept : (denied : RowPred) → is_bound denied ≡ true → is_bound (preds.Not denied) ≡ true
  not_kept denied h = ap is_bound (sym (preds.rolls-Not denied)) ∙ (fold-roll-RowPred Bool bound_parts (RowPred-F.Not denied) ∙ h)

  layer_kept : (layer : Pred-F ((pred : Pred) × IsKept scope pred)) → faults_of_parts scope (map-Pred Pred (List Refusal) (pred_faults scope) (map-Pred ((pred : Pred) × IsKept scope pred) Pred (λ e. e.0) layer)) ≡ [] → is_bound (bound_of_parts scope (map-Pred Pred RowPred (bound_pred scope) (map-Pred ((pred : Pred) × IsKept scope pred) Pred (λ e. e.0) layer))) ≡ true
  layer_kept (Pred-F.Or parts) none =
      let written = map (λ e. e.0) parts in
      or_kept (map (bound_pred scope) written) (kept_parts parts (sym (all_of_parts scope written) ∙ none))
  layer_kept (Pred-F.And parts) none =
      let written = map (λ e. e.0) parts in
      and_kept (map (bound_pred scope) written) (kept_parts parts (sym (all_of_parts scope written) ∙ none))
  layer_kept (Pred-F.Not denied) none = not_kept (bound_pred scope denied.0) (denied.1 none)
  layer_kept (Pred-F.Compare column op right) none =
      let bound = preds.rolls-Compare (bound_place scope column) (bound_scale scope column) op (bound_right scope right) in
      ap is_bound (sym bound) ∙ (fold-roll-RowPred Bool bound_parts (RowPred-F.Compare (bound_place scope column) (bound_scale scope column) op (bound_right scope right)) ∙ compare_kept column op right none)
  layer_kept (Pred-F.Between column low high) none =
      let bound = preds.rolls-Between (bound_place scope column) (bound_scale scope column) low high in
      ap is_bound (sym bound) ∙ (fold-roll-RowPred Bool bound_parts (RowPred-F.Between (bound_place scope column) (bound_scale scope column) low high) ∙ between_kept column low high none)
  layer_kept (Pred-F.In column list) none =
      let bound = preds.rolls-In (bound_place scope column) (bound_scale scope column) list in
      ap is_bound (sym bound) ∙ (fold-roll-RowPred Bool bound_parts (RowPred-F.In (bound_place scope column) (bound_scale scope column) list) ∙ in_kept column list none)

-- what a condition without faults is bound to is bound
pub kept : (scope : Scope) → HasSmallScales scope → (pred : Pred) → IsKept scope pred
kept scope small = ind-Pred (IsKept scope) (λ x y is. subst (λ z. IsKept scope (roll-Pred z)) is (λ none.
    let written = map-Pred ((pred : Pred) × IsKept scope pred) Pred (λ e. e.0) y in
    ap is_bound (fold-roll-Pred RowPred (bound_of_parts scope) written)
    ∙ layer_kept scope small y (sym (fold-roll-Pred (List Refusal) (faults_of_parts scope) written) ∙ none)))
