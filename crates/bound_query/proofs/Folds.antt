-- What is said of a condition with parts, by what is said of its parts.
use Rattle.std.proofs.Common.{◌≡◌, Bool, List, map, not, sym, ap, ◌∙◌}
use Rattle.table_schema.specs.declared.cells.Cell.{Cell}
use Rattle.bound_query.specs.declared.conditions.RowPred.TheOpen.{RowPred-F}
use Rattle.bound_query.specs.declared.conditions.RowPred.TheFolds.{fold-roll-RowPred}
use Rattle.bound_query.specs.declared.conditions.RowPred.{RowPred}
use Rattle.bound_query.specs.declared.conditions.RowPred.TheVariants as preds
use Rattle.bound_query.specs.Rows.{true_of, truth, some_true, all_true}
use Rattle.bound_query.specs.Fits.{fitting_parts, fits, all_fit, bound_parts, is_bound, all_are_bound}

pub true_of-or : (row : List Cell) (parts : List RowPred) → true_of row (preds.Or parts) ≡ some_true (map (true_of row) parts)
true_of-or row parts = ap (true_of row) (sym (preds.rolls-Or parts)) ∙ fold-roll-RowPred Bool (truth row) (RowPred-F.Or parts)

pub true_of-and : (row : List Cell) (parts : List RowPred) → true_of row (preds.And parts) ≡ all_true (map (true_of row) parts)
true_of-and row parts = ap (true_of row) (sym (preds.rolls-And parts)) ∙ fold-roll-RowPred Bool (truth row) (RowPred-F.And parts)

pub true_of-not : (row : List Cell) (denied : RowPred) → true_of row (preds.Not denied) ≡ not (true_of row denied)
true_of-not row denied = ap (true_of row) (sym (preds.rolls-Not denied)) ∙ fold-roll-RowPred Bool (truth row) (RowPred-F.Not denied)

pub fits-or : (row : List Cell) (parts : List RowPred) → fits row (preds.Or parts) ≡ all_fit row parts
fits-or row parts = ap (fits row) (sym (preds.rolls-Or parts)) ∙ fold-roll-RowPred Bool (fitting_parts row) (RowPred-F.Or parts)

pub fits-and : (row : List Cell) (parts : List RowPred) → fits row (preds.And parts) ≡ all_fit row parts
fits-and row parts = ap (fits row) (sym (preds.rolls-And parts)) ∙ fold-roll-RowPred Bool (fitting_parts row) (RowPred-F.And parts)

pub fits-not : (row : List Cell) (denied : RowPred) → fits row (preds.Not denied) ≡ fits row denied
fits-not row denied = ap (fits row) (sym (preds.rolls-Not denied)) ∙ fold-roll-RowPred Bool (fitting_parts row) (RowPred-F.Not denied)

pub is_bound-or : (parts : List RowPred) → is_bound (preds.Or parts) ≡ all_are_bound parts
is_bound-or parts = ap is_bound (sym (preds.rolls-Or parts)) ∙ fold-roll-RowPred Bool bound_parts (RowPred-F.Or parts)

pub is_bound-and : (parts : List RowPred) → is_bound (preds.And parts) ≡ all_are_bound parts
is_bound-and parts = ap is_bound (sym (preds.rolls-And parts)) ∙ fold-roll-RowPred Bool bound_parts (RowPred-F.And parts)

pub is_bound-not : (denied : RowPred) → is_bound (preds.Not denied) ≡ is_bound denied
is_bound-not denied = ap is_bound (sym (preds.rolls-Not denied)) ∙ fold-roll-RowPred Bool bound_parts (RowPred-F.Not denied)
