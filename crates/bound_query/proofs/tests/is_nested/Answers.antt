-- A condition fits if its parts do.
use Rattle.std.proofs.Common.{Bool, true, false, IsTrue, ◌&&◌, List, [], ◌∷◌, w64, to_z, of_z, refl, ap, ◌∙◌}
use Rattle.table_schema.specs.declared.cells.Cell.{Cell}
use Rattle.table_schema.specs.declared.cells.Cell.TheVariants as cells
use Rattle.bound_query.specs.Fits.{fits}
use Rattle.bound_query.proofs.Folds.{fits-or, fits-and, fits-not}
use Rattle.bound_query.proofs.tests.is_nested.Goals as goal

both_true : (one other : Bool) → IsTrue one → IsTrue other → IsTrue (one && (other && true))
both_true true true first second = refl
both_true true false first second = second
both_true false other first second = first

pub eval-requires-clause-fits : goal.eval-requires-clause-fits
eval-requires-clause-fits c =
    let a = to_z w64 (of_z w64 c.args.a) in
    let b = to_z w64 (of_z w64 c.args.tenths) in
    let row : List Cell = cells.Num a ∷ cells.Num b ∷ [] in
    let above = c.above.result in
    let fifth = c.is_a_fifth.result in
    let one = c.is_one.result in
    let inner = c.in_ok-inner.inner in
    let inner_fits : IsTrue (fits row inner) = ap (fits row) c.in_ok-inner.ensures
    ∙ (fits-or row (above ∷ fifth ∷ []) ∙ both_true (fits row above) (fits row fifth) (c.above.ensures.fits a b) (c.is_a_fifth.ensures.fits a b)) in
    let outer_fits = ap (fits row) c.in_ok-outer.ensures
    ∙ (fits-and row (one ∷ inner ∷ []) ∙ both_true (fits row one) (fits row inner) (c.is_one.ensures.fits a b) inner_fits) in
    fits-not row c.in_ok-new.field-0 ∙ (ap (fits row) c.in_ok-new.ensures ∙ outer_fits)
