-- A row of one number fits each part.
use Rattle.std.proofs.Common.{◌≡◌, Bool, true, false, ◌&&◌, List, [], ◌∷◌, IsTrue, refl, ap, ◌∙◌}
use Rattle.table_schema.specs.declared.cells.Cell.{Cell}
use Rattle.table_schema.specs.declared.cells.Cell.TheVariants as cells
use Rattle.bound_query.specs.declared.queries.BoundTerm.{BoundTerm}
use Rattle.bound_query.specs.declared.queries.BoundConjunct.{BoundConjunct}
use Rattle.bound_query.specs.Fits.{agg_fits, fits_terms, fits_conjuncts}
use Rattle.package_judge.proofs.tests.query.Goals as goal

both_true : (one other : Bool) → IsTrue one → IsTrue other → IsTrue (one && other)
both_true true other first second = second
both_true false other first second = first

one_fits : (row : List Cell) (terms : List BoundTerm) (term : BoundTerm) → terms ≡ term ∷ [] → IsTrue (agg_fits row term.agg) → IsTrue (fits_terms row terms)
one_fits row terms term is fit = ap (fits_terms row) is ∙ both_true (agg_fits row term.agg) true fit refl

three_fit : (row : List Cell) (all : List BoundConjunct) (one two three : BoundConjunct) → all ≡ one ∷ two ∷ three ∷ [] → IsTrue (fits_terms row one.terms) → IsTrue (fits_terms row two.terms) → IsTrue (fits_terms row three.terms) → IsTrue (fits_conjuncts row all)
three_fit row all one two three is first second third =
    ap (fits_conjuncts row) is
    ∙ both_true (fits_terms row one.terms) (fits_conjuncts row (two ∷ three ∷ [])) first
    (both_true (fits_terms row two.terms) (fits_conjuncts row (three ∷ [])) second
    (both_true (fits_terms row three.terms) true third refl))

pub returns : goal.returns
returns c = λ units small.
    let row : List Cell = cells.Num units ∷ [] in
    record {
      filter = c.below_nine.ensures.fits units;
      conjuncts = three_fit row c.from_vec.result _ _ _ (c.from_vec.ensures ∙ c.in_ok-conjuncts.ensures.items)
          (one_fits row c.in_ok-one_term.field-0 c.count.result c.in_ok-one_term.ensures (c.count.ensures.fits units small))
          (one_fits row c.in_ok-one_term-2.field-0 c.numbers_less.result c.in_ok-one_term-2.ensures (c.numbers_less.ensures.fits units small))
          (one_fits row c.in_ok-one_term-3.field-0 c.numbers_less-2.result c.in_ok-one_term-3.ensures (c.numbers_less-2.ensures.fits units small));
      goal = one_fits row c.in_ok-one_term-4.field-0 c.numbers_less-3.result c.in_ok-one_term-4.ensures (c.numbers_less-3.ensures.fits units small);
    }
