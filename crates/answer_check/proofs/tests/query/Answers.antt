-- A row of one number fits each part.
use Rattle.std.proofs.Common.{◌≡◌, Bool, true, false, ◌&&◌, List, [], ◌∷◌, pos, IsTrue, refl, ap, ◌∙◌, ◌≤◌, sym, subst, lit≤, inl, arith}
use Rattle.std.specs.List.{AllByRecursion}
use Rattle.table_schema.specs.declared.cells.Cell.{Cell}
use Rattle.table_schema.specs.declared.cells.Cell.TheVariants as cells
use Rattle.bound_query.specs.declared.queries.BoundTerm.{BoundTerm}
use Rattle.bound_query.specs.declared.queries.BoundConjunct.{BoundConjunct}
use Rattle.bound_query.specs.Fits.{agg_fits, fits_terms, fits_conjuncts, AreBoundTerms, IsBoundConjunct, rows_for, rows_of}
use Rattle.answer_check.proofs.tests.query.Goals as goal

both_true : (one other : Bool) → IsTrue one → IsTrue other → IsTrue (one && other)
both_true true other first second = second
both_true false other first second = first

one_fits : (row : List Cell) (terms : List BoundTerm) (term : BoundTerm) → terms ≡ term ∷ [] → IsTrue (agg_fits row term.agg) → IsTrue (fits_terms row terms)
one_fits row terms term is fit = ap (fits_terms row) is ∙ both_true (agg_fits row term.agg) true fit refl

all_fit : (row : List Cell) (all : List BoundConjunct) (one : BoundConjunct) → all ≡ one ∷ [] → IsTrue (fits_terms row one.terms) → IsTrue (fits_conjuncts row all)
all_fit row all one is first = ap (fits_conjuncts row) is ∙ both_true (fits_terms row one.terms) true first refl

few_rows : (all : List BoundConjunct) (one : BoundConjunct) → all ≡ one ∷ [] → rows_for one.op ≤ 2 → rows_of all ≤ 62
few_rows all one is few = rw is (omega (arith, few))

pub condition-requires : goal.condition-requires
condition-requires c =
    subst AreBoundTerms (sym (c.from_vec-terms.ensures ∙ c.in_ok-vec.ensures.items)) (lit≤ tt, (c.number.ensures.bound, tt))

pub invariant_of-result-clause-sizes : goal.invariant_of-result-clause-sizes
invariant_of-result-clause-sizes c =
    let one = c.from_vec-2.ensures ∙ c.in_ok-conjuncts.ensures.items in
    record {
      filter = c.each_row.ensures.bound;
      conjuncts = subst (AllByRecursion IsBoundConjunct) (sym one) (c.condition.ensures.bound, tt);
      few_rows = few_rows c.from_vec-2.result c.condition.result one c.condition.ensures.rows;
      goal = subst AreBoundTerms (sym (c.from_vec.ensures ∙ c.in_ok-vec-2.ensures.items)) (lit≤ tt, (c.number-2.ensures.bound, tt));
    }

pub invariant_of-result-clause-copies : goal.invariant_of-result-clause-copies
invariant_of-result-clause-copies c = record { few_copies = lit≤ tt; repeat = lit≤ tt; reason = ∣ inl (0, refl, refl) ∣₁ }

pub returns : goal.returns
returns c =
    let row : List Cell = cells.Num (pos 2) ∷ [] in
    let one = c.from_vec-2.ensures ∙ c.in_ok-conjuncts.ensures.items in
    let terms = c.condition.ensures.terms ∙ (c.from_vec-terms.ensures ∙ c.in_ok-vec.ensures.items) in
    record {
      filter = c.each_row.ensures.fits;
      conjuncts = all_fit row c.from_vec-2.result c.condition.result one (one_fits row c.condition.result.terms c.number.result terms c.number.ensures.fits);
      goal = one_fits row c.from_vec.result c.number-2.result (c.from_vec.ensures ∙ c.in_ok-vec-2.ensures.items) c.number-2.ensures.fits;
    }
