use Rattle.std.proofs.Common.{◌+◌, refl, subst, map, List, Err, arith}
use Rattle.std.proofs.lemmas.Result.{err_from_is_err_and}
use Rattle.bound_query.specs.Terms.{term_value}
use Rattle.bound_query.specs.declared.queries.BoundTerm.{BoundTerm}
use Rattle.package_program.specs.Program.{adds}
use Rattle.package_program.specs.Translation.{entries_of, SumGives}
use Rattle.package_program.proofs.FormSteps.{conjunct_fits, number_small, rows_more, rhs_more, small_more, sum_fails}
use Rattle.package_program.proofs.Legal.{adds_small}
use Rattle.package_program.proofs.translation.rows_of.Goals as goal

pub overflow_cast-number : goal.overflow_cast-number
overflow_cast-number c =
    let small = number_small c.args.query.now c.loop-place.place (rw c.as_slice-conjunct-items.ensures at c.loop-place-test.true) in omega (arith, small)

pub overflow_add-number : goal.overflow_add-number
overflow_add-number c =
    let small = number_small c.args.query.now c.loop-place.place (rw c.as_slice-conjunct-items.ensures at c.loop-place-test.true) in omega (arith, small)

pub adds_of-requires-clause-fits : goal.adds_of-requires-clause-fits
adds_of-requires-clause-fits c =
    let inside = rw c.as_slice-conjunct-items.ensures at c.loop-place-test.true in
    let is = rw c.as_slice-conjunct-items.ensures at c.conjunct-item.is in
    conjunct_fits c.args.query.now (entries_of c.args.candidates.now) c.loop-place.place c.conjunct-item.result c.as_slice-terms.result.now inside is c.as_slice-terms.ensures c.requires.rows.each

pub returns-in_err-sum : goal.returns-in_err-sum
returns-in_err-sum c =
    let inside = rw c.as_slice-conjunct-items.ensures at c.loop-place-test.true in
    let is = rw c.as_slice-conjunct-items.ensures at c.conjunct-item.is in
    let gives = subst (λ (terms : List BoundTerm). SumGives (c.loop-place.place + 1) c.args.query.now.row_bound (map term_value terms) (entries_of c.args.candidates.now)
    (adds c.args.query.now.row_bound (map term_value terms) (entries_of c.args.candidates.now)) (Err c.in_err-sum.field-0.0)) c.as_slice-terms.ensures c.in_err-sum.ensures in
    let p = err_from_is_err_and c.from_residual.result c.from_residual.ensures.1 in
    rw (p.1, p.2) (sum_fails c.args.query.now (entries_of c.args.candidates.now) c.loop-place.place c.conjunct-item.result inside is c.in_err-sum.field-0.0 (c.loop-place.place + 1)
    (adds c.args.query.now.row_bound (map term_value c.conjunct-item.result.terms) (entries_of c.args.candidates.now)) refl
    c.loop-place.invariant.small gives)

pub add-requires-clause-sum : goal.add-requires-clause-sum
add-requires-clause-sum c = rw c.in_ok-sum.ensures.0 (adds_small c.args.query.now.row_bound (map term_value c.as_slice-terms.result.now) (entries_of c.args.candidates.now) c.in_ok-sum.ensures.1)

pub loop-place-preserved : goal.loop-place-preserved
loop-place-preserved c =
    let query = c.args.query.now in
    let rows = entries_of c.args.candidates.now in
    let place = c.loop-place.place in
    let conjunct = c.conjunct-item.result in
    let inside = rw c.as_slice-conjunct-items.ensures at c.loop-place-test.true in
    let is = rw c.as_slice-conjunct-items.ensures at c.conjunct-item.is in
    let gives = rw c.as_slice-terms.ensures at c.in_ok-sum.ensures in
    record {
      rows = rows_more query rows place conjunct inside is c.loop-place.rows.rows c.add.new.self.rows c.in_ok-sum.sum c.loop-place.invariant.rows gives.0 c.in_ok-add.ensures.rows;
      rhs = rhs_more query rows place conjunct inside is c.loop-place.rows.rhs c.add.new.self.rhs c.loop-place.invariant.rhs c.in_ok-add.ensures.rhs;
      small = small_more query rows place conjunct inside is c.loop-place.invariant.small gives.1;
    }
