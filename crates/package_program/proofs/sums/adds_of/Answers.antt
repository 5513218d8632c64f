use Rattle.std.proofs.Common.{◌≡◌, ◌*◌, ◌<◌, ◌≤◌, IsTrue, map, length, ℕ, List, ◌++◌, ◌∷◌, [], ap, ◌∙◌, get_or, refl, ℤ, arith, rules, w64}
use Rattle.std.proofs.lemmas.Int.{to_z-of_z}
use Rattle.std.proofs.lemmas.List.{length-map}
use Rattle.std.specs.Int.RustNames.{unsigned_abs}
use Rattle.table_schema.specs.declared.cells.Cell.{Cell}
use Rattle.bound_query.specs.Fits.{fits_terms}
use Rattle.bound_query.specs.Terms.{term_value}
use Rattle.package_program.specs.Program.{per_copy}
use Rattle.package_program.specs.Translation.{entries_of}
use Rattle.package_program.proofs.ColumnSteps.{numbers_at}
use Rattle.package_program.proofs.AddSteps.{all_at, row_at_place, size_more, adds_more, first_above}
use Rattle.package_program.proofs.sums.adds_of.Goals as goal
use mir.Val.{SFits}
use mir.Syntax.{w128}

pub per_copy-adds-requires-clause-fits : goal.per_copy-adds-requires-clause-fits
per_copy-adds-requires-clause-fits c =
    let rows = c.args.candidates.now in
    let i = c.loop-place.place in
    let inside : i < length (entries_of rows) = rw length-map c.loop-place-test.true in
    let fits = all_at (λ (entry : ℕ × List Cell). IsTrue (fits_terms entry.1 c.args.terms.now)) (entries_of rows) i c.index-candidates-place.result.now inside c.requires.fits in
    rw (row_at_place rows i c.index-candidates-place.result c.as_slice.result.now c.index-candidates-place.is c.as_slice.ensures) fits

pub returns-then-total-gt-MOST_SUM : goal.returns-then-total-gt-MOST_SUM
returns-then-total-gt-MOST_SUM c =
    let rows = c.args.candidates.now in
    let i = c.loop-place.place in
    let inside : i < length (entries_of rows) = rw length-map c.loop-place-test.true in
    let fits : SFits w128 c.per_copy-adds.result = search rules in
    let kept = to_z-of_z w128 c.per_copy-adds.result fits in
    let row = row_at_place rows i c.index-candidates-place.result c.as_slice.result.now c.index-candidates-place.is c.as_slice.ensures in
    let is : c.per_copy-adds.result ≡ per_copy (map term_value c.args.terms.now) (get_or (entries_of rows) i c.index-candidates-place.result.now).1 =
    c.per_copy-adds.ensures.value ∙ ap (per_copy (map term_value c.args.terms.now)) row in
    let size : c.size_of.result ≡ c.args.bound * unsigned_abs c.per_copy-adds.result = c.size_of.ensures ∙ ap (λ (z : ℤ). c.args.bound * unsigned_abs z) kept in (
      refl,
      first_above c.args.bound (map term_value c.args.terms.now) (entries_of rows) i c.index-candidates-place.result.now c.per_copy-adds.result c.loop-place.total c.size_of.result
          inside is c.loop-place.invariant.total c.loop-place.invariant.small size c.if-total-gt-MOST_SUM.true,
    )

pub loop-place-preserved : goal.loop-place-preserved
loop-place-preserved c =
    let rows = c.args.candidates.now in
    let i = c.loop-place.place in
    let inside : i < length (entries_of rows) = rw length-map c.loop-place-test.true in
    let fits : SFits w128 c.per_copy-adds.result = search rules in
    let kept = to_z-of_z w128 c.per_copy-adds.result fits in
    let narrow : SFits w64 c.coefficient.result = search rules in
    let pushed = to_z-of_z w64 c.coefficient.result narrow in
    let row = row_at_place rows i c.index-candidates-place.result c.as_slice.result.now c.index-candidates-place.is c.as_slice.ensures in
    let is : c.per_copy-adds.result ≡ per_copy (map term_value c.args.terms.now) (get_or (entries_of rows) i c.index-candidates-place.result.now).1 =
    c.per_copy-adds.ensures.value ∙ ap (per_copy (map term_value c.args.terms.now)) row in
    let size : c.size_of.result ≡ c.args.bound * unsigned_abs c.per_copy-adds.result = c.size_of.ensures ∙ ap (λ (z : ℤ). c.args.bound * unsigned_abs z) kept in
    let step = size_more c.args.bound (map term_value c.args.terms.now) (entries_of rows) i c.index-candidates-place.result.now c.per_copy-adds.result inside is in
    record {
      added = c.in_ok-push.ensures.ok ∙ ap (λ (z : ℤ). c.loop-place.sum ++ z ∷ []) pushed ∙ ap (λ (l : List ℤ). l ++ c.coefficient.result ∷ []) c.loop-place.invariant.added
          ∙ adds_more c.args.bound (map term_value c.args.terms.now) (entries_of rows) i c.index-candidates-place.result.now c.coefficient.result c.per_copy-adds.result inside is
          c.coefficient.ensures.none (λ (some : 1 ≤ c.args.bound). c.coefficient.ensures.some some ∙ kept);
      total = omega (arith, c.loop-place.invariant.total, size, step);
      small = omega (arith, c.if-total-gt-MOST_SUM.false);
    }

pub per_copy-adds-requires-clause-kept : goal.per_copy-adds-requires-clause-kept
per_copy-adds-requires-clause-kept c =
    let rows = c.args.candidates.now in
    let i = c.loop-place.place in
    let inside : i < length (entries_of rows) = rw length-map c.loop-place-test.true in
    let kept = numbers_at (entries_of rows) c.args.columns.now i c.index-candidates-place.result.now inside c.requires.kept in
    rw (row_at_place rows i c.index-candidates-place.result c.as_slice.result.now c.index-candidates-place.is c.as_slice.ensures) kept
