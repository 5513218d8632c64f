use Rattle.std.proofs.Common.{◌≡◌, ◌^◌, ◌≤◌, ◌+◌, ◌*◌, ℤ, ◌+ℤ◌, drop, map, ap, sym, ◌∙◌, to_z, arith}
use Rattle.std.specs.Int.RustNames.{unsigned_abs}
use Rattle.bound_query.specs.Terms.{term_value}
use Rattle.bound_query.specs.declared.queries.BoundTerm.{BoundTerm}
use Rattle.package_query.proofs.SumSteps.{sum_step, abs-add, kept_sum}
use Rattle.package_program.specs.Program.{per_copy}
use Rattle.package_program.proofs.TermSums.{fits_at, per_copy_more}
use Rattle.package_program.proofs.copies.per_copy.Goals as goal
use mir.Syntax.{w128}

pub term_value-sum-requires-clause-fits : goal.term_value-sum-requires-clause-fits
term_value-sum-requires-clause-fits c =
    let fits = fits_at c.args.row.now c.args.terms.now c.loop-term.term-index c.term-item.result c.loop-term-test.true c.requires.fits in
    rw (← c.term-item.is) at fits

pub loop-term-preserved : goal.loop-term-preserved
loop-term-preserved c =
    let terms = c.args.terms.now in
    let row = c.args.row.now in
    let i = c.loop-term.term-index in
    let sum = to_z w128 c.loop-term.sum-bits in
    let step = c.term_value-sum.result in
    let later = per_copy (map term_value (drop (i + 1) terms)) row in
    let bound : unsigned_abs sum ≤ i * (2 * 10 ^ 24) = c.loop-term.invariant.small in
    let small : unsigned_abs sum ≤ 2 ^ 125 = omega (arith, bound, c.requires.bound.0, c.loop-term-test.true) in
    let small_step : unsigned_abs step ≤ 2 ^ 125 = omega (arith, c.term_value-sum.ensures.small) in
    let value : term_value c.term-item.result row ≡ step = sym c.term_value-sum.ensures.value in
    let next : per_copy (map term_value (drop i terms)) row ≡ step +ℤ later =
    per_copy_more row terms i c.term-item.result c.loop-term-test.true
    ∙ ap (λ (term : BoundTerm). term_value term row +ℤ later) (sym c.term-item.is) ∙ ap (λ (z : ℤ). z +ℤ later) value in
    rw (kept_sum sum step small small_step) (record {
      value = sum_step sum step (per_copy (map term_value (drop i terms)) row) later (per_copy (map term_value terms) row) c.loop-term.invariant.value next;
      small = omega (arith, abs-add sum step, bound, c.term_value-sum.ensures.small);
    })
