-- A term more.
use Rattle.std.proofs.Common.{◌≡◌, ◌^◌, ◌≤◌, ◌+◌, ◌*◌, List, ◌∷◌, ℤ, pos, ◌+ℤ◌, ◌*ℤ◌, get_or, drop, map, ap, sym, subst, ◌∙◌, to_z, rules, arith}
use Rattle.std.specs.List.{AllByRecursion}
use Rattle.std.specs.Int.RustNames.{unsigned_abs}
use Rattle.std.specs.Cmp.{second_so}
use Rattle.std.proofs.lemmas.Int.{to_z-of_z}
use Rattle.std.proofs.lemmas.List.{at_drop_more}
use Rattle.package_query.specs.Meaning.{copies_give}
use Rattle.package_query.proofs.SumSteps.{sum_step, abs-add, kept_sum}
use Rattle.bound_query.specs.declared.queries.BoundTerm.{BoundTerm}
use Rattle.bound_query.specs.Terms.{term_value}
use Rattle.bound_query.specs.Fits.{agg_fits, fits_terms, IsBoundTerm}
use Rattle.package_judge.proofs.sums.copies_give.Goals as goal
use mir.Val.{SFits}
use mir.Syntax.{w128}

pub loop-term-preserved : goal.loop-term-preserved
loop-term-preserved c =
    let terms = c.args.terms.now in
    let count = c.args.count in
    let row = c.args.row.now in
    let i = c.loop-term.term-index in
    let term = c.term-item.result in
    let more : drop i terms ≡ get_or terms i term ∷ drop (i + 1) terms = at_drop_more (λ (ts : List BoundTerm). ts) terms i term c.loop-term-test.true in
    let sum = to_z w128 c.loop-term.sum-bits in
    let step = c.times-sum.result in
    let later = copies_give (map term_value (drop (i + 1) terms)) count row in
    let bound : unsigned_abs sum ≤ i * 2 ^ 100 = c.loop-term.invariant.1 in
    let small : unsigned_abs sum ≤ 2 ^ 125 = omega (arith, bound, c.requires.bound.0, c.loop-term-test.true) in
    let small_step : unsigned_abs step ≤ 2 ^ 125 = omega (arith, c.times-sum.ensures.small) in
    let fits : SFits w128 c.term_value.result = search rules in
    let value : step ≡ pos count *ℤ term_value (get_or terms i term) row =
    (simp to_z-of_z at c.times-sum.ensures.value) ∙ (ap (λ (z : ℤ). pos count *ℤ z) c.term_value.ensures.value
    ∙ ap (λ (t : BoundTerm). pos count *ℤ term_value t row) c.term-item.is) in
    let next : copies_give (map term_value (drop i terms)) count row ≡ step +ℤ later =
    ap (λ (ts : List BoundTerm). copies_give (map term_value ts) count row) more ∙ ap (λ (z : ℤ). z +ℤ later) (sym value) in
    rw (kept_sum sum step small small_step) (
      sum_step sum step (copies_give (map term_value (drop i terms)) count row) later (copies_give (map term_value terms) count row) c.loop-term.invariant.0 next,
      omega (arith, abs-add sum step, bound, c.times-sum.ensures.small),
      second_so (agg_fits row (get_or terms i term).agg) (fits_terms row (drop (i + 1) terms)) (ap (fits_terms row) (sym more) ∙ c.loop-term.invariant.2),
      (subst (λ (ts : List BoundTerm). AllByRecursion IsBoundTerm ts) more c.loop-term.invariant.3).1,
    )
