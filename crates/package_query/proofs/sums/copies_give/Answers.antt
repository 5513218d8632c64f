use Rattle.std.proofs.Common.{◌≡◌, ◌^◌, ◌≤◌, ◌+◌, ◌*◌, ℤ, pos, ◌+ℤ◌, ◌*ℤ◌, get_or, drop, map, ap, sym, ◌∙◌, w64, to_z, rules, arith}
use Rattle.std.specs.Int.RustNames.{unsigned_abs}
use Rattle.std.proofs.lemmas.Int.{to_z-of_z}
use Rattle.package_query.specs.Meaning.{copies_give}
use Rattle.package_query.specs.Plain.{number_at}
use Rattle.package_query.proofs.SumSteps.{sum_step, abs-add, kept_sum, copies_give_more}
use Rattle.package_query.proofs.sums.copies_give.Goals as goal
use mir.Val.{SFits}
use mir.Syntax.{w128}

pub loop-place-preserved : goal.loop-place-preserved
loop-place-preserved c =
    let terms = c.args.terms.now in
    let count = c.args.count in
    let row = c.args.row.now in
    let i = c.loop-place.place-index in
    let sum = to_z w128 c.loop-place.sum-bits in
    let step = c.times-sum.result in
    let later = copies_give (map number_at (drop (i + 1) terms)) count row in
    let bound : unsigned_abs sum ≤ i * 2 ^ 83 = c.loop-place.invariant.1 in
    let small : unsigned_abs sum ≤ 2 ^ 125 = omega (arith, bound, c.requires.terms, c.loop-place-test.true) in
    let small_step : unsigned_abs step ≤ 2 ^ 125 = omega (arith, c.times-sum.ensures.small) in
    let fits : SFits w64 c.number_at.result = search rules in
    let value : step ≡ pos count *ℤ number_at (get_or terms i 0) row =
    c.times-sum.ensures.value ∙ ap (λ (z : ℤ). pos count *ℤ z) (to_z-of_z w64 c.number_at.result fits ∙ c.number_at.ensures) in
    let next : copies_give (map number_at (drop i terms)) count row ≡ step +ℤ later =
    copies_give_more terms i count row c.loop-place-test.true ∙ ap (λ (z : ℤ). z +ℤ later) (sym value) in
    rw (kept_sum sum step small small_step) (
      sum_step sum step (copies_give (map number_at (drop i terms)) count row) later (copies_give (map number_at terms) count row) c.loop-place.invariant.0 next,
      omega (arith, abs-add sum step, bound, c.times-sum.ensures.small),
    )
