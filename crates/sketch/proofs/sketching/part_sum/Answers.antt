use Rattle.std.proofs.Common.{◌≡◌, ℕ, rules, arith}
use Rattle.std.proofs.lemmas.Int.{to_z-of_z}
use mir.Syntax.{w64, w128}
use mir.Val.{SFits, to_z}
use Rattle.lin_bound.specs.Sums.{int_at, nat_at}
use Rattle.sketch.specs.Lines.{numbers_of}
use Rattle.sketch.proofs.Cuts.{part_length}
use Rattle.sketch.proofs.Means.{stored_more}
use Rattle.sketch.proofs.sketching.part_sum.Goals as goal

pub loop-member-preserved : goal.loop-member-preserved
loop-member-preserved c =
    let f = λ (k : ℕ). int_at (numbers_of c.args.problem.now c.args.line) (nat_at c.args.part.now k) in
    let fits : SFits w64 c.number.result = search rules in
    let from : c.from-sum.result ≡ c.number.result = simp to_z-of_z at c.from-sum.ensures in
    let few = part_length c.args.problem.now c.args.part.now c.requires.part in
    let more = stored_more f c.loop-member.member-index (to_z w128 c.loop-member.sum-bits) c.number.result c.loop-member.invariant.value c.loop-member.invariant.range c.number.ensures.value fits (omega (arith, few, c.number.ensures.legal.few_variables)) in
    rw from (record { value = more.0; range = more.1 })

pub returns-clause-few : goal.returns-clause-few
returns-clause-few c =
    omega (arith, part_length c.args.problem.now c.args.part.now c.requires.part, c.variables-legal.ensures.legal.few_variables)
