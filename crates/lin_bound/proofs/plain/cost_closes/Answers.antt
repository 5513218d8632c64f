use Rattle.std.proofs.Common.{◌≡◌, arith, rules}
use Rattle.std.proofs.lemmas.Int.{ints, to_z-of_z}
use mir.Syntax.{w64}
use mir.Val.{SFits}
use Rattle.lin_bound.specs.Problem.{variables}
use Rattle.lin_bound.specs.Activities.{greatest_activity}
use Rattle.lin_bound.proofs.PlainBounds.{cost_closes}
use Rattle.lin_bound.proofs.plain.cost_closes.Goals as goal

pub returns-in-Some : goal.returns-in-Some
returns-in-Some c =
    let fits : SFits w64 c.most_of.result = search rules in
    let value_fits : SFits w64 c.in-Some.value = search rules in
    let most_is : c.most_of.result ≡ greatest_activity c.args.problem.now.cost c.args.region.now (variables c.args.problem.now) = rw c.costs.ensures.value at c.most_of.ensures in
    let law = cost_closes c.args.problem.now c.args.region.now c.in-Some.value in
    rw c.in-Some.is (simp to_z-of_z (
      λ h. law.0 (grind (arith, ints, h, most_is)),
      λ h. grind (arith, ints, law.1 h, most_is),
    ))
