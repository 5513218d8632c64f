use Rattle.std.proofs.Common.{arith, rules}
use Rattle.std.proofs.lemmas.Int.{to_z-of_z}
use mir.Syntax.{w128}
use mir.Val.{SFits}
use Rattle.lin_bound.specs.Problem.{variables}
use Rattle.lin_bound.proofs.Sizes.{parts_fit}
use Rattle.lin_bound.proofs.bounds.gains.Goals as goal

pub returns-then-most_mass-lt-LIGHT-clause-small : goal.returns-then-most_mass-lt-LIGHT-clause-small
returns-then-most_mass-lt-LIGHT-clause-small c =
    let fits : SFits w128 c.gains.result = search rules in
    simp to_z-of_z (parts_fit c.args.problem.now c.args.region.now c.args.mult.now c.variables-legal.ensures.legal c.requires.region c.requires.mult (variables c.args.problem.now) c.gains.result (omega arith) c.gains.ensures)

pub returns-else-most_mass-lt-LIGHT-clause-small : goal.returns-else-most_mass-lt-LIGHT-clause-small
returns-else-most_mass-lt-LIGHT-clause-small c =
    let fits : SFits w128 c.gains-else-most_mass-lt-LIGHT.result = search rules in
    simp to_z-of_z (parts_fit c.args.problem.now c.args.region.now c.args.mult.now c.variables-legal.ensures.legal c.requires.region c.requires.mult (variables c.args.problem.now) c.gains-else-most_mass-lt-LIGHT.result (omega arith) c.gains-else-most_mass-lt-LIGHT.ensures)
