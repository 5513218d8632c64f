use Rattle.std.proofs.Common.{rules}
use Rattle.std.proofs.lemmas.Int.{to_z-of_z}
use mir.Syntax.{w128}
use mir.Val.{SFits}
use Rattle.sketch.specs.declared.lines.Line.TheVariants.{Row}
use Rattle.sketch.proofs.Gifts.{line_small}
use Rattle.sketch.proofs.giving.given.Goals as goal

pub returns-clause-small : goal.returns-clause-small
returns-clause-small c =
    let fits : SFits w128 c.given_to.result = search rules in
    let mean_fits = c.ranges.mean in
    simp to_z-of_z (line_small c.args.problem.now (Row c.args.row) c.args.part.now c.args.held.now c.given_to.result c.variables-legal.ensures.legal c.requires.row c.requires.even c.requires.part c.requires.held c.given_to.ensures)
