use Rattle.std.proofs.Common.{rules, get_or, pos}
use Rattle.std.proofs.lemmas.Int.{to_z-of_z}
use mir.Syntax.{w64, w128}
use mir.Val.{SFits}
use Rattle.sketch.proofs.Refines.{sides_more}
use Rattle.sketch.proofs.refining.sides_left.Goals as goal

pub loop-row-preserved : goal.loop-row-preserved
loop-row-preserved c =
    let other_fits : SFits w128 (get_or c.args.others.now c.loop-row.row (pos 0)) = search rules in
    let fits : SFits w64 c.side_left.result = search rules in
    let value = simp to_z-of_z at c.side_left.ensures in
    let items = simp to_z-of_z at c.in_ok-push.ensures.ok in
    let more = sides_more c.args.problem.now c.args.others.now c.loop-row.row in
    cc
