use Rattle.std.proofs.Common.{◌≡◌, sym, ◌∙◌, rules, w64, to_z, of_z, arith, length, SFits}
use Rattle.std.proofs.lemmas.Int.{to_z-of_z}
use Rattle.quadtree.specs.Places.{points_at}
use Rattle.quadtree.proofs.Lists.{means-more}
use Rattle.quadtree.proofs.columns.means.Goals as goal

pub loop-column-preserved : goal.loop-column-preserved
loop-column-preserved c =
    let more = means-more c.loop-column.column (points_at c.args.points.now c.args.places.now) in
    let f : SFits w64 c.floored_mean.result = search rules in
    let items = simp to_z-of_z at c.in_ok-push.ensures.items in
    let value = c.floored_mean.ensures in
    cc
