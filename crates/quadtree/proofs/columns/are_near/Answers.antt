use Rattle.std.proofs.Common.{◌≡◌, sym, ◌∙◌, rules, w64, arith, length, pos, get_or, SFits}
use Rattle.std.proofs.lemmas.Int.{to_z-of_z}
use Rattle.quadtree.specs.Points.{is_column_near}
use Rattle.quadtree.specs.Places.{points_at}
use Rattle.quadtree.proofs.Lists.{below-more, below-fails, length-means, means-at, has_column}
use Rattle.quadtree.proofs.columns.are_near.Goals as goal

pub bounds-rep-column : goal.bounds-rep-column
bounds-rep-column c =
    let e = length-means (length c.args.radius.now) (points_at c.args.points.now c.args.places.now) c.args.rep.now c.requires.means in
    omega arith

pub returns-then-not-is_column_near : goal.returns-then-not-is_column_near
returns-then-not-is_column_near c =
    let all = points_at c.args.points.now c.args.places.now in
    let column = c.loop-column.column in
    let fm : SFits w64 (get_or c.args.rep.now column (pos 0)) = search rules in
    let fr : SFits w64 (get_or c.args.radius.now column (pos 0)) = search rules in
    let mean = means-at (length c.args.radius.now) all c.args.rep.now column c.requires.means c.loop-column-test.true in
    let near = rw mean at (simp to_z-of_z at c.is_column_near.ensures) in
    sym (below-fails (is_column_near c.args.radius.now all) (length c.args.radius.now) column c.loop-column-test.true (sym near ∙ c.if-not-is_column_near.true))

pub loop-column-preserved : goal.loop-column-preserved
loop-column-preserved c =
    let all = points_at c.args.points.now c.args.places.now in
    let column = c.loop-column.column in
    let fm : SFits w64 (get_or c.args.rep.now column (pos 0)) = search rules in
    let fr : SFits w64 (get_or c.args.radius.now column (pos 0)) = search rules in
    let mean = means-at (length c.args.radius.now) all c.args.rep.now column c.requires.means c.loop-column-test.true in
    let near = rw mean at (simp to_z-of_z at c.is_column_near.ensures) in
    below-more (is_column_near c.args.radius.now all) column c.loop-column.invariant (sym near ∙ c.if-not-is_column_near.false)
