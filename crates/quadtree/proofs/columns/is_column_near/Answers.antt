use Rattle.std.proofs.Common.{◌≡◌, sym, ◌∙◌, rules, w64, to_z, of_z}
use Rattle.std.proofs.lemmas.Int.{to_z-of_z}
use Rattle.quadtree.specs.Points.{is_near}
use Rattle.quadtree.proofs.Lists.{all-more, all-fails}
use Rattle.quadtree.proofs.columns.is_column_near.Goals as goal

pub returns-then-not-is_near : goal.returns-then-not-is_near
returns-then-not-is_near c =
    let fm = c.ranges.mean in
    let fr = c.ranges.radius in
    let e = simp to_z-of_z at c.is_near.ensures in
    sym (all-fails (is_near c.args.mean c.args.radius c.args.column) c.args.points.now c.args.places.now c.loop-place.place-index c.loop-place-test.true (sym e ∙ c.if-not-is_near.true))

pub loop-place-preserved : goal.loop-place-preserved
loop-place-preserved c =
    all-more (is_near (to_z w64 (of_z w64 c.args.mean)) (to_z w64 (of_z w64 c.args.radius)) c.args.column) c.args.points.now c.args.places.now c.loop-place.place-index c.loop-place-test.true c.loop-place.invariant (sym c.is_near.ensures ∙ c.if-not-is_near.false)
