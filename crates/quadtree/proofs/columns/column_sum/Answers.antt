use Rattle.std.proofs.Common.{◌≡◌, sym, ap, ◌∙◌, rules, arith, w64, to_z, of_z, ◌+ℤ◌, get_or}
use Rattle.std.proofs.lemmas.Int.{ints}
use Rattle.quadtree.specs.Points.{coordinate}
use Rattle.quadtree.specs.Places.{point_at}
use Rattle.quadtree.proofs.Lists.{sum-more}
use Rattle.quadtree.proofs.columns.column_sum.Goals as goal

pub loop-place-preserved : goal.loop-place-preserved
loop-place-preserved c =
    let before = to_z w64 c.loop-place.sum-bits in
    let point = point_at c.args.points.now (get_or c.args.places.now c.loop-place.place-index 0) in
    let more = sum-more c.args.column c.args.points.now c.args.places.now c.loop-place.place-index before c.loop-place-test.true c.loop-place.invariant.0 in
    let whole : to_z w64 (of_z w64 (before +ℤ to_z w64 (of_z w64 c.coordinate-sum.result))) ≡ before +ℤ coordinate c.args.column point = omega (arith, ints, c.loop-place.invariant.1, c.coordinate-sum.ensures.small, c.coordinate-sum.ensures.value) in
    (whole ∙ more, omega (arith, ints, c.loop-place.invariant.1, c.coordinate-sum.ensures.small))
