use Rattle.std.proofs.Common.{◌≡◌, refl, ap, sym, ◌∙◌, rules, w64, to_z, of_z, arith, ℤ, pos, ◌-ℤ◌, unsigned_abs}
use Rattle.std.specs.Int.{w128}
use Rattle.std.proofs.lemmas.Int.{ints}
use Rattle.quadtree.specs.Points.{coordinate}
use Rattle.quadtree.specs.Places.{point_at}
use Rattle.quadtree.proofs.columns.is_near.Goals as goal

pub returns : goal.returns
returns c =
    let apart = coordinate c.args.column (point_at c.args.points.now c.args.place) -ℤ c.args.mean in
    let fm = c.ranges.mean in
    let fr = c.ranges.radius in
    let inner : to_z w128 (of_z w128 (to_z w128 (of_z w128 c.from-number.result) -ℤ to_z w128 (of_z w128 c.from.result))) ≡ apart = omega (arith, ints, c.coordinate.ensures.small, c.coordinate.ensures.value) in
    let far : c.abs.result ≡ pos (unsigned_abs apart) = c.abs.ensures.value ∙ ap (λ (z : ℤ). pos (unsigned_abs z)) inner in
    let left : to_z w128 (of_z w128 c.abs.result) ≡ pos (unsigned_abs apart) = omega (arith, ints, far, c.coordinate.ensures.small, c.coordinate.ensures.value) in
    let right : to_z w128 (of_z w128 c.from-2.result) ≡ c.args.radius = omega (arith, ints) in
    rw (left, right) refl
