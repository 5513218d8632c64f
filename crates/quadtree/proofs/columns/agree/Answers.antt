use Rattle.std.proofs.Common.{◌≡◌, true, sym, ◌∙◌, rules, take, length, SFits, w64, to_z, of_z}
use Rattle.std.proofs.lemmas.Int.{to_z-of_z}
use Rattle.quadtree.specs.Points.{is_at}
use Rattle.quadtree.proofs.Lists.{all-more, agree-fails, agree-holds}
use Rattle.quadtree.proofs.columns.agree.Goals as goal

pub returns-then-not-is_at : goal.returns-then-not-is_at
returns-then-not-is_at c =
    let r = c.coordinate-number.result in
    let f : SFits w64 r = search rules in
    sym (agree-fails c.args.points.now c.args.places.now c.requires.some c.args.column (to_z w64 (of_z w64 r)) (to_z-of_z w64 r f ∙ c.coordinate-number.ensures.value) c.loop-place.place-index c.loop-place-test.true (sym c.is_at.ensures ∙ c.if-not-is_at.true))

pub loop-place-preserved : goal.loop-place-preserved
loop-place-preserved c =
    all-more (is_at (to_z w64 (of_z w64 c.coordinate-number.result)) c.args.column) c.args.points.now c.args.places.now c.loop-place.place-index c.loop-place-test.true c.loop-place.invariant (sym c.is_at.ensures ∙ c.if-not-is_at.false)
