use Rattle.std.proofs.Common.{◌≡◌, ◌<◌, length, sym, ap, ◌∙◌, rules, arith, to_z, of_z, w64}
use Rattle.std.proofs.lemmas.Int.{to_z-of_z}
use Rattle.quadtree.specs.Places.{is_place_above}
use Rattle.quadtree.proofs.Parting.{Parts, at-kept, part-above, part-other, part-all, put_mid-end}
use Rattle.quadtree.proofs.dividing.part_by.Goals as goal

pub is_above-requires-clause-place : goal.is_above-requires-clause-place
is_above-requires-clause-place c =
    rw (at-kept c.args.places.now c.loop-at.places c.loop-at.at c.loop-at.invariant.rest) (c.requires.places c.loop-at.at 0 c.loop-at-test.true)

pub loop-at-preserved-then-is_above : goal.loop-at-preserved-then-is_above
loop-at-preserved-then-is_above c =
    let within : c.loop-at.at < length c.loop-at.places = omega (arith, c.loop-at.invariant.long) in
    rw c.in_ok-push.ensures.items (part-above (is_place_above c.args.points.now (to_z w64 (of_z w64 c.args.mean)) c.args.column) c.args.places.now c.loop-at.places c.loop-at.above.items c.loop-at.middle c.loop-at.at c.loop-at.invariant within (sym c.is_above.ensures ∙ c.if-is_above.true))

pub loop-at-preserved : goal.loop-at-preserved
loop-at-preserved c =
    let within : c.loop-at.at < length c.loop-at.places = omega (arith, c.loop-at.invariant.long) in
    part-other (is_place_above c.args.points.now (to_z w64 (of_z w64 c.args.mean)) c.args.column) c.args.places.now c.loop-at.places c.loop-at.above.items c.loop-at.middle c.loop-at.at c.loop-at.invariant within (sym c.is_above.ensures ∙ c.if-is_above.false)

pub returns : goal.returns
returns c =
    let fm = c.ranges.mean in
    let parts = simp to_z-of_z at c.loop-at.invariant in
    let written : c.copy_from_slice.new.self ≡ c.loop-at.above.items = c.copy_from_slice.ensures.after ∙ c.as_slice.ensures.value in
    let end = put_mid-end c.loop-at.middle c.loop-at.places c.loop-at.above.items (omega (arith, c.loop-at.invariant.count, c.loop-at.invariant.within, c.loop-at.invariant.long)) in
    rw (written, end) (part-all (is_place_above c.args.points.now c.args.mean c.args.column) c.args.places.now c.loop-at.places c.loop-at.above.items c.loop-at.middle c.loop-at.at parts (omega (arith, c.loop-at.invariant.long)))
