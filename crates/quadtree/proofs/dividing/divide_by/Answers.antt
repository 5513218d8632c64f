use Rattle.std.proofs.Common.{rules, arith, ◌≡◌, ◌+◌, ◌-◌, ◌<◌, ◌≤◌, length, get_or, List, [], ℕ, sym, ap, ◌∙◌, to_z, of_z, w64}
use Rattle.std.proofs.lemmas.Int.{to_z-of_z}
use Rattle.quadtree.specs.Points.{Point, is_above}
use Rattle.quadtree.specs.Places.{points_at, IsCut}
use Rattle.quadtree.proofs.Halving.{Halved, halved-room, halved-more, places-more, parted-places, halved-all, length-cut, cut-at, room-of}
use Rattle.quadtree.proofs.dividing.divide_by.Goals as goal

pub overflow_add-end : goal.overflow_add-end
overflow_add-end c =
    let room = room-of c.args.points.now (is_above (to_z w64 (of_z w64 c.args.mean)) c.args.column) c.args.places.now c.args.lengths.now c.loop-length.places c.loop-length.next.items c.loop-length.start c.loop-length.length-index c.requires.cut c.loop-length.invariant.1 c.loop-length-test.true in
    search rules

pub offset_bounds-places-start : goal.offset_bounds-places-start
offset_bounds-places-start c =
    let room = room-of c.args.points.now (is_above (to_z w64 (of_z w64 c.args.mean)) c.args.column) c.args.places.now c.args.lengths.now c.loop-length.places c.loop-length.next.items c.loop-length.start c.loop-length.length-index c.requires.cut c.loop-length.invariant.1 c.loop-length-test.true in
    search rules

pub slice_bounds-part_by-end : goal.slice_bounds-part_by-end
slice_bounds-part_by-end c =
    let room = room-of c.args.points.now (is_above (to_z w64 (of_z w64 c.args.mean)) c.args.column) c.args.places.now c.args.lengths.now c.loop-length.places c.loop-length.next.items c.loop-length.start c.loop-length.length-index c.requires.cut c.loop-length.invariant.1 c.loop-length-test.true in
    search rules

pub loop-length-preserved : goal.loop-length-preserved
loop-length-preserved c =
    let points = c.args.points.now in
    let above = is_above (to_z w64 (of_z w64 c.args.mean)) c.args.column in
    let k = c.loop-length.length-index in
    let start = c.loop-length.start in
    let places = c.loop-length.places in
    let len = get_or c.args.lengths.now k 0 in
    let count = start + len - start in
    let within : (lists : List (List Point)) → IsCut (points_at points c.args.places.now) c.args.lengths.now lists → k < length lists = λ lists cut. omega (arith, length-cut (points_at points c.args.places.now) c.args.lengths.now lists cut, c.loop-length-test.true) in
    let made : (lists : List (List Point)) → IsCut (points_at points c.args.places.now) c.args.lengths.now lists → Halved points above lists _ c.add_length-in-loop-length.new.lengths.items (start + len) (k + 1) = λ lists cut.
    halved-more points above lists places c.loop-length.next.items start k (c.loop-length.invariant.1 lists cut) (within lists cut) len count c.in_ok-middle.middle c.part_by.new.places c.add_length.new.lengths.items c.add_length-in-loop-length.new.lengths.items (cut-at (points_at points c.args.places.now) c.args.lengths.now lists k cut (within lists cut)) (omega arith) c.in_ok-middle.ensures c.in_ok-add_length.ensures c.in_ok-add_length-2.ensures in
    (places-more points above places start count c.in_ok-middle.middle c.part_by.new.places c.loop-length.invariant.0 c.in_ok-middle.ensures, made)

pub returns-clause-lists : goal.returns-clause-lists
returns-clause-lists c = λ lists cut.
    let fm = c.ranges.mean in
    let halved = simp to_z-of_z at c.loop-length.invariant.1 in
    halved-all c.args.points.now (is_above c.args.mean c.args.column) lists c.loop-length.places c.loop-length.next.items c.loop-length.start c.loop-length.length-index (halved lists cut) (omega (arith, length-cut (points_at c.args.points.now c.args.places.now) c.args.lengths.now lists cut, c.loop-length-test.false))
