use Rattle.std.proofs.Common.{rules, ◌≡◌, ◌<◌, ◌≤◌, length, ℕ, ◌+◌, ◌-◌, List, [], take, drop, ap, sym, ◌∙◌, arith}
use Rattle.quadtree.specs.Points.{means}
use Rattle.quadtree.specs.Places.{points_at}
use Rattle.quadtree.proofs.Lists.{length-means}
use Rattle.quadtree.proofs.SplitTurns.{splits-none, splits-all, splits-room, part-places, part-length, some-len, splits-added, less-added, splits-parted, less-parted, put_mid-long, long-as}
use Rattle.quadtree.proofs.splitting.split_places.Goals as goal

pub loop-length-init : goal.loop-length-init
loop-length-init c =
    rw c.new-groups.ensures.items (splits-none c.args.size c.args.radius.now c.args.points.now c.args.places.now c.add_length.new.lengths.items c.requires.places (rw c.new-pending.ensures.items at c.in_ok-add_length.ensures))

pub overflow_add-end : goal.overflow_add-end
overflow_add-end c =
    let room = splits-room c.args.size c.args.radius.now c.args.points.now c.loop-length.places c.loop-length.pending.items c.pop.new.self.items c.loop-length.groups.items c.loop-length.start c.in-Some.length c.loop-length.invariant c.in-Some.ensures.items in
    search rules

pub slice_bounds-means-end : goal.slice_bounds-means-end
slice_bounds-means-end c =
    let room = splits-room c.args.size c.args.radius.now c.args.points.now c.loop-length.places c.loop-length.pending.items c.pop.new.self.items c.loop-length.groups.items c.loop-length.start c.in-Some.length c.loop-length.invariant c.in-Some.ensures.items in
    search rules

pub slice_bounds-part-end : goal.slice_bounds-part-end
slice_bounds-part-end c =
    let room = splits-room c.args.size c.args.radius.now c.args.points.now c.loop-length.places c.loop-length.pending.items c.pop.new.self.items c.loop-length.groups.items c.loop-length.start c.in-Some.length c.loop-length.invariant c.in-Some.ensures.items in
    search rules

pub slice_bounds-divide-end : goal.slice_bounds-divide-end
slice_bounds-divide-end c =
    let room = splits-room c.args.size c.args.radius.now c.args.points.now c.loop-length.places c.loop-length.pending.items c.pop.new.self.items c.loop-length.groups.items c.loop-length.start c.in-Some.length c.loop-length.invariant c.in-Some.ensures.items in
    search rules

pub means-requires-clause-places : goal.means-requires-clause-places
means-requires-clause-places c = part-places c.args.size c.args.radius.now c.args.points.now c.loop-length.places c.loop-length.pending.items c.pop.new.self.items c.loop-length.groups.items c.loop-length.start c.in-Some.length c.loop-length.invariant c.in-Some.ensures.items (c.loop-length.start + c.in-Some.length - c.loop-length.start)

pub means-requires-clause-some : goal.means-requires-clause-some
means-requires-clause-some c = omega (arith, part-length c.args.size c.args.radius.now c.args.points.now c.loop-length.places c.loop-length.pending.items c.pop.new.self.items c.loop-length.groups.items c.loop-length.start c.in-Some.length c.loop-length.invariant c.in-Some.ensures.items (c.loop-length.start + c.in-Some.length - c.loop-length.start) (omega arith), some-len c.args.size c.args.radius.now c.args.points.now c.loop-length.places c.loop-length.pending.items c.pop.new.self.items c.loop-length.groups.items c.loop-length.start c.in-Some.length c.loop-length.invariant c.in-Some.ensures.items)

pub add_groups-requires-clause-places : goal.add_groups-requires-clause-places
add_groups-requires-clause-places c = part-places c.args.size c.args.radius.now c.args.points.now c.loop-length.places c.loop-length.pending.items c.pop.new.self.items c.loop-length.groups.items c.loop-length.start c.in-Some.length c.loop-length.invariant c.in-Some.ensures.items (c.loop-length.start + c.in-Some.length - c.loop-length.start)

pub add_groups-requires-clause-some : goal.add_groups-requires-clause-some
add_groups-requires-clause-some c = omega (arith, part-length c.args.size c.args.radius.now c.args.points.now c.loop-length.places c.loop-length.pending.items c.pop.new.self.items c.loop-length.groups.items c.loop-length.start c.in-Some.length c.loop-length.invariant c.in-Some.ensures.items (c.loop-length.start + c.in-Some.length - c.loop-length.start) (omega arith), some-len c.args.size c.args.radius.now c.args.points.now c.loop-length.places c.loop-length.pending.items c.pop.new.self.items c.loop-length.groups.items c.loop-length.start c.in-Some.length c.loop-length.invariant c.in-Some.ensures.items)

pub divide-requires-clause-places : goal.divide-requires-clause-places
divide-requires-clause-places c = part-places c.args.size c.args.radius.now c.args.points.now c.loop-length.places c.loop-length.pending.items c.pop.new.self.items c.loop-length.groups.items c.loop-length.start c.in-Some.length c.loop-length.invariant c.in-Some.ensures.items (c.loop-length.start + c.in-Some.length - c.loop-length.start)

pub divide-requires-clause-points : goal.divide-requires-clause-points
divide-requires-clause-points c =
    let part = points_at c.args.points.now (take (c.loop-length.start + c.in-Some.length - c.loop-length.start) (drop c.loop-length.start c.loop-length.places)) in
    let rep = c.deref-in-Some.ensures.value ∙ c.in_ok-rep.ensures in
    rw (length-means (length c.args.radius.now) part c.deref-in-Some.result.now rep) c.requires.points

pub divide-requires-clause-rep : goal.divide-requires-clause-rep
divide-requires-clause-rep c =
    let part = points_at c.args.points.now (take (c.loop-length.start + c.in-Some.length - c.loop-length.start) (drop c.loop-length.start c.loop-length.places)) in
    let rep = c.deref-in-Some.ensures.value ∙ c.in_ok-rep.ensures in
    rep ∙ ap (λ (columns : ℕ). means columns part) (sym (length-means (length c.args.radius.now) part c.deref-in-Some.result.now rep))

pub loop-length-smaller : goal.loop-length-smaller
loop-length-smaller c =
    let part = points_at c.args.points.now (take (c.loop-length.start + c.in-Some.length - c.loop-length.start) (drop c.loop-length.start c.loop-length.places)) in
    let rep = c.deref-in-Some.ensures.value ∙ c.in_ok-rep.ensures in
    let left = c.in_ok-is_done.ensures.not_done c.if-is_done.false in
    let cut = rw (length-means (length c.args.radius.now) part c.deref-in-Some.result.now rep) at c.in_ok-divide.ensures.lists in
    less-parted c.args.size c.args.radius.now c.args.points.now c.loop-length.places c.loop-length.pending.items c.pop.new.self.items c.loop-length.groups.items c.loop-length.start c.in-Some.length c.loop-length.invariant c.in-Some.ensures.items (c.loop-length.start + c.in-Some.length - c.loop-length.start) c.divide.new.places c.divide.new.room.lengths.items c.move_reversed.new.lengths.items (omega arith) left.1 left.2 c.divide.auto.places cut c.in_ok-move_reversed.ensures

pub loop-length-preserved : goal.loop-length-preserved
loop-length-preserved c =
    let part = points_at c.args.points.now (take (c.loop-length.start + c.in-Some.length - c.loop-length.start) (drop c.loop-length.start c.loop-length.places)) in
    let rep = c.deref-in-Some.ensures.value ∙ c.in_ok-rep.ensures in
    let left = c.in_ok-is_done.ensures.not_done c.if-is_done.false in
    let cut = rw (length-means (length c.args.radius.now) part c.deref-in-Some.result.now rep) at c.in_ok-divide.ensures.lists in
    rw left.0 (splits-parted c.args.size c.args.radius.now c.args.points.now c.loop-length.places c.loop-length.pending.items c.pop.new.self.items c.loop-length.groups.items c.loop-length.start c.in-Some.length c.loop-length.invariant c.in-Some.ensures.items (c.loop-length.start + c.in-Some.length - c.loop-length.start) c.divide.new.places c.divide.new.room.lengths.items c.move_reversed.new.lengths.items (omega arith) left.1 left.2 c.divide.auto.places cut c.in_ok-move_reversed.ensures c.in_ok-divide.ensures.places)

pub loop-length-smaller-then-is_done : goal.loop-length-smaller-then-is_done
loop-length-smaller-then-is_done c = less-added c.args.size c.args.radius.now c.args.points.now c.loop-length.places c.loop-length.pending.items c.pop.new.self.items c.loop-length.groups.items c.loop-length.start c.in-Some.length c.loop-length.invariant c.in-Some.ensures.items

pub loop-length-preserved-then-is_done : goal.loop-length-preserved-then-is_done
loop-length-preserved-then-is_done c = splits-added c.args.size c.args.radius.now c.args.points.now c.loop-length.places c.loop-length.pending.items c.pop.new.self.items c.loop-length.groups.items c.loop-length.start c.in-Some.length c.loop-length.invariant c.in-Some.ensures.items (c.loop-length.start + c.in-Some.length - c.loop-length.start) c.add_groups.new.groups.items (omega arith) (c.in_ok-is_done.ensures.done c.if-is_done.true)

pub returns : goal.returns
returns c =
    let empty : c.loop-length.pending.items ≡ [] = search rules in
    splits-all c.args.size c.args.radius.now c.args.points.now c.loop-length.places c.loop-length.pending.items c.loop-length.groups.items c.loop-length.start c.loop-length.invariant empty

pub shape_of-places-in_err-rep : goal.shape_of-places-in_err-rep
shape_of-places-in_err-rep c = long-as c.args.points.now c.args.places.now c.loop-length.places c.requires.places c.loop-length.invariant.long

pub shape_of-places-in_err-is_done : goal.shape_of-places-in_err-is_done
shape_of-places-in_err-is_done c = long-as c.args.points.now c.args.places.now c.loop-length.places c.requires.places c.loop-length.invariant.long

pub shape_of-places-in_err-divide : goal.shape_of-places-in_err-divide
shape_of-places-in_err-divide c =
    put_mid-long c.loop-length.start (c.loop-length.start + c.in-Some.length - c.loop-length.start) c.loop-length.places c.divide.new.places (omega (arith, splits-room c.args.size c.args.radius.now c.args.points.now c.loop-length.places c.loop-length.pending.items c.pop.new.self.items c.loop-length.groups.items c.loop-length.start c.in-Some.length c.loop-length.invariant c.in-Some.ensures.items)) c.divide.auto.places
    ∙ long-as c.args.points.now c.args.places.now c.loop-length.places c.requires.places c.loop-length.invariant.long

pub shape_of-places-in_err-move_reversed : goal.shape_of-places-in_err-move_reversed
shape_of-places-in_err-move_reversed c =
    put_mid-long c.loop-length.start (c.loop-length.start + c.in-Some.length - c.loop-length.start) c.loop-length.places c.divide.new.places (omega (arith, splits-room c.args.size c.args.radius.now c.args.points.now c.loop-length.places c.loop-length.pending.items c.pop.new.self.items c.loop-length.groups.items c.loop-length.start c.in-Some.length c.loop-length.invariant c.in-Some.ensures.items)) c.divide.auto.places
    ∙ long-as c.args.points.now c.args.places.now c.loop-length.places c.requires.places c.loop-length.invariant.long

pub shape_of-places : goal.shape_of-places
shape_of-places c = long-as c.args.points.now c.args.places.now c.loop-length.places c.requires.places c.loop-length.invariant.long
