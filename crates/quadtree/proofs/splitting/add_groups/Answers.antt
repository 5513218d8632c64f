use Rattle.std.proofs.Common.{◌≡◌, ◌∙◌, sym}
use Rattle.quadtree.specs.Places.{points_at}
use Rattle.quadtree.proofs.Adding.{some-points, added-one, added-runs}
use Rattle.quadtree.proofs.splitting.add_groups.Goals as goal

pub returns-then-is_group : goal.returns-then-is_group
returns-then-is_group c =
    let all = points_at c.args.points.now c.args.places.now in
    added-one c.args.size c.args.radius.now all (some-points c.args.points.now c.args.places.now c.requires.some) c.args.rep.now c.requires.rep c.args.groups.now.items c.push.new.self.items c.in_ok-group_of.field-0 (sym c.is_group.ensures ∙ c.if-is_group.true) c.in_ok-group_of.ensures c.in_ok-push.ensures.items

pub returns-then-are_equal : goal.returns-then-are_equal
returns-then-are_equal c =
    let all = points_at c.args.points.now c.args.places.now in
    added-runs c.args.size c.args.radius.now all (some-points c.args.points.now c.args.places.now c.requires.some) c.args.rep.now c.requires.rep c.args.groups.now.items c.add_runs.new.groups.items (sym c.is_group.ensures ∙ c.if-is_group.false) (sym c.are_equal.ensures ∙ c.if-are_equal.true) c.in_ok-add_runs.ensures
