use Rattle.std.proofs.Common.{◌≡◌, ◌+◌, ◌*◌, ◌++◌, ◌∷◌, [], List, map, sym, ap, ◌∙◌, rules, arith, append_assoc}
use Rattle.std.specs.List.{range_with_len}
use Rattle.quadtree.specs.declared.group.Group.{Group}
use Rattle.quadtree.specs.Groups.{group_of, run_of}
use Rattle.quadtree.specs.Places.{points_at}
use Rattle.quadtree.proofs.Pushed.{pushed-after}
use Rattle.quadtree.proofs.Runs.{run-is, mapped-more}
use Rattle.quadtree.proofs.group.add_runs.Goals as goal

pub loop-number-preserved : goal.loop-number-preserved
loop-number-preserved c =
    let all = points_at c.args.points.now c.args.places.now in
    let number = c.loop-number.number in
    let more = mapped-more (group_of c.args.rep.now) (run_of c.args.size all) number in
    let run = run-is c.args.points.now c.args.places.now c.args.size number (number * c.args.size) c.min-end.result (omega arith) c.min-end.ensures in
    pushed-after c.push.new.self.items c.loop-number.groups.items c.args.groups.now.items (map (group_of c.args.rep.now) (map (run_of c.args.size all) (range_with_len 0 number))) (map (group_of c.args.rep.now) (map (run_of c.args.size all) (range_with_len 0 (number + 1)))) c.in_ok-group_of.field-0 (group_of c.args.rep.now (run_of c.args.size all number))
    c.in_ok-push.ensures.items c.loop-number.invariant (c.in_ok-group_of.ensures ∙ ap (group_of c.args.rep.now) run) more
