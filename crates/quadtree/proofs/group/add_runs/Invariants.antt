use Rattle.std.proofs.Common.{◌≡◌, ◌++◌, ℕ, map}
use Rattle.std.specs.List.{range_with_len}
use Rattle.quadtree.specs.Groups.{group_of, run_of}
use Rattle.quadtree.specs.Places.{points_at}
use Rattle.quadtree.proofs.group.add_runs.Given as goal

abbrev pub invariant-loop-number : goal.invariant-loop-number
invariant-loop-number l =
    l.groups.items ≡ l.fn.groups.items ++ map (group_of l.rep) (map (run_of l.size (points_at l.points l.places)) (range_with_len 0 l.number))
