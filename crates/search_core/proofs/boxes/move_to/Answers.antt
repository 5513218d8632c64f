use Rattle.search_core.proofs.Moving.{divides, moves_on}
use Rattle.search_core.proofs.boxes.move_to.Goals as goal

pub narrow-requires-clause-splits : goal.narrow-requires-clause-splits
narrow-requires-clause-splits c =
    divides c.args.problem.now c.args.path.now c.loop-place.region c.loop-place.place c.branch-path.result c.branch-path.ensures c.loop-place.invariant

pub loop-place-preserved : goal.loop-place-preserved
loop-place-preserved c =
    rw c.narrow.ensures (moves_on c.args.problem.now c.args.path.now c.loop-place.region c.loop-place.place c.branch-path.result c.branch-path.ensures c.loop-place.invariant)
