use Rattle.lin_bound.proofs.Cuts.{divides, cut_more}
use Rattle.lin_bound.proofs.region.box_of.Goals as goal

pub narrow-requires-clause-splits : goal.narrow-requires-clause-splits
narrow-requires-clause-splits c =
    divides c.args.problem.now c.args.path.now c.loop-place.region c.loop-place.place c.branch-path.result c.branch-path.ensures c.loop-place.invariant

pub loop-place-preserved : goal.loop-place-preserved
loop-place-preserved c =
    rw c.narrow.ensures (cut_more c.args.problem.now c.args.path.now c.loop-place.region c.loop-place.place c.branch-path.result c.branch-path.ensures c.loop-place.invariant)
