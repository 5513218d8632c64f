use Rattle.std.proofs.Common.{sym, ◌∙◌}
use Rattle.std.proofs.lemmas.Bool.{false≢true}
use Rattle.lin_bound.proofs.Cuts.{not_tried, try_more}
use Rattle.lin_bound.proofs.region.try_box_of.Goals as goal

pub returns-then-not-is_split_by : goal.returns-then-not-is_split_by
returns-then-not-is_split_by c =
    not_tried c.args.problem.now c.args.path.now c.loop-place.region c.loop-place.place c.branch-branch.result c.branch-branch.ensures
    (λ splits. false≢true (sym c.if-not-is_split_by.true ∙ c.is_split_by.ensures.1 splits)) c.loop-place.invariant

pub loop-place-preserved : goal.loop-place-preserved
loop-place-preserved c =
    rw c.narrow.ensures
    (try_more c.args.problem.now c.args.path.now c.loop-place.region c.loop-place.place c.branch-branch.result c.branch-branch.ensures
    (c.is_split_by.ensures.0 c.if-not-is_split_by.false) c.loop-place.invariant)
