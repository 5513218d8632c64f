use Rattle.std.proofs.Common.{[], ◌∙◌, arith}
use Rattle.std.proofs.lemmas.List.{get_or_read}
use Rattle.sketch.proofs.Joins.{can_spread, joined_more}
use Rattle.sketch.proofs.joining.joined.Goals as goal

pub spread-requires-clause-members : goal.spread-requires-clause-members
spread-requires-clause-members c =
    can_spread c.args.problem.now c.args.parts.now c.loop-place.place c.loop-place.point c.index-parts-place.result c.as_slice.result.now c.requires.parts c.loop-place-test.true c.index-parts-place.is c.as_slice.ensures c.loop-place.invariant.each

pub loop-place-preserved : goal.loop-place-preserved
loop-place-preserved c =
    joined_more c.args.problem.now c.args.parts.now c.args.counts.now c.loop-place.point c.spread.new.point c.loop-place.place c.as_slice.result.now c.as_slice-in-loop-place.result.now c.requires.parts c.loop-place-test.true
    (c.as_slice.ensures ∙ get_or_read c.args.parts.now c.loop-place.place c.index-parts-place.result c.loop-place-test.true c.index-parts-place.is [])
    (c.as_slice-in-loop-place.ensures ∙ get_or_read c.args.counts.now c.loop-place.place c.index-counts-place.result (omega (arith, c.requires.counts.lists)) c.index-counts-place.is [])
    c.loop-place.invariant c.spread.ensures.length c.spread.ensures.spread
