use Rattle.quadtree.proofs.Fits.{all-fit, one-more}
use Rattle.quadtree.proofs.tests.are_fit.Goals as goal

pub loop-place-preserved : goal.loop-place-preserved
loop-place-preserved c = one-more c.args.columns c.args.points.now c.loop-place.place c.loop-place.invariant (c.is_fit.ensures c.if-not-is_fit.false)

pub returns : goal.returns
returns c = λ _. all-fit c.args.columns c.args.points.now c.loop-place.place c.loop-place-test.false c.loop-place.invariant
