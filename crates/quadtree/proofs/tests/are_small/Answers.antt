use Rattle.quadtree.proofs.Fits.{all-small}
use Rattle.quadtree.proofs.tests.are_small.Goals as goal

pub returns : goal.returns
returns c = λ _. all-small c.args.numbers.now c.loop-number.number-index c.loop-number-test.false c.loop-number.invariant
