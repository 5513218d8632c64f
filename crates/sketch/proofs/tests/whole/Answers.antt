use Rattle.std.proofs.Common.{refl}
use Rattle.lin_bound.proofs.Legal.{legal-from_test}
use Rattle.sketch.proofs.tests.whole.Goals as goal

pub one_row-requires : goal.one_row-requires
one_row-requires c = legal-from_test _ refl
