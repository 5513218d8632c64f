use Rattle.std.proofs.Common.{refl}
use Rattle.lin_bound.proofs.Legal.{legal-from_test}
use Rattle.bound_tests.proofs.bounds.some_points.Goals as goal

pub two_rows-requires : goal.two_rows-requires
two_rows-requires c = legal-from_test _ refl
