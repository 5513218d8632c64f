use Rattle.std.proofs.Common.{refl}
use Rattle.lin_bound.proofs.Legal.{legal-from_test}
use Rattle.search_core.proofs.tests.fives.Goals as goal

pub solve-requires : goal.solve-requires
solve-requires c = rw c.in_ok-rows.ensures (legal-from_test _ refl)
