use Rattle.std.proofs.Common.{refl, arith}
use Rattle.sketch.proofs.WorkedLemmas.{whole_even, three_parts, last_held}
use Rattle.sketch.proofs.Cuts.{each_is_part}
use Rattle.sketch.specs.Worked.{whole, three}
use Rattle.sketch.proofs.tests.cost_gift.Goals as goal

pub given_cost-requires-clause-even : goal.given_cost-requires-clause-even
given_cost-requires-clause-even c = rw c.in_ok-problem.ensures whole_even

pub given_cost-requires-clause-part : goal.given_cost-requires-clause-part
given_cost-requires-clause-part c = rw c.in_ok-problem.ensures (each_is_part whole three 2 three_parts (omega arith))

pub given_cost-requires-clause-mean : goal.given_cost-requires-clause-mean
given_cost-requires-clause-mean c = rw c.in_ok-problem.ensures refl

pub given_cost-requires-clause-held : goal.given_cost-requires-clause-held
given_cost-requires-clause-held c = rw (c.in_ok-problem.ensures, c.in_ok-counts.ensures) last_held
