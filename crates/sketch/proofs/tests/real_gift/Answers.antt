use Rattle.std.proofs.Common.{refl, arith}
use Rattle.sketch.proofs.WorkedLemmas.{whole_even, three_parts, last_held}
use Rattle.sketch.proofs.Cuts.{each_is_part}
use Rattle.sketch.specs.Worked.{whole, three}
use Rattle.sketch.proofs.tests.real_gift.Goals as goal

pub given-requires-clause-even : goal.given-requires-clause-even
given-requires-clause-even c = rw c.in_ok-problem.ensures whole_even

pub given-requires-clause-part : goal.given-requires-clause-part
given-requires-clause-part c = rw c.in_ok-problem.ensures (each_is_part whole three 2 three_parts (omega arith))

pub given-requires-clause-mean : goal.given-requires-clause-mean
given-requires-clause-mean c = rw c.in_ok-problem.ensures refl

pub given-requires-clause-held : goal.given-requires-clause-held
given-requires-clause-held c = rw (c.in_ok-problem.ensures, c.in_ok-counts.ensures) last_held
