use Rattle.std.proofs.Common.{arith}
use Rattle.sketch.proofs.WorkedLemmas.{three_parts}
use Rattle.sketch.proofs.Cuts.{each_is_part}
use Rattle.sketch.specs.Worked.{whole, three}
use Rattle.sketch.proofs.tests.middle_part.Goals as goal

pub refined-requires-clause-part : goal.refined-requires-clause-part
refined-requires-clause-part c = each_is_part whole three 1 three_parts (omega arith)
