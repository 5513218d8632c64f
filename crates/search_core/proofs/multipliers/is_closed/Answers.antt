use Rattle.std.proofs.Common.{arith}
use Rattle.search_core.proofs.multipliers.is_closed.Goals as goal

pub returns-in_default-clause-yes : goal.returns-in_default-clause-yes
returns-in_default-clause-yes c = λ number h. c.in_default.ensures number (omega (arith, h))
