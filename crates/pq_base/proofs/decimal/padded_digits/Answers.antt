use Rattle.std.proofs.Common.{arith, rules}
use Rattle.pq_base.proofs.Printed.{padded_is_ascii}
use Rattle.pq_base.proofs.decimal.padded_digits.Goals as goal

pub returns-clause-ascii : goal.returns-clause-ascii
returns-clause-ascii c =
    search (rules, padded_is_ascii c.args.scale c.args.magnitude (omega arith))
