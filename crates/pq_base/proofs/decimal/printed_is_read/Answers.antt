use Rattle.pq_base.proofs.Printed.{printed_is_spelled, printed_is_read_back}
use Rattle.pq_base.proofs.decimal.printed_is_read.Goals as goal

pub returns-clause-spelled : goal.returns-clause-spelled
returns-clause-spelled c = printed_is_spelled

pub returns-clause-read : goal.returns-clause-read
returns-clause-read c = printed_is_read_back
