use Rattle.pq_base.proofs.Numerals.{one_list_of_parts}
use Rattle.pq_base.proofs.decimal.one_reading.Goals as goal

pub returns : goal.returns
returns c = one_list_of_parts
