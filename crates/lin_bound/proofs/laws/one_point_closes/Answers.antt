use Rattle.lin_bound.proofs.OnePoint.{one_point_closes}
use Rattle.lin_bound.proofs.laws.one_point_closes.Goals as goal

pub returns : goal.returns
returns c = one_point_closes
