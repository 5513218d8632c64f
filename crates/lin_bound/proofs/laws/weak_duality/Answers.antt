use Rattle.lin_bound.proofs.Duality.{weak_duality}
use Rattle.lin_bound.proofs.laws.weak_duality.Goals as goal

pub returns : goal.returns
returns c = weak_duality
