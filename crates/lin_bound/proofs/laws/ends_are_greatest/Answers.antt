use Rattle.lin_bound.proofs.Duality.{ends_are_greatest}
use Rattle.lin_bound.proofs.laws.ends_are_greatest.Goals as goal

pub returns : goal.returns
returns c = ends_are_greatest
