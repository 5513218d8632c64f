use Rattle.lin_bound.proofs.Duality.{closed_holds_none}
use Rattle.lin_bound.proofs.laws.closed_holds_none.Goals as goal

pub returns : goal.returns
returns c = closed_holds_none
