use Rattle.lin_bound.proofs.Halves.{halves_cover}
use Rattle.lin_bound.proofs.laws.halves_cover.Goals as goal

pub returns : goal.returns
returns c = halves_cover
