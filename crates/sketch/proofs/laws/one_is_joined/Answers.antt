use Rattle.sketch.proofs.LawLemmas.{one_is_joined}
use Rattle.sketch.proofs.laws.one_is_joined.Goals as goal

pub returns : goal.returns
returns c = one_is_joined
