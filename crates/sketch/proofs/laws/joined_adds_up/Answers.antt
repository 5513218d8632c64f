use Rattle.sketch.proofs.LawLemmas.{joined_adds_up}
use Rattle.sketch.proofs.laws.joined_adds_up.Goals as goal

pub returns : goal.returns
returns c = joined_adds_up
