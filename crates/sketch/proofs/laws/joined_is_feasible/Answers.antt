use Rattle.sketch.proofs.LawLemmas.{joined_is_feasible}
use Rattle.sketch.proofs.laws.joined_is_feasible.Goals as goal

pub returns : goal.returns
returns c = joined_is_feasible
