use Rattle.sketch.proofs.LawLemmas.{others_are_small}
use Rattle.sketch.proofs.laws.others_are_small.Goals as goal

pub returns : goal.returns
returns c = others_are_small
