use Rattle.sketch.proofs.LawLemmas.{others_are_the_rest}
use Rattle.sketch.proofs.laws.others_are_the_rest.Goals as goal

pub returns : goal.returns
returns c = others_are_the_rest
