use Rattle.sketch.proofs.LawLemmas.{sketch_adds_up}
use Rattle.sketch.proofs.laws.sketch_adds_up.Goals as goal

pub returns : goal.returns
returns c = sketch_adds_up
