use Rattle.sketch.proofs.LawLemmas.{one_is_held_anew}
use Rattle.sketch.proofs.laws.one_is_held_anew.Goals as goal

pub returns : goal.returns
returns c = one_is_held_anew
