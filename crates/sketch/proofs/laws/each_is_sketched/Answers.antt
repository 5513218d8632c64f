use Rattle.sketch.proofs.LawLemmas.{each_is_sketched}
use Rattle.sketch.proofs.laws.each_is_sketched.Goals as goal

pub returns : goal.returns
returns c = each_is_sketched
