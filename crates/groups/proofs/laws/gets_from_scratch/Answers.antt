use Rattle.groups.proofs.LawLemmas.{gets_right}
use Rattle.groups.proofs.laws.gets_from_scratch.Goals as goal

pub returns : goal.returns
returns c = gets_right
