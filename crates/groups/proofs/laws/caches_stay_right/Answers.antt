use Rattle.groups.proofs.LawLemmas.{caches_right}
use Rattle.groups.proofs.laws.caches_stay_right.Goals as goal

pub returns : goal.returns
returns c = caches_right
