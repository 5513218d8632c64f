use Rattle.cert_tree.proofs.Soundness.{certified_is_best}
use Rattle.cert_tree.proofs.laws.certified_is_best.Goals as goal

pub returns : goal.returns
returns c = certified_is_best c.halves_cover.ensures c.closed_holds_none.ensures
