use Rattle.cert_tree.proofs.Soundness.{certified_is_empty}
use Rattle.cert_tree.proofs.laws.certified_is_empty.Goals as goal

pub returns : goal.returns
returns c = certified_is_empty c.halves_cover.ensures c.closed_holds_none.ensures
