use Rattle.cert_tree.proofs.Bounds.{partial_bounds}
use Rattle.cert_tree.proofs.laws.partial_bounds.Goals as goal

pub returns : goal.returns
returns c = partial_bounds c.halves_cover.ensures c.closed_holds_none.ensures c.weak_duality.ensures
