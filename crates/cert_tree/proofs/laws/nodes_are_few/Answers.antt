use Rattle.cert_tree.proofs.Counts.{nodes_are_few}
use Rattle.cert_tree.proofs.laws.nodes_are_few.Goals as goal

pub returns : goal.returns
returns c = nodes_are_few c.halves_cover.ensures
