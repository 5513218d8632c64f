use Rattle.cert_tree.proofs.Assembled.{assembled_certifies}
use Rattle.cert_tree.proofs.laws.assembled_certifies.Goals as goal

pub returns : goal.returns
returns c = assembled_certifies
