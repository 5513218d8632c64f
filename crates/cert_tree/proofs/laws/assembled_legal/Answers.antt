use Rattle.cert_tree.proofs.Multipliers.{assembled_legal}
use Rattle.cert_tree.proofs.laws.assembled_legal.Goals as goal

pub returns : goal.returns
returns c = assembled_legal
