use Rattle.cert_tree.proofs.Assembled.{assembled_partly}
use Rattle.cert_tree.proofs.laws.assembled_partly.Goals as goal

pub returns : goal.returns
returns c = assembled_partly
