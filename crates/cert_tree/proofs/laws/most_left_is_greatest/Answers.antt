use Rattle.cert_tree.proofs.Greatest.{most_left_is_greatest}
use Rattle.cert_tree.proofs.laws.most_left_is_greatest.Goals as goal

pub returns : goal.returns
returns c = most_left_is_greatest
