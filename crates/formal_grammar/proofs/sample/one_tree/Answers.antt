use Rattle.formal_grammar.proofs.SampleRules.{one_sum}
use Rattle.formal_grammar.proofs.sample.one_tree.Goals as goal

pub returns : goal.returns
returns c = one_sum
