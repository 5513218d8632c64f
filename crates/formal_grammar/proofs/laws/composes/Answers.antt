use Rattle.formal_grammar.proofs.Sequence.{rule_then}
use Rattle.formal_grammar.proofs.laws.composes.Goals as goal

pub returns : goal.returns
returns g c = λ first second parser parsers opens between ext n joins x y. rule_then joins x y
