use Rattle.formal_grammar.proofs.Whole.{one_value}
use Rattle.formal_grammar.proofs.laws.one_value.Goals as goal

pub returns : goal.returns
returns g c = λ test parsers opens ext rules m n s a b x y. one_value rules m n s a b x y
