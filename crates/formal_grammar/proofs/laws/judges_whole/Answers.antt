use Rattle.formal_grammar.proofs.Whole.{judges}
use Rattle.formal_grammar.proofs.laws.judges_whole.Goals as goal

pub returns : goal.returns
returns g c = λ test parser opens ext n rule s. judges rule s
