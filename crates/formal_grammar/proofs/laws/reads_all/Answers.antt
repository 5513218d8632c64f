use Rattle.formal_grammar.proofs.Whole.{is_read}
use Rattle.formal_grammar.proofs.laws.reads_all.Goals as goal

pub returns : goal.returns
returns g c = λ test parser opens ext n rule s a spells. is_read rule s a spells
