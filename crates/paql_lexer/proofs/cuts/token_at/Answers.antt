use Rattle.paql_lexer.specs.declared.cuts.Class.TheVariants as class
use Rattle.paql_lexer.proofs.TokenLemmas.{found_by_first}
use Rattle.paql_lexer.proofs.cuts.token_at.Goals as goal

pub returns-in-Letter : goal.returns-in-Letter
returns-in-Letter c =
    found_by_first class.Letter c.args.text.now c.word.result c.in-len1-up.len_at_least c.in-Letter.ensures c.word.ensures

pub returns-in-Mark : goal.returns-in-Mark
returns-in-Mark c =
    found_by_first class.Mark c.args.text.now c.sign.result c.in-len1-up.len_at_least c.in-Mark.ensures c.sign.ensures
