use Rattle.paql_lexer.proofs.Reached.{one_list_of_tokens}
use Rattle.paql_lexer.proofs.lexer.one_cut.Goals as goal

pub returns : goal.returns
returns c = one_list_of_tokens
