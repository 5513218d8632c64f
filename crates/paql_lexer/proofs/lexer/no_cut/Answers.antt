use Rattle.paql_lexer.proofs.Reached.{no_list_of_tokens}
use Rattle.paql_lexer.proofs.lexer.no_cut.Goals as goal

pub returns : goal.returns
returns c = no_list_of_tokens
