use Rattle.formal_grammar.proofs.Whole.{judges}
use Rattle.paql_grammar.proofs.StatementRules.{exact_statement}
use Rattle.paql_grammar.proofs.laws.statements_are_read.Goals as goal

pub returns : goal.returns
returns c = λ n tokens. judges (exact_statement n) tokens
