use Rattle.paql_grammar.proofs.TextRules.{one_tree_of_text}
use Rattle.paql_parser.proofs.parsing.one_tree.Goals as goal

pub returns : goal.returns
returns c = one_tree_of_text
