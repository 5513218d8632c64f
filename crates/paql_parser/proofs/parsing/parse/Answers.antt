use Rattle.paql_parser.proofs.AnswerLemmas.{complete_of, empty_of}
use Rattle.paql_parser.proofs.parsing.parse.Goals as goal

pub returns-clause-complete : goal.returns-clause-complete
returns-clause-complete c = complete_of c.args.text.now c.answer.result c.answer.ensures

pub returns-clause-empty : goal.returns-clause-empty
returns-clause-empty c = empty_of c.args.text.now c.answer.result c.answer.ensures
