use Rattle.query_answer.proofs.Written as written
use Rattle.query_answer.proofs.laws.answers_are_written.Goals as goal

pub returns : goal.returns
returns c = written.answers_are_written
