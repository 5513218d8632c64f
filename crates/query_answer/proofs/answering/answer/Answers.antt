use Rattle.query_answer.specs.Answers.{many, large}
use Rattle.query_answer.proofs.answering.answer.Goals as goal

pub returns-in-Err-LimitCandidates : goal.returns-in-Err-LimitCandidates
returns-in-Err-LimitCandidates g c =
    let said = rw c.in-Err-LimitCandidates.field-0-is at c.in-Err-LimitCandidates.ensures in
    rw said.1 (many said.0)

pub returns-in_ok-total-in-Err-TooLarge : goal.returns-in_ok-total-in-Err-TooLarge
returns-in_ok-total-in-Err-TooLarge g c =
    let said = rw c.in-Err-TooLarge.field-0-is at c.in-Err-TooLarge.ensures in
    rw (c.from.ensures, c.in_ok-total-in-Err-TooLarge.ensures.ok)
    (large c.in-Err-TooLarge.conjunct c.in-Err-TooLarge.total said.0 said.1)
