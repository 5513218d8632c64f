use Rattle.answer_check.specs.Verdicts.{HasProgram}
use Rattle.answer_check.proofs.Shown.{shows_if}
use Rattle.answer_check.proofs.judging.judge_answer.Goals as goal

pub returns-clause-shows : goal.returns-clause-shows
returns-clause-shows c =
    let formed = c.in_ok-linear.ensures in
    let has : HasProgram c.args.query.now c.args.rows.now = record { few = formed.0; small = formed.1 } in
    shows_if c.valid_shows.ensures c.args.query.now c.args.rows.now c.args.text.now c.in_ok-judge_text.field-0 c.requires.asked has c.in_ok-judge_text.ensures
