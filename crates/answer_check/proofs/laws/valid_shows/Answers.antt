use Rattle.answer_check.proofs.Shown as shown
use Rattle.answer_check.proofs.laws.valid_shows.Goals as goal

pub returns : goal.returns
returns c = shown.valid_shows c.meets_if_nothing_breaks.ensures
