use Rattle.sketch.proofs.LawLemmas.{refined_keeps_rows}
use Rattle.sketch.proofs.laws.refined_keeps_rows.Goals as goal

pub returns : goal.returns
returns c = refined_keeps_rows
