use Rattle.search_core.proofs.Keeping.{keeps_run}
use Rattle.search_core.proofs.laws.runs_keep.Goals as goal

pub returns : goal.returns
returns c = keeps_run
