use Rattle.paql_engine.proofs.Histories.{longer}
use Rattle.paql_engine.proofs.laws.longer_history.Goals as goal

pub returns : goal.returns
returns c = longer
