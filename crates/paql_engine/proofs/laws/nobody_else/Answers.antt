use Rattle.paql_engine.proofs.Alone.{nobody_else}
use Rattle.paql_engine.proofs.laws.nobody_else.Goals as goal

pub returns : goal.returns
returns c = nobody_else
