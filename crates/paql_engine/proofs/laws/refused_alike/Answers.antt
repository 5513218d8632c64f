use Rattle.paql_engine.proofs.MadeReady.{refused_alike}
use Rattle.paql_engine.proofs.laws.refused_alike.Goals as goal

pub returns : goal.returns
returns c = refused_alike
