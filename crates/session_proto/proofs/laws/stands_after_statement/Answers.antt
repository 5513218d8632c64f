use Rattle.session_proto.proofs.SessionSteps.{stands_after_statement}
use Rattle.session_proto.proofs.laws.stands_after_statement.Goals as goal

pub returns : goal.returns
returns g c = stands_after_statement g.R.BodyRule.Wants
