use Rattle.session_proto.proofs.SessionSteps.{stands_awaiting}
use Rattle.session_proto.proofs.laws.stands_awaiting.Goals as goal

pub returns : goal.returns
returns g c = stands_awaiting g.R.BodyRule.Wants
