use Rattle.session_proto.proofs.SessionSteps.{stands_at_first}
use Rattle.session_proto.proofs.laws.stands_at_first.Goals as goal

pub returns : goal.returns
returns g c = stands_at_first g.R.BodyRule.Wants
