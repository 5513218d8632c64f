use Rattle.session_proto.proofs.SessionSteps.{stands_fed}
use Rattle.session_proto.proofs.laws.stands_fed.Goals as goal

pub returns : goal.returns
returns g c = stands_fed g.R.BodyRule.Wants
