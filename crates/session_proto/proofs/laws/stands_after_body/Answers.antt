use Rattle.session_proto.proofs.SessionSteps.{stands_after_body}
use Rattle.session_proto.proofs.laws.stands_after_body.Goals as goal

pub returns : goal.returns
returns g c = stands_after_body g.R.BodyRule.Wants
