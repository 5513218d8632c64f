use Rattle.session_proto.proofs.SessionSteps.{one_framing}
use Rattle.session_proto.proofs.laws.one_framing.Goals as goal

pub returns : goal.returns
returns g c = one_framing g.R.BodyRule.Wants
