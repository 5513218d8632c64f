use Rattle.session_proto.proofs.SessionSteps.{needs_at_end}
use Rattle.session_proto.proofs.laws.needs_at_end.Goals as goal

pub returns : goal.returns
returns g c = needs_at_end g.R.BodyRule.Wants
