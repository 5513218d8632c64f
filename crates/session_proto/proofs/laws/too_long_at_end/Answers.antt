use Rattle.session_proto.proofs.SessionSteps.{too_long_at_end}
use Rattle.session_proto.proofs.laws.too_long_at_end.Goals as goal

pub returns : goal.returns
returns g c = too_long_at_end g.R.BodyRule.Wants
