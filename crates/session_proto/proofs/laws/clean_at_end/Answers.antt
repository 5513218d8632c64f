use Rattle.session_proto.proofs.CleanEnds.{clean_at_end}
use Rattle.session_proto.proofs.laws.clean_at_end.Goals as goal

pub returns : goal.returns
returns g c = clean_at_end g.R.BodyRule.Wants
