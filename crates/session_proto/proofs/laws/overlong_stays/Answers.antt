use Rattle.session_proto.proofs.SessionSteps.{overlong_stays}
use Rattle.session_proto.proofs.laws.overlong_stays.Goals as goal

pub returns : goal.returns
returns c = overlong_stays
