use Rattle.session_proto.proofs.OneNext.{one_next}
use Rattle.session_proto.proofs.laws.one_next.Goals as goal

pub returns : goal.returns
returns c = one_next
