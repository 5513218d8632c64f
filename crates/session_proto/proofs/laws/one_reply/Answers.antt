use Rattle.session_proto.proofs.OneReply.{one_reply}
use Rattle.session_proto.proofs.laws.one_reply.Goals as goal

pub returns : goal.returns
returns c = one_reply
