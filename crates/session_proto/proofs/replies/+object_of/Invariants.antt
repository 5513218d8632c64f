use Rattle.std.proofs.Common.{length}
use Rattle.session_proto.proofs.replies.+object_of.Given as goal

abbrev pub decreases-object_of : goal.decreases-object_of
decreases-object_of l = length l.members.now
