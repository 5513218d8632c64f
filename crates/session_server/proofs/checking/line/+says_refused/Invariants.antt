use Rattle.std.proofs.Common.{length}
use Rattle.session_server.proofs.checking.line.+says_refused.Given as goal

abbrev pub decreases-says_refused : goal.decreases-says_refused
decreases-says_refused l = length l.members.now
