use Rattle.session_proto.proofs.Blanks.{blank_is_gap}
use Rattle.session_proto.proofs.laws.blank_is_gap.Goals as goal

pub returns : goal.returns
returns c = blank_is_gap
