use Rattle.session_proto.proofs.PieceSteps.{frames_are_of_pieces}
use Rattle.session_proto.proofs.laws.frames_are_of_pieces.Goals as goal

pub returns : goal.returns
returns c = frames_are_of_pieces
