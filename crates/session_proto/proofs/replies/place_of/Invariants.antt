use Rattle.std.proofs.Common.{◌≡◌, ◌++◌, map, take, drop}
use Rattle.session_proto.specs.Replies.{FieldData, put, member_of}
use Rattle.session_proto.proofs.replies.place_of.Given as goal

abbrev pub invariant-loop-at : goal.invariant-loop-at
invariant-loop-at l = (value : FieldData) → put l.key value (map member_of l.members)
    ≡ take l.at (map member_of l.members) ++ put l.key value (drop l.at (map member_of l.members))
