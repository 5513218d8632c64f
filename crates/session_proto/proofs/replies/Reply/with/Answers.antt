use Rattle.std.proofs.Common.{sym, subst, map}
use Rattle.session_proto.specs.Replies.{Ascends, field_of, member_of}
use Rattle.session_proto.proofs.Puts.{Fields, Ascends-put}
use Rattle.session_proto.proofs.replies.Reply.with.Goals as goal

pub invariant_of-result : goal.invariant_of-result
invariant_of-result c =
    subst (λ (fields : Fields). Ascends fields) (sym c.in_ok-put_in.ensures) (Ascends-put c.args.key.now (field_of c.args.value) (map member_of c.self.inside.members.items) c.self.invariant)
