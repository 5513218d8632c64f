use Rattle.std.proofs.Common.{map, ap, ◌∙◌, refl, subst, Bool}
use Rattle.session_proto.specs.Replies.{IsPlaceOf, member_of, field_of}
use Rattle.session_proto.proofs.Puts.{put_same, put_new}
use Rattle.session_proto.proofs.replies.put_in.Goals as goal

pub returns : goal.returns
returns c =
    let place = subst (λ (b : Bool). IsPlaceOf c.args.key.now (map member_of c.deref.result.now) c.place_of-at.result.0 b) c.if-same.false c.place_of-at.ensures in
    ap (map member_of) c.in_ok-insert.ensures.items
    ∙ put_new c.args.key.now c.args.members.now.items c.deref.result.now c.place_of-at.result.0 (record { key = c.in_ok-key.key; value = c.args.value }) (field_of c.args.value) c.deref.ensures.value c.in_ok-key.ensures.ok refl place

pub returns-then-same : goal.returns-then-same
returns-then-same c =
    let place = subst (λ (b : Bool). IsPlaceOf c.args.key.now (map member_of c.deref.result.now) c.place_of-at.result.0 b) c.if-same.true c.place_of-at.ensures in
    put_same c.args.key.now c.args.members.now.items c.deref.result.now c.place_of-at.result.0 c.index_mut.result.now (field_of c.args.value) (record { key = c.index_mut.result.now.key; value = c.args.value }) c.deref.ensures.value c.index_mut.ensures.value refl refl place
