use Rattle.std.proofs.Common.{◌≡◌, ◌∙◌, ap, map}
use Rattle.serde_json.specs.Data.{object}
use Rattle.serde_json.specs.View.{view}
use Rattle.serde_json.specs.Written.{compact_text, has_float}
use Rattle.serde_json.specs.declared.value.Value.{Object}
use Rattle.serde_json.proofs.Views.{view-Object}
use Rattle.session_proto.specs.Replies.{member_of, members_data}
use Rattle.session_proto.proofs.Texts.{no_float}
use Rattle.session_proto.proofs.replies.object_text.Goals as goal

pub returns : goal.returns
returns c =
    let fields = map member_of c.args.members.now in
    let seen : view (Object c.in_ok-object_of.field-0) ≡ object (members_data fields) =
    view-Object c.in_ok-object_of.field-0 ∙ ap object c.in_ok-object_of.ensures in
    c.in_ok-text.ensures.text (ap has_float seen ∙ no_float fields) ∙ ap compact_text seen
