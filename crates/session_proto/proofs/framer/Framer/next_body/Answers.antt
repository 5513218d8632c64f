use Rattle.std.proofs.Common.{◌∙◌, sym, ap, refl}
use Rattle.session_proto.specs.Input.{Input}
use Rattle.session_proto.proofs.NextSteps.{content_here}
use Rattle.session_proto.proofs.framer.Framer.next_body.Goals as goal

pub returns-clause-ok : goal.returns-clause-ok
returns-clause-ok c =
    let here = content_here c.self.inside.held.items c.deref.result.now c.in_ok-bytes.bytes.items c.self.inside.cursor.start c.args.body.bytes c.new-self-inside.result.start c.deref.ensures.value c.new-self-inside.ensures.start c.if-left-size.false c.in_ok-bytes.ensures.items in
    record {
      body = c.args.body;
      before = c.requires;
      behind = refl;
      is_content = (c.if-body-gt-MAX_BODY.false, here.0, ap (λ (i : Input). i.left) (sym c.self.view_is) ∙ here.1);
    }
