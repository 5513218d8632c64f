use Rattle.std.proofs.Common.{◌≡◌, None, ◌∙◌, ◌++◌, drop, ap, subst}
use Rattle.session_proto.specs.Frames.{closed, Skips}
use Rattle.session_proto.specs.Input.{Input}
use Rattle.session_proto.proofs.NextSteps.{statement_here, too_long_here, owes_nothing}
use Rattle.session_proto.proofs.framer.Framer.next_statement.Goals as goal

pub returns-then-cursor-eq-MAX_FRAME-clause-ok : goal.returns-then-cursor-eq-MAX_FRAME-clause-ok
returns-then-cursor-eq-MAX_FRAME-clause-ok c =
    let stops = rw c.if-not-whole.true at c.seek-whole.ensures.ends in
    let here = too_long_here c.self.inside.held.items c.deref.result.now c.self.inside.cursor.start c.seek-whole.result.0 c.deref.ensures.value c.seek-whole.ensures.at c.seek-whole.ensures.skips stops c.if-cursor-eq-MAX_FRAME.true in
    record {
      before = c.requires;
      behind = ap (λ (i : Input). i.awaited) c.self.view_is ∙ c.requires;
      skips = subst (λ (i : Input). Skips i.left (drop c.seek-whole.result.0.start c.self.inside.held.items)) c.self.view_is here.skips;
      long = here.long;
      is_open = here.is_open;
    }

pub returns-clause-ok : goal.returns-clause-ok
returns-clause-ok c =
    let ends = rw c.if-not-whole.false at c.seek-whole.ensures.ends in
    let here = statement_here c.self.inside.held.items c.deref.result.now c.deref-2.result.now c.in_ok-text.text.items c.self.inside.cursor.start c.new-self-inside.result.start c.seek-whole.result.0 c.deref.ensures.value c.deref-2.ensures.value c.seek-whole.ensures.at ends.0 ends.1 c.seek-whole.ensures.skips c.new-self-inside.ensures.start c.in_ok-text.ensures.items in
    record {
      before = c.requires;
      behind = ap (λ (i : Input). i.awaited) c.self.view_is ∙ c.requires;
      is_statement = here.is_statement;
      first = subst (λ (i : Input). Skips i.left (closed c.in_ok-text.text.items ++ drop c.new-self-inside.result.start c.self.inside.held.items)) c.self.view_is here.first;
    }

pub invariant_of-self-2 : goal.invariant_of-self-2
invariant_of-self-2 c =
    let ends = rw c.if-not-whole.false at c.seek-whole.ensures.ends in
    let here = statement_here c.self.inside.held.items c.deref.result.now c.deref-2.result.now c.in_ok-text.text.items c.self.inside.cursor.start c.new-self-inside.result.start c.seek-whole.result.0 c.deref.ensures.value c.deref-2.ensures.value c.seek-whole.ensures.at ends.0 ends.1 c.seek-whole.ensures.skips c.new-self-inside.ensures.start c.in_ok-text.ensures.items in
    let none : c.self.inside.awaited ≡ None = ap (λ (i : Input). i.awaited) c.self.view_is ∙ c.requires in (
      record { within = here.within; scan = c.new-self-inside.ensures.scan _ },
      λ owes. absurd (owes_nothing c.self.inside.awaited none owes),
    )
