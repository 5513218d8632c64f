use Rattle.std.proofs.Common.{refl, sym}
use Rattle.std.proofs.lemmas.Bool.{false≢true}
use Rattle.std.proofs.lemmas.Option.{slice_get_within}
use Rattle.search_core.proofs.Handling.{at_hand, hand_box, unlooked_open, still_open, closed_once}
use Rattle.search_core.proofs.state.State.close_at_once.Goals as goal

pub returns-in_default-clause-ok : goal.returns-in_default-clause-ok
returns-in_default-clause-ok c =
    let idle = rw c.deref.ensures.value at c.in_default.ensures in
    (rw (sym c.self.view_is) (λ once. idle (once.hand, once.held)), refl)

pub returns-in_default-seen-clause-ok : goal.returns-in_default-seen-clause-ok
returns-in_default-seen-clause-ok c =
    let here = at_hand c.self.inside.hands.items c.args.worker c.in-Some.place c.index-hand.result.now (rw c.deref.ensures.value at c.in-Some.ensures) c.index-hand.ensures in (
      rw (sym c.self.view_is)
          (unlooked_open c.args.problem.now _ c.args.worker c.in-Some.place c.args.mult.now c.index-hand.result.now (rw (sym c.self.view_is) at c.requires.kept) here.0 here.1 c.in_default-seen.not-Looked),
      refl,
    )

pub returns-then-not-closes-clause-ok : goal.returns-then-not-closes-clause-ok
returns-then-not-closes-clause-ok c =
    let here = at_hand c.self.inside.hands.items c.args.worker c.in-Some.place c.index-hand.result.now (rw c.deref.ensures.value at c.in-Some.ensures) c.index-hand.ensures in (
      rw (sym c.self.view_is)
          (still_open c.args.problem.now _ c.args.worker c.in-Some.place c.args.mult.now c.index-hand.result.now c.in-Looked.seen c.args.region.now (rw (sym c.self.view_is) at c.requires.kept) here.0 here.1 c.in-Looked.is (hand_box c.args.problem.now c.self.inside.hands.items c.args.worker c.in-Some.place c.index-hand.result.now c.args.region.now here.0 here.1 (rw (sym c.self.view_is) at c.requires.shown))
          (λ closes. false≢true (c.if-not-closes.ensures.1 closes))),
      refl,
    )

pub close-requires : goal.close-requires
close-requires c =
    let here = at_hand c.self.inside.hands.items c.args.worker c.in-Some.place c.index-hand.result.now (rw c.deref.ensures.value at c.in-Some.ensures) c.index-hand.ensures in
    rw (sym c.self.view_is) (slice_get_within c.self.inside.hands.items c.in-Some.place c.index-hand.result.now here.0)

pub returns-clause-ok : goal.returns-clause-ok
returns-clause-ok c =
    let here = at_hand c.self.inside.hands.items c.args.worker c.in-Some.place c.index-hand.result.now (rw c.deref.ensures.value at c.in-Some.ensures) c.index-hand.ensures in
    rw (sym c.self.view_is)
    (closed_once c.args.problem.now _ c.close.new.self c.args.worker c.in-Some.place c.args.mult.now c.index-hand.result.now c.in-Looked.seen c.args.region.now here.0 here.1 c.in-Looked.is (hand_box c.args.problem.now c.self.inside.hands.items c.args.worker c.in-Some.place c.index-hand.result.now c.args.region.now here.0 here.1 (rw (sym c.self.view_is) at c.requires.shown)) c.requires.mult (c.if-not-closes.ensures.0 refl) (rw (sym c.self.view_is) at c.in_ok-close.ensures.ok))
