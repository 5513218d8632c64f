use Rattle.std.proofs.Common.{refl, sym}
use Rattle.std.proofs.lemmas.Option.{slice_get_within}
use Rattle.search_core.proofs.Handling.{at_hand, hand_box, unlooked, stuck, low_of, low_unlooked, closed, split}
use Rattle.search_core.proofs.state.State.handle.Goals as goal

pub returns-in_default-seen-clause-ok : goal.returns-in_default-seen-clause-ok
returns-in_default-seen-clause-ok c =
    let here = at_hand c.self.inside.hands.items c.args.worker c.in-Some.place c.index-hand.result.now (rw c.deref.ensures.value at c.in-Some.ensures) c.index-hand.ensures in (
      rw (sym c.self.view_is)
          (unlooked c.args.problem.now _ c.args.worker c.in-Some.place c.args.plan.now.proposal c.index-hand.result.now (rw (sym c.self.view_is) at c.requires.kept) here.0 here.1 c.in_default-seen.not-Looked),
      refl,
    )

pub returns-in-Better-clause-ok : goal.returns-in-Better-clause-ok
returns-in-Better-clause-ok c =
    let here = at_hand c.self.inside.hands.items c.args.worker c.in-Some.place c.index-hand.result.now (rw c.deref.ensures.value at c.in-Some.ensures) c.index-hand.ensures in (
      rw (sym c.self.view_is)
          (stuck c.args.problem.now _ c.args.worker c.in-Some.place c.args.plan.now.proposal c.index-hand.result.now c.in-Looked.seen c.args.region.now (rw (sym c.self.view_is) at c.requires.kept) here.0 here.1 c.in-Looked.is (hand_box c.args.problem.now c.self.inside.hands.items c.args.worker c.in-Some.place c.index-hand.result.now c.args.region.now here.0 here.1 (rw (sym c.self.view_is) at c.requires.shown)) c.requires.region c.in-Better.ensures.handled),
      refl,
    )

pub close-requires : goal.close-requires
close-requires c =
    let here = at_hand c.self.inside.hands.items c.args.worker c.in-Some.place c.index-hand.result.now (rw c.deref.ensures.value at c.in-Some.ensures) c.index-hand.ensures in
    rw (sym c.self.view_is) (slice_get_within c.self.inside.hands.items c.in-Some.place c.index-hand.result.now here.0)

pub split-requires : goal.split-requires
split-requires c =
    let here = at_hand c.self.inside.hands.items c.args.worker c.in-Some.place c.index-hand.result.now (rw c.deref.ensures.value at c.in-Some.ensures) c.index-hand.ensures in
    rw (sym c.self.view_is) (slice_get_within c.self.inside.hands.items c.in-Some.place c.index-hand.result.now here.0)

pub returns-in_ok-close-in-Closed-clause-ok : goal.returns-in_ok-close-in-Closed-clause-ok
returns-in_ok-close-in-Closed-clause-ok c =
    let here = at_hand c.self.inside.hands.items c.args.worker c.in-Some.place c.index-hand.result.now (rw c.deref.ensures.value at c.in-Some.ensures) c.index-hand.ensures in
    rw (sym c.self.view_is)
    (closed c.args.problem.now _ c.close.new.self c.args.worker c.in-Some.place c.args.plan.now.proposal c.index-hand.result.now c.in-Looked.seen c.args.region.now _ here.0 here.1 c.in-Looked.is (hand_box c.args.problem.now c.self.inside.hands.items c.args.worker c.in-Some.place c.index-hand.result.now c.args.region.now here.0 here.1 (rw (sym c.self.view_is) at c.requires.shown)) c.in-Closed.ensures.work.mult c.in-Closed.ensures.handled (rw (sym c.self.view_is) at c.in_ok-close-in-Closed.ensures.ok))

pub returns-in_ok-split-in-Split-clause-ok : goal.returns-in_ok-split-in-Split-clause-ok
returns-in_ok-split-in-Split-clause-ok c =
    let here = at_hand c.self.inside.hands.items c.args.worker c.in-Some.place c.index-hand.result.now (rw c.deref.ensures.value at c.in-Some.ensures) c.index-hand.ensures in
    rw (sym c.self.view_is)
    (split c.args.problem.now _ c.split.new.self c.args.worker c.in-Some.place c.in-Split.var c.in-Split.at c.args.plan.now.proposal c.index-hand.result.now c.in-Looked.seen c.args.region.now _ c.args.plan.now.is_upper_next here.0 here.1 c.in-Looked.is (hand_box c.args.problem.now c.self.inside.hands.items c.args.worker c.in-Some.place c.index-hand.result.now c.args.region.now here.0 here.1 (rw (sym c.self.view_is) at c.requires.shown)) c.requires.plan c.in-Split.ensures.handled (rw (sym c.self.view_is) at c.in_ok-split-in-Split.ensures.ok))

pub returns-in_default-seen-clause-point : goal.returns-in_default-seen-clause-point
returns-in_default-seen-clause-point c =
    let here = at_hand c.self.inside.hands.items c.args.worker c.in-Some.place c.index-hand.result.now (rw c.deref.ensures.value at c.in-Some.ensures) c.index-hand.ensures in
    λ e. rw (sym c.self.view_is)
    (low_unlooked c.args.problem.now _ c.args.worker c.in-Some.place c.index-hand.result.now _ (rw (sym c.self.view_is) at c.requires.kept) here.0 here.1 c.in_default-seen.not-Looked)

pub returns-in-Better-clause-point : goal.returns-in-Better-clause-point
returns-in-Better-clause-point c =
    let here = at_hand c.self.inside.hands.items c.args.worker c.in-Some.place c.index-hand.result.now (rw c.deref.ensures.value at c.in-Some.ensures) c.index-hand.ensures in
    λ e. rw (sym c.self.view_is)
    (low_of c.args.problem.now _ c.args.worker c.in-Some.place c.index-hand.result.now c.args.region.now _ (rw (sym c.self.view_is) at c.requires.kept) here.0 here.1 (hand_box c.args.problem.now c.self.inside.hands.items c.args.worker c.in-Some.place c.index-hand.result.now c.args.region.now here.0 here.1 (rw (sym c.self.view_is) at c.requires.shown)) (c.in-Better.ensures.point refl))
