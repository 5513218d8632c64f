use Rattle.std.proofs.Common.{arith, sym, ap, ◌∙◌, Some}
use Rattle.std.proofs.lemmas.Option.{slice_get-get_or}
use Rattle.search_core.specs.declared.event.Hand.{Hand}
use Rattle.search_core.proofs.Table.{none_more, none_busy}
use Rattle.search_core.proofs.state.place_of_hand.Goals as goal

pub loop-place-init : goal.loop-place-init
loop-place-init c = λ i h. absurd (omega (arith, h))

pub returns-then-hands-place : goal.returns-then-hands-place
returns-then-hands-place c =
    let there = slice_get-get_or c.args.hands.now c.loop-place.place c.index-hands-place.result c.loop-place-test.true in
    (c.index-hands-place.result, there ∙ ap Some (sym c.index-hands-place.is), ap (λ (h : Hand). h.worker) c.index-hands-place.is ∙ c.if-hands-place.true)

pub loop-place-preserved : goal.loop-place-preserved
loop-place-preserved c =
    none_more c.args.hands.now c.args.worker c.loop-place.place c.index-hands-place.result c.index-hands-place.is
    (λ same. c.if-hands-place.false (ap (λ (h : Hand). h.worker) (sym c.index-hands-place.is) ∙ same)) c.loop-place.invariant

pub returns : goal.returns
returns c = none_busy c.args.hands.now c.args.worker c.loop-place.place (omega (arith, c.loop-place-test.false)) c.loop-place.invariant
