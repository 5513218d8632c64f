use Rattle.std.proofs.Common.{◌≡◌, rules}
use Rattle.std.proofs.lemmas.Int.{to_z-of_z}
use mir.Syntax.{w128}
use mir.Val.{SFits, to_z}
use Rattle.sketch.specs.Lines.{numbers_of}
use Rattle.sketch.proofs.Gifts.{gift, gift_fits, stored_gift}
use Rattle.sketch.proofs.giving.given_by_members.Goals as goal

pub overflow_add-total : goal.overflow_add-total
overflow_add-total c =
    let fits : SFits w128 c.product-total.result = search rules in
    let one_is : c.product-total.result ≡ gift (numbers_of c.args.problem.now c.args.line) c.args.part.now c.args.counts.now c.loop-place.place = search rules in
    simp to_z-of_z (gift_fits c.args.problem.now c.args.line c.args.part.now c.args.counts.now c.number.ensures.legal c.requires.line c.requires.part c.requires.counts c.loop-place.place (to_z w128 c.loop-place.total-bits) c.product-total.result c.loop-place-test.true c.loop-place.invariant one_is)

pub loop-place-preserved : goal.loop-place-preserved
loop-place-preserved c =
    let fits : SFits w128 c.product-total.result = search rules in
    let one_is : c.product-total.result ≡ gift (numbers_of c.args.problem.now c.args.line) c.args.part.now c.args.counts.now c.loop-place.place = search rules in
    stored_gift c.args.problem.now c.args.line c.args.part.now c.args.counts.now c.number.ensures.legal c.requires.line c.requires.part c.requires.counts c.loop-place.place (to_z w128 c.loop-place.total-bits) c.product-total.result c.loop-place-test.true c.loop-place.invariant one_is fits
