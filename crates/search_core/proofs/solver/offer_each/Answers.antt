use Rattle.std.proofs.Common.{[], refl}
use Rattle.search_core.proofs.Going.{offers_more}
use Rattle.search_core.proofs.solver.offer_each.Goals as goal

pub loop-point-init : goal.loop-point-init
loop-point-init c = record { reaches = ([], refl); hands = refl; budget = refl; records = refl }

pub loop-point-preserved : goal.loop-point-preserved
loop-point-preserved c = offers_more c.args.problem.now c.args.state.now c.loop-point.state c.offer.new.self _ c.offer.result c.loop-point.invariant c.offer.ensures
