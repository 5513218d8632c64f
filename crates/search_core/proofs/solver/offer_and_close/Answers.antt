use Rattle.search_core.proofs.Going.{closes_better, keeps_offer_look}
use Rattle.search_core.proofs.solver.offer_and_close.Goals as goal

pub show_box-requires-clause-kept : goal.show_box-requires-clause-kept
show_box-requires-clause-kept c =
    keeps_offer_look c.args.problem.now c.args.state.now c.offer.new.self c.look.new.self c.in_ok-point.point c.offer.result c.look.result c.requires.kept c.offer.ensures c.look.ensures

pub handle-requires-clause-kept : goal.handle-requires-clause-kept
handle-requires-clause-kept c =
    keeps_offer_look c.args.problem.now c.args.state.now c.offer.new.self c.look.new.self c.in_ok-point.point c.offer.result c.look.result c.requires.kept c.offer.ensures c.look.ensures

pub returns-clause-advanced : goal.returns-clause-advanced
returns-clause-advanced c =
    closes_better c.args.problem.now c.args.state.now c.offer.new.self c.look.new.self c.handle.new.self c.args.plan.now.proposal c.in_ok-point.point c.offer.result c.look.result c.in_ok-handle.field-0
    c.variables-legal.ensures.legal c.requires.kept c.requires.alone c.requires.stuck (rw c.in_ok-point.ensures c.requires.point) c.offer.ensures c.look.ensures c.in_ok-handle.ensures.ok
