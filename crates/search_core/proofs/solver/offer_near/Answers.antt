use Rattle.search_core.proofs.Going.{informs}
use Rattle.search_core.proofs.solver.offer_near.Goals as goal

pub returns : goal.returns
returns c = informs c.args.problem.now c.args.state.now c.offer_each.new.state c.look.new.self c.look.result c.requires.alone c.offer_each.ensures c.look.ensures
