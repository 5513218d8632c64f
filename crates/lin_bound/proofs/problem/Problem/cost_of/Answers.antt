use Rattle.lin_bound.proofs.Values.{light_is_small}
use Rattle.lin_bound.proofs.problem.Problem.cost_of.Goals as goal

pub value_of-requires-clause-small : goal.value_of-requires-clause-small
value_of-requires-clause-small c =
    light_is_small c.args.self.now c.costs.result.now _ c.counts.result.now _ c.costs.ensures.value c.counts.ensures c.costs.ensures.legal.cost_load c.requires.each c.requires.within
