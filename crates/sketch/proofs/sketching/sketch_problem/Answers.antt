use Rattle.sketch.proofs.Sketches.{made_legal}
use Rattle.sketch.proofs.sketching.sketch_problem.Goals as goal

pub new-requires : goal.new-requires
new-requires c =
    made_legal c.args.problem.now c.args.parts.now c.requires.even c.requires.parts c.variables-legal.ensures.legal c.in_ok-cost.cost c.in_ok-rows.rows c.in_ok-rhs.rhs c.in_ok-upper.upper c.in_ok-cost.ensures c.in_ok-rows.ensures c.in_ok-rhs.ensures c.in_ok-upper.ensures
