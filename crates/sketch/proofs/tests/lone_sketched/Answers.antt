use Rattle.std.proofs.Common.{◌∙◌}
use Rattle.sketch.proofs.WorkedLemmas.{lone_even, one_parts}
use Rattle.sketch.proofs.tests.lone_sketched.Goals as goal

pub sketch_problem-requires-clause-even : goal.sketch_problem-requires-clause-even
sketch_problem-requires-clause-even c = rw c.in_ok-problem.ensures lone_even

pub sketch_problem-requires-clause-parts : goal.sketch_problem-requires-clause-parts
sketch_problem-requires-clause-parts c = rw (c.in_ok-problem.ensures, c.as_slice.ensures ∙ c.in_ok-parts.ensures) one_parts
