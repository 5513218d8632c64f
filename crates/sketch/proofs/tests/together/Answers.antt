use Rattle.std.proofs.Common.{◌∙◌}
use Rattle.sketch.proofs.WorkedLemmas.{three_parts, as_long}
use Rattle.sketch.proofs.tests.together.Goals as goal

pub joined-requires-clause-parts : goal.joined-requires-clause-parts
joined-requires-clause-parts c = rw (c.in_ok-problem.ensures, c.as_slice.ensures ∙ c.in_ok-parts.ensures) three_parts

pub joined-requires-clause-counts : goal.joined-requires-clause-counts
joined-requires-clause-counts c = rw (c.as_slice.ensures ∙ c.in_ok-parts.ensures, c.as_slice-2.ensures ∙ c.in_ok-counts.ensures) as_long
