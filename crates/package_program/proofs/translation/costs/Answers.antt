use Rattle.std.proofs.Common.{map}
use Rattle.bound_query.specs.Terms.{term_value}
use Rattle.package_program.specs.Translation.{entries_of}
use Rattle.package_program.proofs.FormSteps.{goal_fits, no_goal, goal_kept}
use Rattle.package_program.proofs.Legal.{adds_small}
use Rattle.package_program.proofs.translation.costs.Goals as goal

pub returns-in_default : goal.returns-in_default
returns-in_default c = no_goal c.args.query.now (entries_of c.args.candidates.now) c.adds_of.result c.in_default.is c.adds_of.ensures

pub adds_of-requires-2-clause-fits : goal.adds_of-requires-2-clause-fits
adds_of-requires-2-clause-fits c = goal_fits c.args.query.now (entries_of c.args.candidates.now) c.in-Some.goal c.as_slice-terms.result.now c.in-Some.is c.as_slice-terms.ensures c.requires.rows.each

pub negated-requires : goal.negated-requires
negated-requires c = rw c.in_ok-sum.ensures.0 (adds_small c.args.query.now.row_bound (map term_value c.as_slice-terms.result.now) (entries_of c.args.candidates.now) c.in_ok-sum.ensures.1)

pub returns-then-goal : goal.returns-then-goal
returns-then-goal c = goal_kept c.args.query.now (entries_of c.args.candidates.now) c.in-Some.goal c.as_slice-terms.result.now c.in_ok-sum.sum c.in-Some.is c.as_slice-terms.ensures c.if-goal.true c.in_ok-sum.ensures
