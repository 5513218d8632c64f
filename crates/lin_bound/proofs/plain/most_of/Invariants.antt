use Rattle.std.proofs.Common.{◌≡◌, ◌≤◌}
use Rattle.std.specs.Prelude.{unsigned_abs}
use Rattle.lin_bound.specs.Problem.{load}
use Rattle.lin_bound.specs.Activities.{greatest_activity}
use Rattle.lin_bound.proofs.plain.most_of.Given as goal

abbrev pub invariant-loop-variable : goal.invariant-loop-variable
invariant-loop-variable l =
    (l.total ≡ greatest_activity l.coefficients l.region l.variable) × (unsigned_abs l.total ≤ load l.problem.upper l.coefficients l.variable)
