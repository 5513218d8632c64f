use Rattle.std.proofs.Common.{ℕ, ◌<◌}
use Rattle.std.specs.Prelude.{◌≤ℤ◌}
use Rattle.lin_bound.specs.Sums.{int_at}
use Rattle.lin_bound.specs.Problem.{row_at}
use Rattle.lin_bound.proofs.points.keeps_rows.Given as goal

abbrev pub invariant-loop-row : goal.invariant-loop-row
invariant-loop-row l = (j : ℕ) → j < l.row → row_at l.problem j l.point ≤ℤ int_at l.problem.rhs j
