use Rattle.std.proofs.Common.{ℕ, ◌+◌, ◌*◌, ◌^◌, ◌<◌, ◌≤◌}
use Rattle.lin_bound.specs.Problem.{variables}
use Rattle.lin_bound.specs.Weights.{mass_by}
use Rattle.lin_bound.proofs.bounds.most_mass.Given as goal

abbrev pub invariant-loop-row : goal.invariant-loop-row
invariant-loop-row l =
    ((i : ℕ) → i < variables l.problem → mass_by l.problem l.mult l.row i ≤ l.total) × (l.total ≤ (l.row + 1) * 2 ^ 94)
