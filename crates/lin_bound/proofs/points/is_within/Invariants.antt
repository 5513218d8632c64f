use Rattle.std.proofs.Common.{ℕ, ◌<◌, ◌≤◌}
use Rattle.lin_bound.specs.Sums.{nat_at}
use Rattle.lin_bound.proofs.points.is_within.Given as goal

abbrev pub invariant-loop-place : goal.invariant-loop-place
invariant-loop-place l = (i : ℕ) → i < l.place → nat_at l.counts i ≤ nat_at l.uppers i
