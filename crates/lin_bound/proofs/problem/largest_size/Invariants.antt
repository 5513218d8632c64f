use Rattle.std.proofs.Common.{ℕ, ◌<◌, ◌≤◌}
use Rattle.std.specs.Prelude.{unsigned_abs}
use Rattle.lin_bound.specs.Sums.{int_at}
use Rattle.lin_bound.proofs.problem.largest_size.Given as goal

abbrev pub invariant-loop-place : goal.invariant-loop-place
invariant-loop-place l = (i : ℕ) → i < l.place → unsigned_abs (int_at l.numbers i) ≤ l.size
