use Rattle.std.proofs.Common.{◌≡◌, ℕ, ◌<◌}
use Rattle.std.specs.Prelude.{pos, ◌*ℤ◌}
use Rattle.lin_bound.specs.Sums.{int_at}
use Rattle.lin_bound.proofs.narrow.set_costs.Given as goal

abbrev pub invariant-loop-place : goal.invariant-loop-place
invariant-loop-place l = (k : ℕ) → k < l.place → int_at l.weights k ≡ pos l.d *ℤ int_at l.costs k
