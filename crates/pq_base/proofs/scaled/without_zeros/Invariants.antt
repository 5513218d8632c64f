use Rattle.std.proofs.Common.{◌≡◌, ◌*◌, ◌^◌, ◌≤◌, ℕ}
use Rattle.pq_base.proofs.scaled.without_zeros.Given as goal

-- what is left is the same number
pub record IsStripping (magnitude scale rest places : ℕ) : Type 0 where
  pub same : rest * 10 ^ scale ≡ magnitude * 10 ^ places
  pub smaller : rest ≤ magnitude
  pub fewer : places ≤ scale

abbrev pub invariant-loop-places : goal.invariant-loop-places
invariant-loop-places l = IsStripping l.magnitude l.scale l.rest l.places

abbrev pub decreases-loop-places : goal.decreases-loop-places
decreases-loop-places l = l.places
