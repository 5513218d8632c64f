use Rattle.std.proofs.Common.{◌≡◌, ℕ, ◌<◌, length, get_or}
use Rattle.lin_bound.proofs.points.overwrite.Given as goal

abbrev pub invariant-loop-place : goal.invariant-loop-place
invariant-loop-place l = (length l.into ≡ length l.from) × ((j : ℕ) → j < l.place → get_or l.into j 0 ≡ get_or l.from j 0)
