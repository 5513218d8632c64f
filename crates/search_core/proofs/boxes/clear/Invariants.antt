use Rattle.std.proofs.Common.{◌≡◌, ℕ, ◌<◌, length, get_or}
use Rattle.search_core.proofs.boxes.clear.Given as goal

abbrev pub invariant-loop-place : goal.invariant-loop-place
invariant-loop-place l = (length l.counts ≡ length l.initial.counts) × ((j : ℕ) → j < l.place → get_or l.counts j 0 ≡ 0)
