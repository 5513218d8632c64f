use Rattle.std.proofs.Common.{◌≡◌, ℕ, ◌<◌, length, get_or}
use Rattle.search_core.proofs.multipliers.clear.Given as goal

abbrev pub invariant-loop-row : goal.invariant-loop-row
invariant-loop-row l = (length l.lambda ≡ length l.initial.lambda) × ((j : ℕ) → j < l.row → get_or l.lambda j 0 ≡ 0)
