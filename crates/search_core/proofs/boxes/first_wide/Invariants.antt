use Rattle.std.proofs.Common.{ℕ, ◌<◌, ◌≤◌, get_or}
use Rattle.search_core.proofs.boxes.first_wide.Given as goal

abbrev pub invariant-loop-variable : goal.invariant-loop-variable
invariant-loop-variable l = (i : ℕ) → i < l.variable → get_or l.high i 0 ≤ get_or l.low i 0
