use Rattle.std.proofs.Common.{ℕ, ◌+◌, ◌<◌}
use Rattle.lin_bound.specs.Bound.{plain, Closes}
use Rattle.lin_bound.proofs.plain.plain_closing.Given as goal

abbrev pub invariant-loop-row : goal.invariant-loop-row
invariant-loop-row l = (n : ℕ) → n < l.row + 1 → ¬ Closes l.problem l.region (plain l.problem n) l.fn.best
