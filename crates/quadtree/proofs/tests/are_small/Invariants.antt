use Rattle.std.proofs.Common.{ℕ, ◌<◌, ◌≤◌, ◌^◌, unsigned_abs}
use Rattle.quadtree.specs.Points.{int_at}
use Rattle.quadtree.proofs.tests.are_small.Given as goal

abbrev pub invariant-loop-number : goal.invariant-loop-number
invariant-loop-number l = (k : ℕ) → k < l.number-index → unsigned_abs (int_at l.numbers k) ≤ 10 ^ 12
