use Rattle.std.proofs.Common.{ℕ, ◌<◌}
use Rattle.quadtree.specs.Places.{IsFit, point_at}
use Rattle.quadtree.proofs.tests.are_fit.Given as goal

abbrev pub invariant-loop-place : goal.invariant-loop-place
invariant-loop-place l = (k : ℕ) → k < l.place → IsFit l.columns (point_at l.points k)
