use Rattle.std.proofs.Common.{ℕ, ◌≤◌, ◌<◌, length}
use Rattle.std.specs.List.{HoldsAt}
use Rattle.cert_tree.specs.Pieces.{IsAt}
use Rattle.cert_tree.proofs.assembly.place_of.Given as goal

abbrev pub invariant-loop-place : goal.invariant-loop-place
invariant-loop-place l = (l.place ≤ length l.pieces) × ((k : ℕ) → l.place ≤ k → k < length l.pieces → ¬ HoldsAt (IsAt l.path) l.pieces k)

abbrev pub decreases-loop-place : goal.decreases-loop-place
decreases-loop-place l = l.place
