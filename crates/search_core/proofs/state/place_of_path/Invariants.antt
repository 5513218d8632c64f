use Rattle.std.proofs.Common.{◌≡◌, ℕ, ◌≤◌, ◌<◌, length, Some}
use Rattle.std.specs.Prelude.{slice_get}
use Rattle.search_core.proofs.state.place_of_path.Given as goal

abbrev pub invariant-loop-place : goal.invariant-loop-place
invariant-loop-place l = (l.place ≤ length l.left) × ((i : ℕ) → l.place ≤ i → i < length l.left → slice_get l.left i ≡ Some l.path → ⊥)

abbrev pub decreases-loop-place : goal.decreases-loop-place
decreases-loop-place l = l.place
