use Rattle.std.proofs.Common.{◌≡◌, ℕ, ◌<◌, Some}
use Rattle.std.specs.Prelude.{slice_get}
use Rattle.search_core.specs.declared.event.Hand.{Hand}
use Rattle.search_core.proofs.state.place_of_hand.Given as goal

abbrev pub invariant-loop-place : goal.invariant-loop-place
invariant-loop-place l = (i : ℕ) → i < l.place → (other : Hand) → slice_get l.hands i ≡ Some other → other.worker ≡ l.worker → ⊥
