-- Private: the board of a search, which the program does not use yet: laws.
-- What ranks and lists of draws say.
use Rattle.std.specs.Prelude.{◌≡◌, ℕ, ◌<◌, ◌≤◌, ◌↔◌, ◌≢◌, ℤ, List, [], All, Contains, Some, length}
use mathlib.Core.Option.{some}
use lib.ListN.{get_elem?}
use lib.Signed.{◌≤ℤ◌}
use Rattle.search_board.specs.Values.{IsSmall, rank, top}
use Rattle.search_board.specs.Rule.{Holds}
use Rattle.search_board.specs.Steps.{IsAllDrawn}
use Rattle.search_board.specs.declared.view.BoardView.{BoardView}

abbrev pub RanksFollow : Type 0
RanksFollow = (a b : ℤ) → IsSmall a → IsSmall b
    → (0 < rank (Some a)) × ((rank (Some a) ≤ rank (Some b)) ↔ (a ≤ℤ b))

abbrev pub IsTop : List ℤ → Type 0
IsTop values = ((value : ℤ) × Contains values value × (top values ≡ rank (Some value)))
    × All (λ value. rank (Some value) ≤ top values) values

abbrev pub TopIsBest : Type 0
TopIsBest = (values : List ℤ) → values ≢ [] → IsTop values

abbrev pub DrawsFit : Type 0
DrawsFit = (budget : ℕ) (drawn : List ℕ) → IsAllDrawn budget drawn → length drawn ≤ budget

abbrev pub NothingOffered : List BoardView → Type 0
NothingOffered views = (id : ℕ) (v : BoardView) → get_elem? views id ≡ some v → v.offered ≡ []

abbrev pub NoneIsNoOffer : Type 0
NoneIsNoOffer = (budget best drawn : ℕ) (views : List BoardView)
    → Holds budget best drawn views → (best ≡ 0) ↔ NothingOffered views
