-- Private: a lane of open paths, which the program does not use yet: its rule.
-- The rule of a lane, between any two steps of its two ends.
use Rattle.std.specs.Prelude.{◌≡◌, ℕ, ◌≤◌, true, List, ◌++◌, length, IsPermutation}
use mathlib.Core.Option.{some}
use lib.ListN.{get_elem?}
use Rattle.sub_deque.specs.declared.view.LaneView.{LaneView}
use Rattle.sub_deque.specs.Views.{Paths}

-- what was put is what was popped, what was stolen and what is left, each path as often
abbrev pub IsAccount : Paths → Paths → Paths → Paths → Type 0
IsAccount put popped stolen left = IsPermutation put (popped ++ (stolen ++ left))

-- The end that owns knows all that was put and popped, and the end that steals all that was stolen.
-- Each of the two is one end only, known by its number.
pub record Fits (owner thief : ℕ) (put popped stolen : Paths) (id : ℕ) (v : LaneView) : Type 0 where
  pub owns : v.owns ≡ true → (id ≡ owner) × (v.put ≡ put) × (v.popped ≡ popped)
  pub steals : v.steals ≡ true → (id ≡ thief) × (v.stolen ≡ stolen)

-- the paths in the lane, the first one first, and the views of its ends
pub record Kept (items : Paths) (views : List LaneView) : Type 0 where
  pub owner : ℕ
  pub thief : ℕ
  pub put : Paths
  pub popped : Paths
  pub stolen : Paths
  pub same : IsAccount put popped stolen items
  pub each : (id : ℕ) (v : LaneView) → get_elem? views id ≡ some v
      → Fits owner thief put popped stolen id v

-- the rule has a state in which an end knows just this, and at most so many paths are in the lane
abbrev pub Moment : ℕ → LaneView → Type 0
Moment most v = (items : Paths) × (length items ≤ most)
    × (views : List LaneView) × (id : ℕ) × (get_elem? views id ≡ some v) × Kept items views
