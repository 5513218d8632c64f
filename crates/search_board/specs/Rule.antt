-- Private: the board of a search, which the program does not use yet: its rule.
-- The rule of the board, between any two steps of any threads.
use Rattle.std.specs.Prelude.{◌≡◌, ℕ, ◌+◌, ◌^◌, ◌<◌, ◌≤◌, min, max, true, ◌||◌, cond, eqb, ltb}
use Rattle.std.specs.Prelude.{List, [], ◌∷◌, All}
use mathlib.Core.Option.{some}
use lib.ListN.{get_elem?}
use Rattle.atomic_table.specs.Table.{State}
use Rattle.search_board.specs.Values.{IsSmall, rank, top}
use Rattle.search_board.specs.declared.view.BoardView.{BoardView}

-- a number of each seat, added up, and the greatest of these numbers
abbrev pub total : (BoardView → ℕ) → List BoardView → ℕ
total f [] = 0
total f (v ∷ views) = f v + total f views

abbrev pub most : (BoardView → ℕ) → List BoardView → ℕ
most f [] = 0
most f (v ∷ views) = max (f v) (most f views)

-- how often x is in the list
abbrev pub times : ℕ → List ℕ → ℕ
times x [] = 0
times x (y ∷ ys) = cond (eqb y x) 1 0 + times x ys

-- 1 for each number below n, and 0 for the others
abbrev pub once_below : ℕ → ℕ → ℕ
once_below x n = cond (ltb x n) 1 0

abbrev pub parts_of : BoardView → ℕ
parts_of v = v.parts

abbrev pub top_of : BoardView → ℕ
top_of v = top v.offered

abbrev pub times_of : ℕ → BoardView → ℕ
times_of x v = times x v.drawn

-- a seat that has read that the budget is spent, or has no part
abbrev pub done_of : BoardView → ℕ
done_of v = cond (v.ended || eqb v.parts 0) 1 0

-- the parts of a marked seat
abbrev pub ended_of : BoardView → ℕ
ended_of v = cond v.ended v.parts 0

-- What holds of each seat. A seat without parts was joined to another.
pub record Fits (budget best drawn : ℕ) (v : BoardView) : Type 0 where
  pub budget_is : 0 < v.parts → v.budget ≡ budget
  pub seen_below : rank v.seen ≤ best
  pub ended : v.ended ≡ true → budget ≤ drawn
  pub idle : v.parts ≡ 0 → (v.offered ≡ []) × (v.drawn ≡ [])
  pub small : All IsSmall v.offered

-- `best` and `drawn` are the two words. The best word is the greatest of all offers; each number below
-- both the drawn word and the budget was drawn once, by one seat, and no other number was drawn.
pub record Holds (budget best drawn : ℕ) (views : List BoardView) : Type 0 where
  pub parts : total parts_of views ≡ 64
  pub best_is : best ≡ most top_of views
  pub best_small : best < 2 ^ 62
  pub once : (x : ℕ) → total (times_of x) views ≡ once_below x (min drawn budget)
  -- it passes the budget by at most one for each seat that was ever made, and by at most 64
  pub seats : drawn ≤ budget + total done_of views
  pub spare : drawn ≤ budget + total ended_of views
  pub each : (id : ℕ) (v : BoardView) → get_elem? views id ≡ some v → Fits budget best drawn v

pub record Kept (budget : ℕ) (s : State (Unit {0}) BoardView) : Type 0 where
  pub best : ℕ
  pub drawn : ℕ
  pub words : s.words ≡ best ∷ drawn ∷ []
  pub holds : Holds budget best drawn s.views
