-- Private: the board of a search, which the program does not use yet: what a step tells.
-- What each kind of step tells the seat that makes it.
use Rattle.std.specs.Prelude.{◌≡◌, ℕ, ◌<◌, ◌≤◌, false, List}
use mathlib.Core.Option.{some}
use lib.ListN.{get_elem?}
use Rattle.atomic_table.specs.Table.{Step, Me}
use Rattle.search_board.specs.Values.{rank, named, value_of}
use Rattle.search_board.specs.Views.{seeing, offering, drawing, ending}
use Rattle.search_board.specs.Rule.{Holds, times, once_below}
use Rattle.search_board.specs.declared.view.BoardView.{BoardView}

-- The rule has a state with these two words in which a seat knows just this.
abbrev pub Moment : BoardView → ℕ → ℕ → Type 0
Moment v best drawn = (views : List BoardView) × (id : ℕ)
    × (get_elem? views id ≡ some v) × Holds v.budget best drawn views

-- these are the numbers below some n, each once, and n is at most the budget
abbrev pub IsAllDrawn : ℕ → List ℕ → Type 0
IsAllDrawn budget drawn = (n : ℕ) × (n ≤ budget) × ((x : ℕ) → times x drawn ≡ once_below x n)

-- a load of the best value: it is seen
abbrev pub Looked : Step (Unit {0}) → Me (Unit {0}) BoardView → ℕ
    → Me (Unit {0}) BoardView → Type 0
Looked st m found w = (w.0 ≡ seeing (named found) m.0) × (w.1 ≡ m.1) × (rank m.0.seen ≤ found)
    × ((drawn : ℕ) × Moment w.0 found drawn)

-- the best value is raised to one that is offered
abbrev pub Offered : Step (Unit {0}) → Me (Unit {0}) BoardView → ℕ
    → Me (Unit {0}) BoardView → Type 0
Offered st m found w = (w.0 ≡ offering (value_of st.first) m.0) × (w.1 ≡ m.1)

-- a mark: the budget is spent
abbrev pub Ended : Me (Unit {0}) BoardView → Me (Unit {0}) BoardView → Type 0
Ended m w = (w.0 ≡ ending m.0) × (w.1 ≡ m.1)
    × ((best : ℕ) × (drawn : ℕ) × (m.0.budget ≤ drawn) × Moment w.0 best drawn)

-- a load of the drawn number: at the budget the seat is marked
abbrev pub Counted : Step (Unit {0}) → Me (Unit {0}) BoardView → ℕ
    → Me (Unit {0}) BoardView → Type 0
Counted st m found w = (found < m.0.budget → (w ≡ m) × (m.0.ended ≡ false))
    × (m.0.budget ≤ found → Ended m w)

-- one is added to the drawn number: what was found is drawn, and at the budget the seat is marked
abbrev pub Drawn : Step (Unit {0}) → Me (Unit {0}) BoardView → ℕ
    → Me (Unit {0}) BoardView → Type 0
Drawn st m found w = (found < m.0.budget → (w.0 ≡ drawing found m.0) × (w.1 ≡ m.1))
    × (m.0.budget ≤ found → Ended m w)
