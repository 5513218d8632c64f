-- Private: the board of a search, which the program does not use yet: views.
-- What a seat knows after each kind of step.
use Rattle.std.specs.Prelude.{ℕ, ◌+◌, ◌-◌, Bool, true, false, ◌||◌, cond, ltb, ℤ}
use Rattle.std.specs.Prelude.{List, [], ◌∷◌, ◌++◌, Option, None}
use Rattle.search_board.specs.Values.{rank}
use Rattle.search_board.specs.declared.view.BoardView.{BoardView}

abbrev pub view : ℕ → ℕ → Option ℤ → List ℤ → List ℕ → Bool → BoardView
view parts budget seen offered drawn ended = record {
  parts = parts;
  budget = budget;
  seen = seen;
  offered = offered;
  drawn = drawn;
  ended = ended;
}

-- the first seat has all parts
abbrev pub first_view : ℕ → BoardView
first_view budget = view 64 budget None [] [] false

-- it saw this as the best value
abbrev pub seeing : Option ℤ → BoardView → BoardView
seeing best v = view v.parts v.budget best v.offered v.drawn v.ended

-- it offered a value more
abbrev pub offering : ℤ → BoardView → BoardView
offering value v = view v.parts v.budget v.seen (v.offered ++ value ∷ []) v.drawn v.ended

-- it drew a number more
abbrev pub drawing : ℕ → BoardView → BoardView
drawing n v = view v.parts v.budget v.seen v.offered (v.drawn ++ n ∷ []) v.ended

-- it is marked: it has read that the budget is spent
abbrev pub ending : BoardView → BoardView
ending v = view v.parts v.budget v.seen v.offered v.drawn true

-- a seat gave one part away
abbrev pub without_one : BoardView → BoardView
without_one v = view (v.parts - 1) v.budget v.seen v.offered v.drawn v.ended

-- the seat of that part has seen as much, and has offered and drawn nothing
abbrev pub with_one : BoardView → BoardView
with_one v = view 1 v.budget v.seen [] [] v.ended

-- the better of what two have seen
abbrev pub better : Option ℤ → Option ℤ → Option ℤ
better a b = cond (ltb (rank a) (rank b)) b a

-- two seats as one
abbrev pub joined : BoardView → BoardView → BoardView
joined v w = view (v.parts + w.parts) v.budget (better v.seen w.seen)
    (v.offered ++ w.offered) (v.drawn ++ w.drawn) (v.ended || w.ended)

-- what is left of the second: no part, no offer, no draw
abbrev pub spent : BoardView
spent = view 0 0 None [] [] false
