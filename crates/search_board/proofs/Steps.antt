-- Each step that changes one view keeps the rule.
use Rattle.std.proofs.Common.{◌≡◌, ℕ, ◌+◌, ◌%◌, ◌^◌, ◌<◌, ◌≤◌, min, max, eqb, cond, Bool, true, false, List, [], ◌∷◌, set, sym, refl, ap, ◌∙◌, subst, lt_of_not-le, arith}
use Rattle.std.proofs.lemmas.Bool.Decides.{nat_tests}
use Rattle.std.specs.Prelude.{ℤ, slice_index, slice_set}
use Rattle.std.proofs.lemmas.List.Elements.{All-push}
use mathlib.Core.Option.{some}
use mathlib.Core.Logic.{dite}
use native.Mathlib.Decide.{dec_le}
use lib.ListN.{get_elem?}
use Rattle.atomic_table.specs.Table.{State, Step, Me, Act, keeps, Valid, Allows, homes_after, carried_after}
use Rattle.search_board.specs.Values.{IsSmall, word_of, value_of, named}
use Rattle.search_board.specs.Views.{seeing, offering, drawing, ending}
use Rattle.search_board.specs.Rule.{Fits, Holds, Kept, total, once_below, parts_of, top_of, times_of, done_of, ended_of}
use Rattle.search_board.specs.Steps.{Moment, Looked, Offered, Counted, Drawn}
use Rattle.search_board.specs.declared.view.BoardView.{BoardView}
use Rattle.search_board.proofs.Sums.{total_set, most_set, most_at, at_here, total_le, times_append, each_set}
use Rattle.atomic_table.proofs.Lists.{set_again}
use Rattle.search_board.proofs.Values.{rank_named, value_word, word_small, top_snoc}

pub by_le : {X : Type 0} → (a b : ℕ) → (a ≤ b → X) → (b < a → X) → X
by_le a b small large = dite (dec_le a b) small (λ n. large (lt_of_not-le n))

pub fits_later : (budget best drawn best' drawn' : ℕ) (v : BoardView) → best ≤ best' → drawn ≤ drawn' → Fits budget best drawn v → Fits budget best' drawn' v
fits_later budget best drawn best' drawn' v up on f = record {
  budget_is = f.budget_is;
  seen_below = omega (arith, up, f.seen_below);
  ended = λ e. (let at = f.ended e in omega (arith, at, on));
  idle = f.idle;
  small = f.small;
}

-- what a step owes that changes one view from v to w, and the words
pub record Puts (budget best drawn best' drawn' : ℕ) (v w : BoardView) : Type 0 where
  pub parts : parts_of w ≡ parts_of v
  pub best_is : best' ≡ max best (top_of w)
  pub top_up : top_of v ≤ top_of w
  pub best_small : best' < 2 ^ 62
  pub drawn_up : drawn ≤ drawn'
  pub once : (x : ℕ) → once_below x (min drawn' budget) + times_of x v ≡ once_below x (min drawn budget) + times_of x w
  pub seats : budget < drawn' → drawn' + done_of v ≤ drawn + done_of w
  pub spare : budget < drawn' → drawn' + ended_of v ≤ drawn + ended_of w
  pub fits : Fits budget best' drawn' w

bounded : (budget drawn drawn' : ℕ) (f : BoardView → ℕ) (views : List BoardView) (id : ℕ) (v w : BoardView) → get_elem? views id ≡ some v → (budget < drawn' → drawn' + f v ≤ drawn + f w) → drawn ≤ budget + total f views → drawn' ≤ budget + total f (set views id w)
bounded budget drawn drawn' f views id v w at owes was = by_le drawn' budget (λ small. omega (arith, small)) (λ large. (let o = owes large in omega (arith, o, was, total_set f views id v w at)))

pub put : (budget best drawn best' drawn' : ℕ) (views : List BoardView) (id : ℕ) (v w : BoardView) → get_elem? views id ≡ some v → Puts budget best drawn best' drawn' v w → Holds budget best drawn views → Holds budget best' drawn' (set views id w)
put budget best drawn best' drawn' views id v w at p h = record {
  parts = omega (arith, total_set parts_of views id v w at, p.parts, h.parts);
  best_is = omega (arith, most_set top_of views id v w at, most_at top_of views id v at, most_at top_of (set views id w) id w (at_here views id v w at), p.best_is, p.top_up, h.best_is);
  best_small = p.best_small;
  once = λ x. omega (arith, total_set (times_of x) views id v w at, p.once x, h.once x);
  seats = bounded budget drawn drawn' done_of views id v w at p.seats h.seats;
  spare = bounded budget drawn drawn' ended_of views id v w at p.spare h.spare;
  each = each_set (Fits budget best drawn) (Fits budget best' drawn') views id w (λ u f. fits_later budget best drawn best' drawn' u (let up = p.best_is in omega (arith, up)) p.drawn_up f) p.fits h.each;
}

-- the load of the best value
pub look_puts : (budget best drawn : ℕ) (views : List BoardView) (id : ℕ) (v : BoardView) → get_elem? views id ≡ some v → Holds budget best drawn views → Puts budget best drawn best drawn v (seeing (named best) v)
look_puts budget best drawn views id v at h =
    let f = h.each id v at in
    record {
      parts = refl;
      best_is = (let top_below = most_at top_of views id v at in let is = h.best_is in omega (arith, top_below, is));
      top_up = omega arith;
      best_small = h.best_small;
      drawn_up = omega arith;
      once = λ x. refl;
      seats = λ _. omega arith;
      spare = λ _. omega arith;
      fits = record { budget_is = f.budget_is; seen_below = (let r = rank_named best in omega (arith, r)); ended = f.ended; idle = f.idle; small = f.small };
    }

-- a value is offered
pub offer_puts : (budget best drawn : ℕ) (views : List BoardView) (id : ℕ) (v : BoardView) (value : ℤ) → get_elem? views id ≡ some v → 0 < parts_of v → IsSmall value → Holds budget best drawn views → Puts budget best drawn (max best (word_of value)) drawn v (offering value v)
offer_puts budget best drawn views id v value at some_part small h =
    let f = h.each id v at in
    let snoc = top_snoc v.offered value in
    let word = word_small value small in
    record {
      parts = refl;
      best_is = (let below = most_at top_of views id v at in let is = h.best_is in omega (arith, below, is, snoc));
      top_up = omega (arith, snoc);
      best_small = (let was = h.best_small in omega (arith, was, word));
      drawn_up = omega arith;
      once = λ x. refl;
      seats = λ _. omega arith;
      spare = λ _. omega arith;
      fits = record {
        budget_is = f.budget_is;
        seen_below = (let seen = f.seen_below in omega (arith, seen));
        ended = f.ended;
        idle = λ none. absurd (omega (arith, none, some_part));
        small = All-push IsSmall v.offered value f.small small;
      };
    }

-- the budget is read to be spent
pub end_puts : (budget best drawn drawn' : ℕ) (views : List BoardView) (id : ℕ) (v : BoardView) → get_elem? views id ≡ some v → budget ≤ drawn → drawn ≤ drawn' → (budget < drawn' → drawn' + done_of v ≤ drawn + 1) → (budget < drawn' → drawn' + ended_of v ≤ drawn + parts_of v) → Holds budget best drawn views → Puts budget best drawn best drawn' v (ending v)
end_puts budget best drawn drawn' views id v at spent later seats spare h =
    let f = h.each id v at in
    record {
      parts = refl;
      best_is = (let below = most_at top_of views id v at in let is = h.best_is in omega (arith, below, is));
      top_up = omega arith;
      best_small = h.best_small;
      drawn_up = later;
      once = λ x. (let same : min drawn' budget ≡ min drawn budget = omega (arith, spent, later) in ap (λ k. once_below x k + times_of x v) same);
      seats = seats;
      spare = spare;
      fits = record {
        budget_is = f.budget_is;
        seen_below = f.seen_below;
        ended = λ _. omega (arith, spent, later);
        idle = f.idle;
        small = f.small;
      };
    }

pub once_more : (x n : ℕ) → once_below x (n + 1) ≡ once_below x n + cond (eqb n x) 1 0
once_more x n = grind (arith, nat_tests)

-- a number below the budget is drawn
pub draw_puts : (budget best drawn : ℕ) (views : List BoardView) (id : ℕ) (v : BoardView) → get_elem? views id ≡ some v → 0 < parts_of v → drawn < budget → Holds budget best drawn views → Puts budget best drawn best (drawn + 1) v (drawing drawn v)
draw_puts budget best drawn views id v at some_part below h =
    let f = h.each id v at in
    record {
      parts = refl;
      best_is = (let under = most_at top_of views id v at in let is = h.best_is in omega (arith, under, is));
      top_up = omega arith;
      best_small = h.best_small;
      drawn_up = omega arith;
      once = λ x. (
          let one : min (drawn + 1) budget ≡ drawn + 1 = omega (arith, below) in
          let two : min drawn budget ≡ drawn = omega (arith, below) in
          let more = once_more x drawn in
          let times_more = times_append x v.drawn (drawn ∷ []) in
          let old = ap (once_below x) two in
          let new = ap (once_below x) one in
          omega (arith, more, times_more, old, new)
          );
      seats = λ large. absurd (omega (arith, below, large));
      spare = λ large. absurd (omega (arith, below, large));
      fits = record {
        budget_is = f.budget_is;
        seen_below = f.seen_below;
        ended = λ e. (let was = f.ended e in omega (arith, was));
        idle = λ none. absurd (omega (arith, none, some_part));
        small = f.small;
      };
    }

false_by : (b : Bool) → (b ≡ true → ⊥) → b ≡ false
false_by true never = absurd (never refl)
false_by false never = refl

-- what is left to show of a step once the words are written out
abbrev pub Goes : ℕ → ℕ → ℕ → (ℕ → ℕ) → Me (Unit {0}) BoardView → (ℕ → Me (Unit {0}) BoardView → Type 0) → State (Unit {0}) BoardView → List ℕ → Type 0
Goes budget id word f me then s ws = (w : BoardView) × (a : Act (Unit {0})) × Valid s.homes me.1 a × Kept budget record { words = slice_set ws word (f (slice_index ws word)); homes = homes_after s.homes me.1 a; views = slice_set s.views id w } × then (slice_index ws word) (w, carried_after me.1 a)

moment : (budget best drawn : ℕ) (views : List BoardView) (id : ℕ) (v w : BoardView) → get_elem? views id ≡ some v → w.budget ≡ budget → Holds budget best drawn (set views id w) → Moment w best drawn
moment budget best drawn views id v w at is h = (set views id w, id, at_here views id v w at, subst (λ b. Holds b best drawn (set views id w)) (sym is) h)

pub looks : (slots budget id : ℕ) (me : Me (Unit {0}) BoardView) (st : Step (Unit {0})) → 0 < parts_of me.0 → Allows (Kept budget) slots id me 0 (λ n. n) (Looked st me)
looks slots budget id me st some_part s kept len at below =
    let v = me.0 in
    let w = seeing (named kept.best) v in
    let f = kept.holds.each id v at in
    let now = put budget kept.best kept.drawn kept.best kept.drawn s.views id v w at (look_puts budget kept.best kept.drawn s.views id v at kept.holds) kept.holds in
    subst (Goes budget id 0 (λ n. n) me (Looked st me) s) (sym kept.words) (
      w,
      keeps,
      tt,
      record { best = kept.best; drawn = kept.drawn; words = refl; holds = now },
      (refl, refl, f.seen_below, (kept.drawn, moment budget kept.best kept.drawn s.views id v w at (f.budget_is some_part) now)),
    )

pub offers : (slots budget id : ℕ) (me : Me (Unit {0}) BoardView) (value : ℤ) (word : ℕ) (st : Step (Unit {0})) → 0 < parts_of me.0 → IsSmall value → word ≡ word_of value → st.first ≡ word → Allows (Kept budget) slots id me 0 (λ n. max n word) (Offered st me)
offers slots budget id me value word st some_part small is said s kept len at below =
    let v = me.0 in
    let w = offering value v in
    let now = put budget kept.best kept.drawn (max kept.best (word_of value)) kept.drawn s.views id v w at (offer_puts budget kept.best kept.drawn s.views id v value at some_part small kept.holds) kept.holds in
    let same : value ≡ value_of st.first = sym (ap value_of (said ∙ is) ∙ value_word value small) in
    subst (Goes budget id 0 (λ n. max n word) me (Offered st me) s) (sym kept.words) (
      w,
      keeps,
      tt,
      record { best = max kept.best (word_of value); drawn = kept.drawn; words = ap (λ k. max kept.best k ∷ kept.drawn ∷ []) is; holds = now },
      (ap (λ z. offering z v) same, refl),
    )

ended_part : (v : BoardView) → ended_of v ≤ parts_of v
ended_part v = grind arith

done_one : (v : BoardView) → done_of v ≤ 1
done_one v = grind arith

not_ended : (budget best drawn : ℕ) (v : BoardView) → Fits budget best drawn v → drawn < budget → v.ended ≡ false
not_ended budget best drawn v f less = false_by v.ended (λ marked. (let spent = f.ended marked in omega (arith, spent, less)))

done_none : (v : BoardView) → v.ended ≡ false → 0 < parts_of v → done_of v ≡ 0
done_none v unmarked some_part = grind (arith, nat_tests, unmarked, some_part)

ended_none : (v : BoardView) → v.ended ≡ false → ended_of v ≡ 0
ended_none v unmarked = ap (λ b. cond b v.parts 0) unmarked

wraps_not : (budget best drawn : ℕ) (views : List BoardView) → budget < 2 ^ 32 → Holds budget best drawn views → (drawn + 1) % 2 ^ 64 ≡ drawn + 1
wraps_not budget best drawn views small h =
    let few = total_le ended_of parts_of views ended_part in
    let spare = h.spare in
    let parts = h.parts in
    omega (arith, few, spare, parts, small)

pub counts : (slots budget id : ℕ) (me : Me (Unit {0}) BoardView) (st : Step (Unit {0})) → 0 < parts_of me.0 → Allows (Kept budget) slots id me 1 (λ n. n) (Counted st me)
counts slots budget id me st some_part s kept len at below =
    let v = me.0 in
    let f = kept.holds.each id v at in
    let is = f.budget_is some_part in
    subst (Goes budget id 1 (λ n. n) me (Counted st me) s) (sym kept.words) (by_le budget kept.drawn
    (λ spent. (
    let w = ending v in
    let now = put budget kept.best kept.drawn kept.best kept.drawn s.views id v w at (end_puts budget kept.best kept.drawn kept.drawn s.views id v at spent (omega arith) (λ _. omega (arith, done_one v)) (λ _. omega (arith, ended_part v)) kept.holds) kept.holds in (
      w,
      keeps,
      tt,
      record { best = kept.best; drawn = kept.drawn; words = refl; holds = now },
      ((λ (less : kept.drawn < v.budget). absurd (omega (arith, less, spent, is))), λ _. (refl, refl, (kept.best, kept.drawn, (omega (arith, spent, is)), moment budget kept.best kept.drawn s.views id v w at is now))),
    )
    ))
    (λ less. (
    let views_same : set s.views id v ≡ s.views = set_again s.views id v at in (
      v,
      keeps,
      tt,
      record { best = kept.best; drawn = kept.drawn; words = refl; holds = subst (Holds budget kept.best kept.drawn) (sym views_same) kept.holds },
      ((λ _. (refl, not_ended budget kept.best kept.drawn v f less)), λ (large : v.budget ≤ kept.drawn). absurd (omega (arith, large, less, is))),
    )
    )))

pub draws : (slots budget id : ℕ) (me : Me (Unit {0}) BoardView) (st : Step (Unit {0})) → 0 < parts_of me.0 → budget < 2 ^ 32 → me.0.ended ≡ false → Allows (Kept budget) slots id me 1 (λ n. (n + 1) % 2 ^ 64) (Drawn st me)
draws slots budget id me st some_part small unmarked s kept len at below =
    let v = me.0 in
    let f = kept.holds.each id v at in
    let is = f.budget_is some_part in
    let no_wrap : (kept.drawn + 1) % 2 ^ 64 ≡ kept.drawn + 1 = wraps_not budget kept.best kept.drawn s.views small kept.holds in
    let words : kept.best ∷ (kept.drawn + 1) % 2 ^ 64 ∷ [] ≡ kept.best ∷ (kept.drawn + 1) ∷ [] = ap (λ k. kept.best ∷ k ∷ []) no_wrap in
    subst (Goes budget id 1 (λ n. (n + 1) % 2 ^ 64) me (Drawn st me) s) (sym kept.words) (by_le budget kept.drawn
    (λ spent. (
    let w = ending v in
    let now = put budget kept.best kept.drawn kept.best (kept.drawn + 1) s.views id v w at (end_puts budget kept.best kept.drawn (kept.drawn + 1) s.views id v at spent (omega arith) (λ _. omega (arith, done_none v unmarked some_part)) (λ _. omega (arith, ended_none v unmarked, some_part)) kept.holds) kept.holds in (
      w,
      keeps,
      tt,
      record { best = kept.best; drawn = kept.drawn + 1; words = words; holds = now },
      ((λ (less : kept.drawn < v.budget). absurd (omega (arith, less, spent, is))), λ _. (refl, refl, (kept.best, kept.drawn + 1, (omega (arith, spent, is)), moment budget kept.best (kept.drawn + 1) s.views id v w at is now))),
    )
    ))
    (λ less. (
    let w = drawing kept.drawn v in
    let now = put budget kept.best kept.drawn kept.best (kept.drawn + 1) s.views id v w at (draw_puts budget kept.best kept.drawn s.views id v at some_part less kept.holds) kept.holds in (
      w,
      keeps,
      tt,
      record { best = kept.best; drawn = kept.drawn + 1; words = words; holds = now },
      ((λ _. (refl, refl)), λ (large : v.budget ≤ kept.drawn). absurd (omega (arith, large, less, is))),
    )
    )))
