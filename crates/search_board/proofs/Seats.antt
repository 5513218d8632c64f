-- Cutting a seat in two and joining two seats keep the rule.
use Rattle.std.proofs.Common.{true≢false, ◌≡◌, ◌≢◌, ℕ, ◌+◌, ◌<◌, ◌≤◌, Bool, true, false, ◌||◌, List, [], ◌∷◌, ◌++◌, set, sym, refl, ◌∙◌, subst, ⊎_elim, arith}
use Rattle.std.proofs.lemmas.Bool.Decides.{nat_tests}
use Rattle.std.specs.Prelude.{ℤ, Option}
use Rattle.std.proofs.lemmas.List.Elements.{All-append, All-nil}
use mathlib.Core.Option.{some}
use lib.ListN.{get_elem?}
use Rattle.atomic_table.specs.Table.{Splits, Joins}
use Rattle.atomic_table.proofs.Lists.{at_set, at_snoc, set_else}
use Rattle.search_board.specs.Values.{IsSmall, rank}
use Rattle.search_board.specs.Views.{without_one, with_one, joined, spent, better}
use Rattle.search_board.specs.Rule.{Fits, Holds, Kept, parts_of, top_of, times_of, done_of, ended_of}
use Rattle.search_board.specs.declared.view.BoardView.{BoardView}
use Rattle.search_board.proofs.Sums.{total_set, total_snoc, most_set, most_snoc, most_at, at_here, times_append}
use Rattle.search_board.proofs.Values.{top_append}

done_left : (v : BoardView) → 2 ≤ parts_of v → done_of (without_one v) ≡ done_of v
done_left v two = grind (arith, nat_tests, two)

ended_halves : (v : BoardView) → 2 ≤ parts_of v → ended_of (without_one v) + ended_of (with_one v) ≡ ended_of v
ended_halves v two = grind (arith, two)

split_holds : (budget best drawn : ℕ) (views : List BoardView) (id : ℕ) (v : BoardView) → get_elem? views id ≡ some v → 2 ≤ parts_of v → Holds budget best drawn views → Holds budget best drawn (set views id (without_one v) ++ with_one v ∷ [])
split_holds budget best drawn views id v at two h =
    let left = without_one v in
    let right = with_one v in
    let half = set views id left in
    let f = h.each id v at in
    record {
      parts = (
          let a = total_set parts_of views id v left at in
          let b = total_snoc parts_of half right in
          let all = h.parts in
          let one : parts_of left + 1 ≡ parts_of v = omega (arith, two) in
          omega (arith, a, b, all, one)
          );
      best_is = (
          let a = most_set top_of views id v left at in
          let b = most_snoc top_of half right in
          let c = most_at top_of views id v at in
          let d = most_at top_of half id left (at_here views id v left at) in
          let is = h.best_is in
          omega (arith, a, b, c, d, is)
          );
      best_small = h.best_small;
      once = λ x. (
          let a = total_set (times_of x) views id v left at in
          let b = total_snoc (times_of x) half right in
          let is = h.once x in
          omega (arith, a, b, is)
          );
      seats = (
          let a = total_set done_of views id v left at in
          let b = total_snoc done_of half right in
          let c = done_left v two in
          let was = h.seats in
          omega (arith, a, b, c, was)
          );
      spare = (
          let a = total_set ended_of views id v left at in
          let b = total_snoc ended_of half right in
          let c = ended_halves v two in
          let was = h.spare in
          omega (arith, a, b, c, was)
          );
      each = λ j u there. ⊎_elim
          (λ old. ⊎_elim
          (λ (x : (j ≡ id) × (left ≡ u)). subst (Fits budget best drawn) x.1 record {
            budget_is = λ some_part. f.budget_is (omega (arith, two));
            seen_below = f.seen_below;
            ended = f.ended;
            idle = λ none. absurd (omega (arith, none, two));
            small = f.small;
          })
          (λ (x : (j ≢ id) × (get_elem? views j ≡ some u)). h.each j u x.1)
          (at_set views id j left u old))
          (λ (is : right ≡ u). subst (Fits budget best drawn) is record {
            budget_is = λ some_part. f.budget_is (omega (arith, two));
            seen_below = f.seen_below;
            ended = f.ended;
            idle = λ none. (refl, refl);
            small = All-nil IsSmall;
          })
          (at_snoc half right u j there);
    }

pub splits : (budget id : ℕ) (v : BoardView) → 2 ≤ parts_of v → Splits (Kept budget) id v (without_one v) (with_one v)
splits budget id v two s kept at = record { best = kept.best; drawn = kept.drawn; words = kept.words; holds = split_holds budget kept.best kept.drawn s.views id v at two kept.holds }

done_joined : (v w : BoardView) → 0 < parts_of v → done_of v + done_of w ≤ done_of (joined v w) + done_of spent
done_joined v w some_part = grind (arith, nat_tests, some_part)

ended_joined : (v w : BoardView) → ended_of v + ended_of w ≤ ended_of (joined v w) + ended_of spent
ended_joined v w = grind arith

better_below : (a b : Option ℤ) (best : ℕ) → rank a ≤ best → rank b ≤ best → rank (better a b) ≤ best
better_below a b best x y = grind (arith, x, y)

either_ended : (a b : Bool) (X : Type 0) → (a ≡ true → X) → (b ≡ true → X) → (a || b) ≡ true → X
either_ended true b X one two is = one refl
either_ended false b X one two is = two is

join_holds : (budget best drawn : ℕ) (views : List BoardView) (id : ℕ) (v : BoardView) (other : ℕ) (w : BoardView) → get_elem? views id ≡ some v → other ≢ id → get_elem? views other ≡ some w → 0 < parts_of v → Holds budget best drawn views → get_elem? (set views id (joined v w)) other ≡ some w → Holds budget best drawn (set (set views id (joined v w)) other spent)
join_holds budget best drawn views id v other w at apart at' some_part h there =
    let both = joined v w in
    let mid = set views id both in
    let last = set mid other spent in
    let f = h.each id v at in
    let g = h.each other w at' in
    record {
      parts = (
          let a = total_set parts_of views id v both at in
          let b = total_set parts_of mid other w spent there in
          let all = h.parts in
          omega (arith, a, b, all)
          );
      best_is = (
          let a = most_set top_of views id v both at in
          let b = most_set top_of mid other w spent there in
          let c = most_at top_of views id v at in
          let d = most_at top_of views other w at' in
          let e = most_at top_of mid id both (at_here views id v both at) in
          let i = most_at top_of last id both (set_else mid other id spent (λ same. apart (sym same)) ∙ at_here views id v both at) in
          let t = top_append v.offered w.offered in
          let is = h.best_is in
          omega (arith, a, b, c, d, e, i, t, is)
          );
      best_small = h.best_small;
      once = λ x. (
          let a = total_set (times_of x) views id v both at in
          let b = total_set (times_of x) mid other w spent there in
          let t = times_append x v.drawn w.drawn in
          let is = h.once x in
          omega (arith, a, b, t, is)
          );
      seats = (
          let a = total_set done_of views id v both at in
          let b = total_set done_of mid other w spent there in
          let c = done_joined v w some_part in
          let was = h.seats in
          omega (arith, a, b, c, was)
          );
      spare = (
          let a = total_set ended_of views id v both at in
          let b = total_set ended_of mid other w spent there in
          let c = ended_joined v w in
          let was = h.spare in
          omega (arith, a, b, c, was)
          );
      each = λ j u last_at. ⊎_elim
          (λ (x : (j ≡ other) × (spent ≡ u)). subst (Fits budget best drawn) x.1 record {
            budget_is = λ part. absurd (omega (arith, part));
            seen_below = omega arith;
            ended = λ marked. absurd (true≢false (sym marked));
            idle = λ none. (refl, refl);
            small = All-nil IsSmall;
          })
          (λ (x : (j ≢ other) × (get_elem? mid j ≡ some u)). ⊎_elim
          (λ (y : (j ≡ id) × (both ≡ u)). subst (Fits budget best drawn) y.1 record {
            budget_is = λ part. f.budget_is some_part;
            seen_below = better_below v.seen w.seen best f.seen_below g.seen_below;
            ended = either_ended v.ended w.ended (budget ≤ drawn) f.ended g.ended;
            idle = λ none. absurd (omega (arith, none, some_part));
            small = All-append IsSmall v.offered w.offered f.small g.small;
          })
          (λ (y : (j ≢ id) × (get_elem? views j ≡ some u)). h.each j u y.1)
          (at_set views id j both u x.1))
          (at_set mid other j spent u last_at);
    }

pub joins : (budget id : ℕ) (v : BoardView) (other : ℕ) (w : BoardView) → 0 < parts_of v → Joins (Kept budget) id v other w (joined v w) spent
joins budget id v other w some_part s kept at apart there =
    let was = ⊎_elim (λ (x : (other ≡ id) × (joined v w ≡ w)). absurd (apart x.0)) (λ (x : (other ≢ id) × (get_elem? s.views other ≡ some w)). x.1) (at_set s.views id other (joined v w) w there) in
    record { best = kept.best; drawn = kept.drawn; words = kept.words; holds = join_holds budget kept.best kept.drawn s.views id v other w at apart was some_part kept.holds there }
