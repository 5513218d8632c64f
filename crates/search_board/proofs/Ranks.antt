-- The laws of ranks and of draws.
use Rattle.std.proofs.Common.{◌≡◌, ◌≢◌, ℕ, zero, suc, ◌+◌, ◌<◌, ◌≤◌, cond, Bool, eqb, List, [], ◌∷◌, length, get_or, eq-eqb, ne_eqb, refl, ap, ◌∙◌, arith}
use Rattle.std.proofs.lemmas.Int.{ints}
use Rattle.std.proofs.lemmas.Bool.Decides.{nat_tests}
use Rattle.std.specs.Prelude.{ℤ, All, Contains, Some}
use mathlib.Core.Logic.{dite}
use native.Mathlib.Decide.{ℕ_discrete}
use Rattle.search_board.specs.Values.{IsSmall, word_of, rank, top}
use Rattle.search_board.specs.Rule.{times, once_below, most, top_of}
use Rattle.search_board.specs.declared.view.BoardView.{BoardView}
use Rattle.search_board.proofs.Sums.{most_at, Each}
use Rattle.search_board.proofs.Steps.{by_le, once_more}
use Rattle.search_board.specs.Laws.{RanksFollow, TopIsBest, DrawsFit, NoneIsNoOffer}

pub ranks_follow : RanksFollow
ranks_follow a b small_a small_b = (omega (arith, ints, small_a), ((λ le. omega (arith, ints, small_a, small_b, le)), (λ le. omega (arith, ints, small_a, small_b, le))))

top_one : (x : ℤ) (xs : List ℤ) → (value : ℤ) × Contains (x ∷ xs) value × (top (x ∷ xs) ≡ rank (Some value))
top_one x [] = (x, (0, omega arith, refl), omega arith)
top_one x (y ∷ ys) =
    let rest = top_one y ys in
    by_le (top (y ∷ ys)) (word_of x)
    (λ first. (x, (0, omega arith, refl), omega (arith, first)))
    (λ later. (rest.0, (suc rest.1.0, (let at = rest.1.1 in omega (arith, at)), rest.1.2), (let is = rest.2 in omega (arith, later, is))))

top_above : (values : List ℤ) (k : ℕ) (d : ℤ) → k < length values → rank (Some (get_or values k d)) ≤ top values
top_above [] k d at = absurd (omega (arith, at))
top_above (x ∷ xs) zero d at = omega arith
top_above (x ∷ xs) (suc k) d at = (let rest = top_above xs k d (omega (arith, at)) in omega (arith, rest))

pub top_best : TopIsBest
top_best [] some_value = absurd (some_value refl)
top_best (x ∷ xs) some_value = (top_one x xs, top_above (x ∷ xs))

abbrev counted : Bool → ℕ
counted b = cond b 1 0

abbrev hit : ℕ → ℕ → ℕ
hit a b = cond (eqb a b) 1 0

by_eq : {X : Type 0} → (a b : ℕ) → (a ≡ b → X) → (a ≢ b → X) → X
by_eq a b same other = dite (ℕ_discrete a b) same other

none_drawn : (xs : List ℕ) → ((x : ℕ) → times x xs ≡ once_below x 0) → length xs ≡ 0
none_drawn [] all = refl
none_drawn (y ∷ ys) all =
    let here = all y in
    let one : hit y y ≡ 1 = ap (λ b. counted b) (eq-eqb y y refl) in
    let zero_of : once_below y 0 ≡ 0 = grind (arith, nat_tests) in
    absurd (omega (arith, here, one, zero_of))

taken_out : (x : ℕ) (xs : List ℕ) → 0 < times x xs → (ys : List ℕ) × (length xs ≡ length ys + 1) × ((y : ℕ) → times y xs ≡ times y ys + hit x y)
taken_out x [] some_one = absurd (omega (arith, some_one))
taken_out x (z ∷ zs) some_one = by_eq z x
    (λ same. (zs, omega arith, λ y. (let is : hit z y ≡ hit x y = ap (λ (k : ℕ). hit k y) same in omega (arith, is))))
    (λ other. (
    let none_here : hit z x ≡ 0 = ap (λ b. counted b) (ne_eqb z x other) in
    let rest = taken_out x zs (omega (arith, some_one, none_here)) in
    (z ∷ rest.0, (let long = rest.1 in omega (arith, long)), λ y. (let is = rest.2 y in omega (arith, is)))
    ))

length_drawn : (n : ℕ) (xs : List ℕ) → ((x : ℕ) → times x xs ≡ once_below x n) → length xs ≡ n
length_drawn zero xs all = none_drawn xs all
length_drawn (suc n) xs all =
    let here = all n in
    let last : once_below n (n + 1) ≡ 1 = grind (arith, nat_tests) in
    let is_suc : once_below n (suc n) ≡ once_below n (n + 1) = ap (once_below n) (omega arith) in
    let out = taken_out n xs (omega (arith, here, last, is_suc)) in
    let rest = length_drawn n out.0 (λ x. (
    let was = all x in
    let more = once_more x n in
    let is : once_below x (suc n) ≡ once_below x (n + 1) = ap (once_below x) (omega arith) in
    let parts = out.2 x in
    omega (arith, was, more, is, parts)
    )) in
    let long = out.1 in
    omega (arith, long, rest)

pub draws_fit : DrawsFit
draws_fit budget drawn all = (let is = length_drawn all.0 drawn all.2 in let most = all.1 in omega (arith, is, most))

no_offers : (values : List ℤ) → All IsSmall values → top values ≡ 0 → values ≡ []
no_offers [] small none = refl
no_offers (x ∷ xs) small none =
    let x_small : IsSmall x = small 0 x (omega arith) in
    let some_rank : 0 < word_of x = omega (arith, ints, x_small) in
    absurd (omega (arith, none, some_rank))

most_none : (views : List BoardView) → Each (λ v. v.offered ≡ []) views → most top_of views ≡ 0
most_none [] none = refl
most_none (v ∷ views) none =
    let here : top_of v ≡ 0 = ap top (none 0 v refl) in
    let others = most_none views (λ id u at. none (suc id) u at) in
    omega (arith, here, others)

pub none_offered : NoneIsNoOffer
none_offered budget best drawn views h = (
  (λ none id v at. no_offers v.offered ((h.each id v at).small) (let below = most_at top_of views id v at in let is = h.best_is in omega (arith, below, is, none))),
  λ none. h.best_is ∙ most_none views none,
)
