-- Sums and greatest numbers over all seats, after one of them has changed, one was added, or one has all parts.
use Rattle.std.proofs.Common.{◌≡◌, ℕ, zero, suc, ◌+◌, ◌≤◌, ◌≢◌, max, List, [], ◌∷◌, ◌++◌, set, sym, refl, ap, ⊎_elim, subst, arith}
use mathlib.Core.Option.{some, some-injective, some-ne-none}
use lib.ListN.{get_elem?}
use Rattle.atomic_table.proofs.Lists.{at_set}
use Rattle.search_board.specs.Rule.{total, most, times, parts_of}
use Rattle.search_board.specs.declared.view.BoardView.{BoardView}

pub total_set : (f : BoardView → ℕ) (views : List BoardView) (id : ℕ) (v w : BoardView) → get_elem? views id ≡ some v → total f (set views id w) + f v ≡ total f views + f w
total_set f [] id v w at = absurd (some-ne-none v (sym at))
total_set f (x ∷ xs) zero v w at = let same = ap f (some-injective x v at) in omega (arith, same)
total_set f (x ∷ xs) (suc id) v w at = omega (arith, total_set f xs id v w at)

pub most_set : (f : BoardView → ℕ) (views : List BoardView) (id : ℕ) (v w : BoardView) → get_elem? views id ≡ some v → max (most f (set views id w)) (f v) ≡ max (most f views) (f w)
most_set f [] id v w at = absurd (some-ne-none v (sym at))
most_set f (x ∷ xs) zero v w at = let same = ap f (some-injective x v at) in omega (arith, same)
most_set f (x ∷ xs) (suc id) v w at = omega (arith, most_set f xs id v w at)

pub total_at : (f : BoardView → ℕ) (views : List BoardView) (id : ℕ) (v : BoardView) → get_elem? views id ≡ some v → f v ≤ total f views
total_at f [] id v at = absurd (some-ne-none v (sym at))
total_at f (x ∷ xs) zero v at = let same = ap f (some-injective x v at) in omega (arith, same)
total_at f (x ∷ xs) (suc id) v at = omega (arith, total_at f xs id v at)

pub most_at : (f : BoardView → ℕ) (views : List BoardView) (id : ℕ) (v : BoardView) → get_elem? views id ≡ some v → f v ≤ most f views
most_at f [] id v at = absurd (some-ne-none v (sym at))
most_at f (x ∷ xs) zero v at = let same = ap f (some-injective x v at) in omega (arith, same)
most_at f (x ∷ xs) (suc id) v at = omega (arith, most_at f xs id v at)

pub at_here : (views : List BoardView) (id : ℕ) (v w : BoardView) → get_elem? views id ≡ some v → get_elem? (set views id w) id ≡ some w
at_here [] id v w at = absurd (some-ne-none v (sym at))
at_here (x ∷ xs) zero v w at = refl
at_here (x ∷ xs) (suc id) v w at = at_here xs id v w at

pub total_snoc : (f : BoardView → ℕ) (views : List BoardView) (w : BoardView) → total f (views ++ w ∷ []) ≡ total f views + f w
total_snoc f [] w = omega arith
total_snoc f (x ∷ xs) w = omega (arith, total_snoc f xs w)

pub most_snoc : (f : BoardView → ℕ) (views : List BoardView) (w : BoardView) → most f (views ++ w ∷ []) ≡ max (most f views) (f w)
most_snoc f [] w = omega arith
most_snoc f (x ∷ xs) w = omega (arith, most_snoc f xs w)

pub total_le : (f g : BoardView → ℕ) (views : List BoardView) → ((v : BoardView) → f v ≤ g v) → total f views ≤ total g views
total_le f g [] le = omega arith
total_le f g (x ∷ xs) le = omega (arith, le x, total_le f g xs le)

pub times_append : (x : ℕ) (ys zs : List ℕ) → times x (ys ++ zs) ≡ times x ys + times x zs
times_append x [] zs = omega arith
times_append x (y ∷ ys) zs = omega (arith, times_append x ys zs)

-- each view in the list has the property
abbrev pub Each : (BoardView → Type 0) → List BoardView → Type 0
Each P views = (id : ℕ) (v : BoardView) → get_elem? views id ≡ some v → P v

each_rest : (P : BoardView → Type 0) (x : BoardView) (xs : List BoardView) → Each P (x ∷ xs) → Each P xs
each_rest P x xs each = λ id v at. each (suc id) v at

-- a number that is 0 for each seat without parts
abbrev pub IsIdle : (BoardView → ℕ) → BoardView → Type 0
IsIdle f v = parts_of v ≡ 0 → f v ≡ 0

none_total : (f : BoardView → ℕ) (views : List BoardView) → Each (IsIdle f) views → total parts_of views ≡ 0 → total f views ≡ 0
none_total f [] idle none = refl
none_total f (x ∷ xs) idle none =
    let here = idle 0 x refl (omega (arith, none)) in
    let others = none_total f xs (each_rest (IsIdle f) x xs idle) (omega (arith, none)) in
    omega (arith, here, others)

none_most : (f : BoardView → ℕ) (views : List BoardView) → Each (IsIdle f) views → total parts_of views ≡ 0 → most f views ≡ 0
none_most f [] idle none = refl
none_most f (x ∷ xs) idle none =
    let here = idle 0 x refl (omega (arith, none)) in
    let others = none_most f xs (each_rest (IsIdle f) x xs idle) (omega (arith, none)) in
    omega (arith, here, others)

-- where one seat has all parts, its number is that of all
pub alone_total : (f : BoardView → ℕ) (views : List BoardView) (id : ℕ) (v : BoardView) → get_elem? views id ≡ some v → Each (IsIdle f) views → total parts_of views ≡ parts_of v → total f views ≡ f v
alone_total f [] id v at idle all = absurd (some-ne-none v (sym at))
alone_total f (x ∷ xs) zero v at idle all =
    let is = some-injective x v at in
    let same = ap f is in
    let parts = ap parts_of is in
    let others = none_total f xs (each_rest (IsIdle f) x xs idle) (omega (arith, all, parts)) in
    omega (arith, same, others)
alone_total f (x ∷ xs) (suc id) v at idle all =
    let part = total_at parts_of xs id v at in
    let here = idle 0 x refl (omega (arith, part, all)) in
    let others = alone_total f xs id v at (each_rest (IsIdle f) x xs idle) (omega (arith, part, all)) in
    omega (arith, here, others)

pub alone_most : (f : BoardView → ℕ) (views : List BoardView) (id : ℕ) (v : BoardView) → get_elem? views id ≡ some v → Each (IsIdle f) views → total parts_of views ≡ parts_of v → most f views ≡ f v
alone_most f [] id v at idle all = absurd (some-ne-none v (sym at))
alone_most f (x ∷ xs) zero v at idle all =
    let is = some-injective x v at in
    let same = ap f is in
    let parts = ap parts_of is in
    let others = none_most f xs (each_rest (IsIdle f) x xs idle) (omega (arith, all, parts)) in
    omega (arith, same, others)
alone_most f (x ∷ xs) (suc id) v at idle all =
    let part = total_at parts_of xs id v at in
    let here = idle 0 x refl (omega (arith, part, all)) in
    let others = alone_most f xs id v at (each_rest (IsIdle f) x xs idle) (omega (arith, part, all)) in
    omega (arith, here, others)

-- a property of each view, after one has changed
pub each_set : (P Q : BoardView → Type 0) (views : List BoardView) (id : ℕ) (w : BoardView) → ((v : BoardView) → P v → Q v) → Q w → Each P views → Each Q (set views id w)
each_set P Q views id w grows new each = λ j u at. ⊎_elim (λ (x : (j ≡ id) × (w ≡ u)). subst Q x.1 new) (λ (x : (j ≢ id) × (get_elem? views j ≡ some u)). grows u (each j u x.1)) (at_set views id j w u at)
