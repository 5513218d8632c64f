-- The groups of points have each point once, and each has at most so many within the radius.
use Rattle.std.proofs.Common.{◌≡◌, ℕ, zero, suc, ◌+◌, ◌-◌, ◌*◌, ◌/◌, ◌%◌, ◌<◌, ◌≤◌, ◌⊎◌, inl, inr, min, List, [], ◌∷◌, ◌++◌, length, get_or, take, drop, map, All, Bool, true, false, not, cond, ◌&&◌, ℤ, pos, ◌+ℤ◌, ◌-ℤ◌, ◌≤ℤ◌, unsigned_abs, refl, sym, ap, ◌∙◌, arith, append-nil, length-append, length-drop}
use Rattle.std.specs.List.{filter, flat_map, list_all, range_with_len, AllZip}
use Rattle.std.specs.List.Sorted.{IsPermutation}
use Rattle.std.specs.Int.{div_ceil}
use Rattle.std.proofs.Math.Seq.{take-add}
use Rattle.std.proofs.lemmas.Bool.{and_parts, leb-true, cases_lt, cond_both}
use Rattle.std.proofs.lemmas.Bool.Decides.{Decides-int_eq}
use Rattle.std.proofs.lemmas.Int.{ints}
use Rattle.std.proofs.lemmas.List.{take_all, length-take, map-append, length-map}
use Rattle.std.proofs.lemmas.List.Concat.{flat_map-append}
use Rattle.std.proofs.lemmas.List.Elements.{All-nil, All-cons, All-head, All-tail, All-append, All-take, All-drop, All-map}
use Rattle.std.proofs.lemmas.List.FromFn.{length-range_with_len, get_or-range_with_len}
use Rattle.std.proofs.lemmas.List.Sorted.{IsPermutation-refl, IsPermutation-trans, IsPermutation-append, IsPermutation-filter_both}
use borrow.Author.Differences.{up, down, le-true, le_in}
use native.Mathlib.Nat.{le_of_mul-le-mul_right, mul-le-mul_right}
use Rattle.quadtree.specs.declared.group.Group.{Group}
use Rattle.quadtree.specs.Points.{Point, coordinate, column_sum, floored_mean, int_at, is_above, is_at, is_near, is_column_near, are_near, agree, are_equal, means}
use Rattle.quadtree.specs.Groups.{divided, group_of, groups_by, groups_of, groups_within, halves, has_points, is_group, parts, run_of, runs, tests_of}
use Rattle.quadtree.specs.Places.{joined}
use Rattle.quadtree.specs.Laws.{AreGrouped, IsGroupOf, IsWithin, PointsAreGrouped}
use Rattle.quadtree.proofs.Halving.{other, joined-halves}
use Rattle.quadtree.proofs.Lists.{means-at, range-more}
use Rattle.quadtree.proofs.Means.{div_euclid-parts}
use Rattle.quadtree.proofs.Shrinking.{parts-shorter}

-- what a test of all says of each
all-pass : {X : Type 0} (test : X → Bool) (xs : List X) → list_all test xs ≡ true → All (λ (x : X). test x ≡ true) xs
all-pass {X} test [] all = All-nil (λ (x : X). test x ≡ true)
all-pass {X} test (x ∷ xs) all =
    let both = and_parts (test x) (list_all test xs) all in
    All-cons (λ (y : X). test y ≡ true) x xs both.0 (all-pass test xs both.1)

pass-below : (test : ℕ → Bool) (n k : ℕ) → list_all test (range_with_len 0 n) ≡ true → k < n → test k ≡ true
pass-below test n k all within =
    let inside : k < length (range_with_len 0 n) = rw (length-range_with_len 0 n) within in
    let at : get_or (range_with_len 0 n) k 0 ≡ k = get_or-range_with_len 0 n k 0 within ∙ omega arith in
    sym (ap test at) ∙ all-pass test (range_with_len 0 n) all k 0 inside

-- ---- points that are parted are in another order

joined-append : (some more : List (List Point)) → joined (some ++ more) ≡ joined some ++ joined more
joined-append some more = flat_map-append (λ (list : List Point). list) some more

halved-once : (above : Point → Bool) (lists : List (List Point)) → IsPermutation (joined lists) (joined (flat_map (halves above) lists))
halved-once above [] = IsPermutation-refl []
halved-once above (list ∷ lists) =
    rw (joined-append (halves above list) (flat_map (halves above) lists), joined-halves above list)
    (IsPermutation-append list (filter (other above) list ++ filter above list) (joined lists) (joined (flat_map (halves above) lists)) (both list) (halved-once above lists))
  where
    turned : (b : Bool) → b ≡ not (not b)
    turned true = refl
    turned false = refl

    both : (points : List Point) → IsPermutation points (filter (other above) points ++ filter above points)
    both points = IsPermutation-filter_both (other above) above (λ (point : Point). turned (above point)) points

divided-once : (tests : List (Point → Bool)) (lists : List (List Point)) → IsPermutation (joined lists) (joined (divided tests lists))
divided-once [] lists = IsPermutation-refl (joined lists)
divided-once (above ∷ tests) lists =
    IsPermutation-trans (joined lists) (joined (flat_map (halves above) lists)) (joined (divided tests (flat_map (halves above) lists))) (halved-once above lists) (divided-once tests (flat_map (halves above) lists))

parts-once : (columns : ℕ) (points : List Point) → IsPermutation points (joined (parts columns points))
parts-once columns points =
    let once = divided-once (tests_of columns points) (points ∷ []) in
    rw (append-nil points) at once

-- ---- one group

near-each : (radius : List ℤ) (points : List Point) → are_near radius points ≡ true → All (IsWithin radius (means (length radius) points)) points
near-each radius points near = λ k d inside. λ column within.
    let all = pass-below (is_column_near radius points) (length radius) column near within in
    let one : is_near (floored_mean column points) (int_at radius column) column (get_or points k d) ≡ true = all-pass (is_near (floored_mean column points) (int_at radius column) column) points all k d inside in
    rw (means-at (length radius) points (means (length radius) points) column refl within)
    (omega (arith, ints, le-true (pos (unsigned_abs (coordinate column (get_or points k d) -ℤ floored_mean column points))) (int_at radius column) one))

grouped-one : (size : ℕ) (radius : List ℤ) (points : List Point) → is_group size radius points ≡ true → AreGrouped size radius points (group_of (means (length radius) points) points ∷ [])
grouped-one size radius points is =
    let both = and_parts _ _ is in
    record {
      lists = points ∷ [];
      each = (record { members = refl; few = leb-true (length points) size both.0; near = near-each radius points both.1 }, tt);
      once = rw (append-nil points) (IsPermutation-refl points);
    }

-- ---- points that agree

sum-of-equal : (m : ℤ) (column : ℕ) (points : List Point) → list_all (is_at m column) points ≡ true → up (column_sum column points) + down m * length points ≡ down (column_sum column points) + up m * length points
sum-of-equal m column [] all = omega (arith, ints)
sum-of-equal m column (point ∷ points) all =
    let both = and_parts (is_at m column point) (list_all (is_at m column) points) all in
    let here : coordinate column point ≡ m = (Decides-int_eq (coordinate column point) m).0 both.0 in
    let rest = sum-of-equal m column points both.1 in
    omega (arith, ints, here, rest)

cancel : (a b n : ℕ) → 0 < n → a * n < b * n + n → a ≤ b
cancel a b n some less = step (cases_lt b a)
  where
    step : (b < a) ⊎ (a ≤ b) → a ≤ b
    step (inl over) = absurd (omega (arith, less, mul-le-mul_right n over))
    step (inr fine) = fine

mean-of-equal : (m : ℤ) (column : ℕ) (points : List Point) → 0 < length points → list_all (is_at m column) points ≡ true → floored_mean column points ≡ m
mean-of-equal m column points some all =
    let q = floored_mean column points in
    let n = length points in
    let sum = sum-of-equal m column points all in
    let ends = div_euclid-parts (column_sum column points) (length points) some in
    let low : up q + down m ≤ down q + up m = cancel (up q + down m) (down q + up m) n some (omega (arith, sum, ends.0, some)) in
    let high : down q + up m ≤ up q + down m = cancel (down q + up m) (up q + down m) n some (omega (arith, sum, ends.1)) in
    omega (arith, ints, low, high)

equal-each : (radius : List ℤ) (points : List Point) → 0 < length points → All (λ (r : ℤ). pos 0 ≤ℤ r) radius → are_equal (length radius) points ≡ true → All (IsWithin radius (means (length radius) points)) points
equal-each radius points some positive same = λ k d inside. λ column within.
    let first = coordinate column (get_or points 0 (0, [])) in
    let all = pass-below (agree points) (length radius) column same within in
    let one : is_at first column (get_or points k d) ≡ true = all-pass (is_at first column) points all k d inside in
    let here : coordinate column (get_or points k d) ≡ first = (Decides-int_eq (coordinate column (get_or points k d)) first).0 one in
    let mean : int_at (means (length radius) points) column ≡ first = means-at (length radius) points (means (length radius) points) column refl within ∙ mean-of-equal first column points some all in
    let above : pos 0 ≤ℤ int_at radius column = positive column (pos 0) within in
    rw (mean, here) (omega (arith, ints, above))

zip-map : {X Y : Type 0} (P : Y → X → Type 0) (f : X → Y) (xs : List X) → All (λ (x : X). P (f x) x) xs → AllZip P (map f xs) xs
zip-map {X} {Y} P f [] all = tt
zip-map {X} {Y} P f (x ∷ xs) all = (All-head (λ (y : X). P (f y) y) x xs all, zip-map P f xs (All-tail (λ (y : X). P (f y) y) x xs all))

runs-joined : (size : ℕ) (points : List Point) (n : ℕ) → joined (map (run_of size points) (range_with_len 0 n)) ≡ take (n * size) points
runs-joined size points zero =
    let none : 0 ≡ 0 * size = omega arith in
    ap (λ (k : ℕ). take k points) none
runs-joined size points (suc n) =
    let next : suc n ≡ n + 1 = omega arith in
    let more : n * size + size ≡ suc n * size = omega arith in
    ap (λ (k : ℕ). joined (map (run_of size points) (range_with_len 0 k))) next
    ∙ ap (λ (xs : List ℕ). joined (map (run_of size points) xs)) (range-more n)
    ∙ ap joined (map-append (run_of size points) (range_with_len 0 n) (n ∷ []))
    ∙ joined-append (map (run_of size points) (range_with_len 0 n)) (run_of size points n ∷ [])
    ∙ ap (λ (xs : List Point). xs ++ joined (run_of size points n ∷ [])) (runs-joined size points n)
    ∙ ap (λ (xs : List Point). take (n * size) points ++ xs) (append-nil (run_of size points n))
    ∙ sym (take-add (n * size) size points)
    ∙ ap (λ (k : ℕ). take k points) more

enough-runs : (count size : ℕ) → 0 < size → count ≤ div_ceil count size * size
enough-runs count size some = step (count / size) (count % size) (omega (arith, some)) (omega (arith, some))
  where
    step : (q r : ℕ) → size * q + r ≡ count → r < size → count ≤ (q + min 1 r) * size
    step q zero sum small =
        let e : q + min 1 zero ≡ q = omega arith in
        rw e (omega (arith, sum))
    step q (suc r) sum small =
        let e : q + min 1 (suc r) ≡ q + 1 = omega arith in
        rw e (omega (arith, sum, small))

grouped-runs : (size : ℕ) (radius : List ℤ) (points : List Point) → 0 < length points → 0 < size → All (λ (r : ℤ). pos 0 ≤ℤ r) radius → are_equal (length radius) points ≡ true → AreGrouped size radius points (map (group_of (means (length radius) points)) (runs size points))
grouped-runs size radius points some many positive same =
    let rep = means (length radius) points in
    let near = equal-each radius points some positive same in
    let whole = runs-joined size points (div_ceil (length points) size) ∙ take_all (div_ceil (length points) size * size) points (enough-runs (length points) size many) in
    record {
      lists = runs size points;
      each = zip-map (IsGroupOf size radius) (group_of rep) (runs size points)
          (All-map (λ (run : List Point). IsGroupOf size radius (group_of rep run) run) (run_of size points) (range_with_len 0 (div_ceil (length points) size)) (λ k d inside. one rep near (get_or (range_with_len 0 (div_ceil (length points) size)) k d)));
      once = rw whole (IsPermutation-refl points);
    }
  where
    one : (rep : List ℤ) → All (IsWithin radius rep) points → (number : ℕ) → IsGroupOf size radius (group_of rep (run_of size points number)) (run_of size points number)
    one rep near number = record {
      members = refl;
      few = omega (arith, length-take size (drop (number * size) points));
      near = All-take (IsWithin radius rep) size (drop (number * size) points) (All-drop (IsWithin radius rep) (number * size) points near);
    }

-- ---- points that are divided

zip-append : {X Y : Type 0} (P : X → Y → Type 0) (xs more : List X) (ys others : List Y) → AllZip P xs ys → AllZip P more others → AllZip P (xs ++ more) (ys ++ others)
zip-append {X} {Y} P [] more [] others all rest = rest
zip-append {X} {Y} P [] more (y ∷ ys) others all rest = absurd all
zip-append {X} {Y} P (x ∷ xs) more [] others all rest = absurd all
zip-append {X} {Y} P (x ∷ xs) more (y ∷ ys) others all rest = (all.0, zip-append P xs more ys others all.1 rest)

grouped-lists : (size : ℕ) (radius : List ℤ) (f : List Point → List Group) (lists : List (List Point)) → All (λ (list : List Point). AreGrouped size radius list (f list)) lists → AreGrouped size radius (joined lists) (flat_map f lists)
grouped-lists size radius f [] all = record { lists = []; each = tt; once = IsPermutation-refl [] }
grouped-lists size radius f (list ∷ lists) all =
    let here = All-head (λ (one : List Point). AreGrouped size radius one (f one)) list lists all in
    let rest = grouped-lists size radius f lists (All-tail (λ (one : List Point). AreGrouped size radius one (f one)) list lists all) in
    record {
      lists = here.lists ++ rest.lists;
      each = zip-append (IsGroupOf size radius) (f list) (flat_map f lists) here.lists rest.lists here.each rest.each;
      once = rw (joined-append here.lists rest.lists) (IsPermutation-append list (joined here.lists) (joined lists) (joined rest.lists) here.once rest.once);
    }

grouped-parts : (size : ℕ) (radius : List ℤ) (points : List Point) (f : List Point → List Group) → All (λ (part : List Point). AreGrouped size radius part (f part)) (parts (length radius) points) → AreGrouped size radius points (flat_map f (parts (length radius) points))
grouped-parts size radius points f all =
    let joint = grouped-lists size radius f (parts (length radius) points) all in
    record {
      lists = joint.lists;
      each = joint.each;
      once = IsPermutation-trans points (joined (parts (length radius) points)) (joined joint.lists) (parts-once (length radius) points) joint.once;
    }

grouped-by : (size : ℕ) (radius : List ℤ) (points : List Point) (f : List Point → List Group) → 0 < length points → 0 < size → All (λ (r : ℤ). pos 0 ≤ℤ r) radius → ((part : List Point) → length part < length points → AreGrouped size radius part (f part)) → AreGrouped size radius points (groups_by f size radius points)
grouped-by size radius points f some many positive shorter =
    cond_both (is_group size radius points) (group_of (means (length radius) points) points ∷ []) _ (AreGrouped size radius points) (grouped-one size radius points) (λ _.
    cond_both (are_equal (length radius) points) (map (group_of (means (length radius) points)) (runs size points)) (flat_map f (parts (length radius) points)) (AreGrouped size radius points) (grouped-runs size radius points some many positive) (λ apart.
    grouped-parts size radius points f (λ k d inside. shorter (get_or (parts (length radius) points) k d) (parts-shorter (length radius) points apart k d inside))))

grouped-within : (rounds size : ℕ) (radius : List ℤ) (points : List Point) → 0 < size → All (λ (r : ℤ). pos 0 ≤ℤ r) radius → length points ≤ rounds → AreGrouped size radius points (groups_within rounds size radius points)
grouped-within zero size radius [] many positive short = record { lists = []; each = tt; once = IsPermutation-refl [] }
grouped-within zero size radius (point ∷ points) many positive short = absurd (omega (arith, short))
grouped-within (suc rounds) size radius [] many positive short = record { lists = []; each = tt; once = IsPermutation-refl [] }
grouped-within (suc rounds) size radius (point ∷ points) many positive short =
    grouped-by size radius (point ∷ points) (groups_within rounds size radius) (omega arith) many positive (λ part less. grouped-within rounds size radius part many positive (omega (arith, less, short)))

pub points-grouped : PointsAreGrouped
points-grouped size radius points many positive = grouped-within (length points) size radius points many positive (omega arith)
