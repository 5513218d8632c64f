-- How many distinct marks two lists have together.
use Rattle.std.proofs.Common.{◌≡◌, ℕ, suc, ◌+◌, ◌≤◌, Bool, true, false, cond, not, eqb, List, [], ◌∷◌, ◌++◌, length, refl, sym, ap, subst, ◌∙◌, arith, filter}
use Rattle.std.specs.Prelude.{◌&&◌, ◌||◌}
use Rattle.std.specs.List.{AllByRecursion}
use Rattle.std.specs.Str.{bytes_eq}
use borrow.Author.Tests.{eqb-true}
use Rattle.version_store.specs.Histories.{Mark, is_mark, is_marked, distinct}
use Rattle.version_store.proofs.Lists.{names_equal, tests_apart}
use Rattle.version_store.proofs.Marks.{Fresh, distinct_fresh, is_mark_self, marked_right, neither, or_wider}

-- ---- filters

pub filter_alike : {A : Type 0} (p q : A → Bool) (xs : List A) → AllByRecursion (λ (x : A). p x ≡ q x) xs → filter p xs ≡ filter q xs
filter_alike p q [] same = refl
filter_alike {A} p q (x ∷ xs) same = rw same.0 (ap (λ (rest : List A). cond (q x) (x ∷ rest) rest) (filter_alike p q xs same.1))

all_every : {A : Type 0} (P : A → Type 0) (xs : List A) → ((x : A) → P x) → AllByRecursion P xs
all_every P [] every = tt
all_every P (x ∷ xs) every = (every x, all_every P xs every)

filter_whole : {A : Type 0} (xs : List A) → filter (λ (x : A). true) xs ≡ xs
filter_whole [] = refl
filter_whole {A} (x ∷ xs) = ap (λ (rest : List A). x ∷ rest) (filter_whole xs)

-- ---- the same mark

abbrev a_mark : List ℕ → ℕ → ℕ → Mark
a_mark table id born = record { table = table; id = id; born = born }

parts_same : (one two : List ℕ) (id jd born later : ℕ) → one ≡ two → id ≡ jd → born ≡ later → a_mark one id born ≡ a_mark two jd later
parts_same one two id jd born later e f g = rw (e, f, g) refl

all_true : (a b c : Bool) → (a && (b && c)) ≡ true → (a ≡ true) × (b ≡ true) × (c ≡ true)
all_true true true true e = (refl, refl, refl)
all_true true true false e = absurd (cc)
all_true true false c e = absurd (cc)
all_true false b c e = absurd (cc)

pub mark_same : (one other : Mark) → is_mark one other ≡ true → one ≡ other
mark_same one other e =
    let parts = all_true (bytes_eq one.table other.table) (eqb one.id other.id) (eqb one.born other.born) e in
    parts_same one.table other.table one.id other.id one.born other.born (names_equal one.table other.table parts.0) (eqb-true one.id other.id parts.1) (eqb-true one.born other.born parts.2)

mark_turned : (one other : Mark) → is_mark one other ≡ false → is_mark other one ≡ false
mark_turned one other e = by_test (is_mark other one) refl
  where
    by_test : (b : Bool) → is_mark other one ≡ b → is_mark other one ≡ false
    by_test true is = absurd (tests_apart (is_mark one other) (subst (λ (mark : Mark). is_mark mark other ≡ true) (mark_same other one is) (is_mark_self other)) e)
    by_test false is = is

-- ---- the marks of a list that aren't in another

abbrev pub is_new : List Mark → Mark → Bool
is_new xs mark = not (is_marked mark xs)

-- one more mark that is there already, or is none of theirs, changes nothing
known_more : (x : Mark) (xs : List Mark) → is_marked x xs ≡ true → (y : Mark) → is_new (x ∷ xs) y ≡ is_new xs y
known_more x xs known y = by_test (is_mark y x) refl
  where
    by_test : (b : Bool) → is_mark y x ≡ b → not (b || is_marked y xs) ≡ not (is_marked y xs)
    by_test true is = let there : is_marked y xs ≡ true = subst (λ (mark : Mark). is_marked mark xs ≡ true) (sym (mark_same y x is)) known in rw there refl
    by_test false is = refl

none_of : (x : Mark) (xs ys : List Mark) → is_marked x ys ≡ false → AllByRecursion (λ (y : Mark). is_new (x ∷ xs) y ≡ is_new xs y) ys
none_of x xs [] away = tt
none_of x xs (y ∷ ys) away = by_test (is_mark x y) refl (none_of x xs ys)
  where
    by_test : (b : Bool) → is_mark x y ≡ b → (is_marked x ys ≡ false → AllByRecursion (λ (y : Mark). is_new (x ∷ xs) y ≡ is_new xs y) ys) → AllByRecursion (λ (y : Mark). is_new (x ∷ xs) y ≡ is_new xs y) (y ∷ ys)
    by_test true is rest = let given = rw is at away in absurd (cc)
    by_test false is rest = let turned = mark_turned x y is in (rw turned refl, rest (rw is at away))

-- one that is among them is one fewer
one_fewer : (x : Mark) (xs ys : List Mark) → Fresh ys → is_marked x xs ≡ false → is_marked x ys ≡ true → length (filter (is_new xs) ys) ≡ suc (length (filter (is_new (x ∷ xs)) ys))
one_fewer x xs [] fresh away among = absurd (cc)
one_fewer x xs (y ∷ ys) fresh away among = by_test (is_mark x y) refl (one_fewer x xs ys fresh.1 away)
  where
    by_rest : (b : Bool) → length (filter (is_new xs) ys) ≡ suc (length (filter (is_new (x ∷ xs)) ys)) → length (cond (not b) (y ∷ filter (is_new xs) ys) (filter (is_new xs) ys)) ≡ suc (length (cond (not b) (y ∷ filter (is_new (x ∷ xs)) ys) (filter (is_new (x ∷ xs)) ys)))
    by_rest true rest = rest
    by_rest false rest = ap suc rest

    by_test : (b : Bool) → is_mark x y ≡ b → (is_marked x ys ≡ true → length (filter (is_new xs) ys) ≡ suc (length (filter (is_new (x ∷ xs)) ys))) → length (filter (is_new xs) (y ∷ ys)) ≡ suc (length (filter (is_new (x ∷ xs)) (y ∷ ys)))
    by_test true is rest =
        let same : x ≡ y = mark_same x y is in
        let here : is_marked y xs ≡ false = subst (λ (mark : Mark). is_marked mark xs ≡ false) same away in
        let turned : is_mark y x ≡ true = subst (λ (mark : Mark). is_mark y mark ≡ true) (sym same) (is_mark_self y) in
        let later : is_marked x ys ≡ false = subst (λ (mark : Mark). is_marked mark ys ≡ false) (sym same) fresh.0 in
        rw (here, turned) (ap (λ (some : List Mark). suc (length some)) (sym (filter_alike (is_new (x ∷ xs)) (is_new xs) ys (none_of x xs ys later))))
    by_test false is rest =
        let turned = mark_turned x y is in
        rw turned (by_rest (is_marked y xs) (rest (rw is at among)))

marked_left : (mark : Mark) (xs ys : List Mark) → is_marked mark xs ≡ true → is_marked mark (xs ++ ys) ≡ true
marked_left mark [] ys e = absurd (cc)
marked_left mark (x ∷ xs) ys e = or_wider (is_mark mark x) (is_marked mark xs) (is_marked mark (xs ++ ys)) (marked_left mark xs ys) e

-- together they have those of the first, and those of the second that aren't in the first
pub distinct_both : (xs ys : List Mark) → Fresh ys → length (distinct (xs ++ ys)) ≡ length (distinct xs) + length (filter (is_new xs) ys)
distinct_both [] ys fresh =
    let whole : length (distinct ys) ≡ length ys = ap length (distinct_fresh ys fresh) in
    let all : length (filter (is_new []) ys) ≡ length ys = ap length (filter_whole ys) in
    omega (arith, whole, all)
distinct_both (x ∷ xs) ys fresh = by_tests (is_marked x xs) (is_marked x ys) refl refl (distinct_both xs ys fresh)
  where
    by_tests : (one other : Bool) → is_marked x xs ≡ one → is_marked x ys ≡ other → length (distinct (xs ++ ys)) ≡ length (distinct xs) + length (filter (is_new xs) ys) → length (distinct ((x ∷ xs) ++ ys)) ≡ length (distinct (x ∷ xs)) + length (filter (is_new (x ∷ xs)) ys)
    by_tests true other first second rest =
        let same = filter_alike (is_new (x ∷ xs)) (is_new xs) ys (all_every (λ (y : Mark). is_new (x ∷ xs) y ≡ is_new xs y) ys (known_more x xs first)) in
        rw (marked_left x xs ys first, first) (rest ∙ ap (λ (some : List Mark). length (distinct xs) + length some) (sym same))
    by_tests false true first second rest =
        let fewer = one_fewer x xs ys fresh first second in
        rw (marked_right x xs ys second, first) (let due : length (distinct (xs ++ ys)) ≡ suc (length (distinct xs)) + length (filter (is_new (x ∷ xs)) ys) = omega (arith, fewer, rest) in due)
    by_tests false false first second rest =
        let same = ap length (filter_alike (is_new (x ∷ xs)) (is_new xs) ys (none_of x xs ys second)) in
        rw (neither x xs ys first second, first) (let due : suc (length (distinct (xs ++ ys))) ≡ suc (length (distinct xs)) + length (filter (is_new (x ∷ xs)) ys) = omega (arith, same, rest) in due)

-- the second list alone has no more
pub distinct_most : (xs ys : List Mark) → length (distinct ys) ≤ length (distinct (xs ++ ys))
distinct_most [] ys = omega arith
distinct_most (x ∷ xs) ys = by_test (is_marked x (xs ++ ys)) (distinct_most xs ys)
  where
    by_test : (b : Bool) → length (distinct ys) ≤ length (distinct (xs ++ ys)) → length (distinct ys) ≤ length (cond b (distinct (xs ++ ys)) (x ∷ distinct (xs ++ ys)))
    by_test true rest = rest
    by_test false rest = omega (arith, rest)
