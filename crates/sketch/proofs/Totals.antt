-- Sums over the members of parts are sums over all variables.
use Rattle.std.proofs.Common.{◌≡◌, ℕ, zero, suc, ◌+◌, ◌*◌, ◌<◌, ◌≤◌, inl, inr, List, [], ◌∷◌, ◌++◌, length, cond, refl, sym, ap, ◌∙◌, arith, eqb}
use Rattle.std.specs.Prelude.{ℤ, pos, ◌+ℤ◌}
use Rattle.std.specs.List.{sum_by, range_with_len}
use Rattle.std.specs.List.Sorted.{IsPermutation}
use Rattle.std.proofs.lemmas.Int.{ints}
use Rattle.std.proofs.lemmas.Bool.{cases_lt}
use Rattle.std.proofs.lemmas.List.Sums.{sum_by-cons}
use Rattle.std.proofs.lemmas.List.Sorted.{sum_by-IsPermutation}
use borrow.Author.Differences.{up, down}
use Rattle.lin_bound.specs.Sums.{sum_below, count_below, nat_at}
use Rattle.lin_bound.specs.Problem.{ProblemData, variables}
use Rattle.lin_bound.proofs.Sums.{sum-ext}
use Rattle.sketch.specs.Parts.{part_at, members_of, ArePartsOf}

-- a sum's first number, and then the others
pub sum-front : (f : ℕ → ℤ) (n : ℕ) → sum_below f (suc n) ≡ f 0 +ℤ sum_below (λ (i : ℕ). f (suc i)) n
sum-front f zero = omega (arith, ints)
sum-front f (suc n) = omega (arith, ints, sum-front f n)

-- the numbers at the members of a list, added up
abbrev pub total : (ℕ → ℤ) → List ℕ → ℤ
total f [] = pos 0
total f (x ∷ xs) = f x +ℤ total f xs

total-places : (f : ℕ → ℤ) (xs : List ℕ) → sum_below (λ (k : ℕ). f (nat_at xs k)) (length xs) ≡ total f xs
total-places f [] = refl
total-places f (x ∷ xs) =
    omega (arith, ints, sum-front (λ (k : ℕ). f (nat_at (x ∷ xs) k)) (length xs), total-places f xs)

total-append : (f : ℕ → ℤ) (xs ys : List ℕ) → total f (xs ++ ys) ≡ total f xs +ℤ total f ys
total-append f [] ys = omega (arith, ints)
total-append f (x ∷ xs) ys = omega (arith, ints, total-append f xs ys)

total-parts : (f : ℕ → ℤ) (parts : List (List ℕ)) → total f (members_of parts) ≡ sum_below (λ (g : ℕ). total f (part_at parts g)) (length parts)
total-parts f [] = refl
total-parts f (part ∷ parts) =
    omega (arith, ints, total-append f part (members_of parts), total-parts f parts, sum-front (λ (g : ℕ). total f (part_at (part ∷ parts) g)) (length parts))

total-sizes : (f : ℕ → ℤ) (xs : List ℕ) → up (total f xs) + sum_by (λ (i : ℕ). down (f i)) xs ≡ down (total f xs) + sum_by (λ (i : ℕ). up (f i)) xs
total-sizes f [] = omega (arith, ints)
total-sizes f (x ∷ xs) =
    omega (arith, ints, total-sizes f xs, sum_by-cons (λ (i : ℕ). down (f i)) x xs, sum_by-cons (λ (i : ℕ). up (f i)) x xs)

total-permutation : (f : ℕ → ℤ) (xs ys : List ℕ) → IsPermutation xs ys → total f xs ≡ total f ys
total-permutation f xs ys same =
    let ups = sum_by-IsPermutation (λ (i : ℕ). up (f i)) xs ys same in
    let downs = sum_by-IsPermutation (λ (i : ℕ). down (f i)) xs ys same in
    omega (arith, ints, total-sizes f xs, total-sizes f ys, ups, downs)

total-range : (f : ℕ → ℤ) (a n : ℕ) → total f (range_with_len a n) ≡ sum_below (λ (i : ℕ). f (a + i)) n
total-range f a zero = refl
total-range f a (suc n) =
    let first : f (a + 0) ≡ f a = ap f (omega arith) in
    let others : sum_below (λ (i : ℕ). f (a + 1 + i)) n ≡ sum_below (λ (i : ℕ). f (a + suc i)) n = sum-ext (λ (i : ℕ). f (a + 1 + i)) (λ (i : ℕ). f (a + suc i)) n (λ i h. ap f (omega arith)) in
    omega (arith, ints, first, others, total-range f (a + 1) n, sum-front (λ (i : ℕ). f (a + i)) n)

total-below : (f : ℕ → ℤ) (n : ℕ) → total f (range_with_len 0 n) ≡ sum_below f n
total-below f n =
    total-range f 0 n ∙ sum-ext (λ (i : ℕ). f (0 + i)) f n (λ i h. ap f (omega arith))

-- what is added up place by place over all members is added up over all variables
pub over_members : (f : ℕ → ℤ) (p : ProblemData) (parts : List (List ℕ)) → ArePartsOf p parts → sum_below (λ (a : ℕ). f (nat_at (members_of parts) a)) (length (members_of parts)) ≡ sum_below f (variables p)
over_members f p parts cut =
    total-places f (members_of parts) ∙ total-permutation f (members_of parts) (range_with_len 0 (variables p)) cut.once ∙ total-below f (variables p)

-- and so is what is added up part by part
pub over_parts : (f : ℕ → ℤ) (p : ProblemData) (parts : List (List ℕ)) → ArePartsOf p parts → sum_below (λ (g : ℕ). sum_below (λ (k : ℕ). f (nat_at (part_at parts g) k)) (length (part_at parts g))) (length parts) ≡ sum_below f (variables p)
over_parts f p parts cut =
    sum-ext (λ (g : ℕ). sum_below (λ (k : ℕ). f (nat_at (part_at parts g) k)) (length (part_at parts g))) (λ (g : ℕ). total f (part_at parts g)) (length parts) (λ g h. total-places f (part_at parts g))
    ∙ sym (total-parts f parts) ∙ total-permutation f (members_of parts) (range_with_len 0 (variables p)) cut.once ∙ total-below f (variables p)

-- ---- the same of sizes

count-pos : (f : ℕ → ℕ) (n : ℕ) → pos (count_below f n) ≡ sum_below (λ (i : ℕ). pos (f i)) n
count-pos f zero = refl
count-pos f (suc n) = omega (arith, ints, count-pos f n)

pub count_over_members : (f : ℕ → ℕ) (p : ProblemData) (parts : List (List ℕ)) → ArePartsOf p parts → count_below (λ (a : ℕ). f (nat_at (members_of parts) a)) (length (members_of parts)) ≡ count_below f (variables p)
count_over_members f p parts cut =
    let left = count-pos (λ (a : ℕ). f (nat_at (members_of parts) a)) (length (members_of parts)) in
    let right = count-pos f (variables p) in
    let same = over_members (λ (i : ℕ). pos (f i)) p parts cut in
    omega (arith, ints, left, right, same)

pub count_over_parts : (f : ℕ → ℕ) (p : ProblemData) (parts : List (List ℕ)) → ArePartsOf p parts → count_below (λ (g : ℕ). count_below (λ (k : ℕ). f (nat_at (part_at parts g) k)) (length (part_at parts g))) (length parts) ≡ count_below f (variables p)
count_over_parts f p parts cut =
    let of_part = λ (g : ℕ). count_below (λ (k : ℕ). f (nat_at (part_at parts g) k)) (length (part_at parts g)) in
    let left = count-pos of_part (length parts) in
    let each : sum_below (λ (g : ℕ). pos (of_part g)) (length parts) ≡ sum_below (λ (g : ℕ). sum_below (λ (k : ℕ). pos (f (nat_at (part_at parts g) k))) (length (part_at parts g))) (length parts) = sum-ext (λ (g : ℕ). pos (of_part g)) (λ (g : ℕ). sum_below (λ (k : ℕ). pos (f (nat_at (part_at parts g) k))) (length (part_at parts g))) (length parts) (λ g h. count-pos (λ (k : ℕ). f (nat_at (part_at parts g) k)) (length (part_at parts g))) in
    let right = count-pos f (variables p) in
    let same = over_parts (λ (i : ℕ). pos (f i)) p parts cut in
    omega (arith, ints, left, each, right, same)

-- ---- places

-- no place has more than the sum
pub count-place : (f : ℕ → ℕ) (n a : ℕ) → a < n → f a ≤ count_below f n
count-place f zero a h = absurd (omega (arith, h))
count-place f (suc n) a h =
    elim (cases_lt a n) [
      | inl lt ↦ omega (arith, count-place f n a lt)
      | inr le ↦
          let at : a ≡ n = omega arith in omega (arith, ap f at)
    ]

-- nor have two
pub count-two : (f : ℕ → ℕ) (n a b : ℕ) → a < b → b < n → f a + f b ≤ count_below f n
count-two f zero a b h l = absurd (omega (arith, l))
count-two f (suc n) a b h l =
    elim (cases_lt b n) [
      | inl lt ↦ omega (arith, count-two f n a b h lt)
      | inr le ↦
          let at : b ≡ n = omega arith in
          omega (arith, ap f at, count-place f n a (omega arith))
    ]

-- the same number at each place
pub count-same : (f : ℕ → ℕ) (u n : ℕ) → ((i : ℕ) → i < n → f i ≡ u) → count_below f n ≡ n * u
count-same f u zero same = omega arith
count-same f u (suc n) same =
    omega (arith, count-same f u n (λ i h. same i (omega arith)), same n (omega arith))

abbrev pub ones : ℕ → ℕ
ones i = 1

-- a number at one place, and 0 at the others
abbrev pub hit : ℕ → ℕ → ℕ → ℕ
hit most v i = cond (eqb i v) most 0
