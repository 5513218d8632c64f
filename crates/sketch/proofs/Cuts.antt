-- Parts of all variables: no variable is in two places, and each part is a part.
use Rattle.std.proofs.Common.{◌≡◌, ◌≢◌, ℕ, zero, suc, ◌+◌, ◌<◌, ◌≤◌, ◌⊎◌, inl, inr, List, [], length, get_or, take, All, refl, sym, ap, ◌∙◌, arith}
use Rattle.std.specs.List.{range_with_len}
use Rattle.std.proofs.lemmas.Bool.{cases_lt}
use Rattle.std.proofs.lemmas.Bool.Decides.{nat_tests}
use Rattle.std.proofs.lemmas.List.{length-take-le, take-take, get_or-take}
use Rattle.std.proofs.lemmas.List.Concat.{get_or-flat_map}
use Rattle.std.proofs.lemmas.List.Folds.{length-flat_map-take}
use Rattle.std.proofs.lemmas.List.FromFn.{length-range_with_len, get_or-range_with_len}
use Rattle.std.proofs.lemmas.List.Sorted.{All-permutation, IsPermutation-sym}
use Rattle.lin_bound.specs.Sums.{count_below, nat_at}
use Rattle.lin_bound.specs.Problem.{ProblemData, variables}
use Rattle.lin_bound.proofs.Sums.{count-le, count-swap, count-zero}
use Rattle.sketch.specs.Parts.{part_at, members_of, ArePartsOf, IsPartOf}
use Rattle.sketch.proofs.Totals.{hit, ones, count-place, count-two, count-same, count_over_members, count_over_parts}

hit-same : (most v i : ℕ) → i ≡ v → hit most v i ≡ most
hit-same most v i e = grind (arith, nat_tests)

hit-other : (most v i : ℕ) → i ≢ v → hit most v i ≡ 0
hit-other most v i e = grind (arith, nat_tests)

same_or_not : (a b : ℕ) → (a ≡ b) ⊎ (a ≢ b)
same_or_not a b =
    elim (cases_lt a b) [
      | inl lt ↦ inr (λ e. omega (arith, e, lt))
      | inr le ↦ elim (cases_lt b a) [
        | inl less ↦ inr (λ e. omega (arith, e, less))
        | inr more ↦ inl (omega (arith, le, more))
      ]
    ]

-- numbers of which no two are equal are at most once at a place
hit-once : (at : ℕ → ℕ) (most v m : ℕ) → ((k l : ℕ) → k < m → l < m → at k ≡ at l → k ≡ l) → count_below (λ (k : ℕ). hit most v (at k)) m ≤ most
hit-once at most v zero once = omega arith
hit-once at most v (suc m) once =
    elim (same_or_not (at m) v) [
      | inl here ↦
          let none : count_below (λ (k : ℕ). hit most v (at k)) m ≡ 0 = count-zero (λ (k : ℕ). hit most v (at k)) m
          (λ k h. hit-other most v (at k) (λ e.
          let same : k ≡ m = once k m (omega (arith, h)) (omega arith) (e ∙ sym here) in omega (arith, h, same))) in
          omega (arith, none, hit-same most v (at m) here)
      | inr away ↦
          omega (arith, hit-other most v (at m) away, hit-once at most v m (λ k l h less e. once k l (omega (arith, h)) (omega (arith, less)) e))
    ]

-- ---- one part

-- the members of a part have no more than all variables
pub part-le : (f : ℕ → ℕ) (p : ProblemData) (part : List ℕ) → IsPartOf p part → count_below (λ (k : ℕ). f (nat_at part k)) (length part) ≤ count_below f (variables p)
part-le f p part is =
    let n = variables p in
    let m = length part in
    let of = λ (k i : ℕ). hit (f i) i (nat_at part k) in
    let each : count_below (λ (k : ℕ). f (nat_at part k)) m ≤ count_below (λ (k : ℕ). count_below (λ (i : ℕ). of k i) n) m = count-le (λ (k : ℕ). f (nat_at part k)) (λ (k : ℕ). count_below (λ (i : ℕ). of k i) n) m
    (λ k h. omega (arith, count-place (λ (i : ℕ). of k i) n (nat_at part k) (is.each k h), hit-same (f (nat_at part k)) (nat_at part k) (nat_at part k) refl)) in
    let turned = count-swap of m n in
    let once : count_below (λ (i : ℕ). count_below (λ (k : ℕ). of k i) m) n ≤ count_below f n = count-le (λ (i : ℕ). count_below (λ (k : ℕ). of k i) m) f n (λ i h. hit-once (nat_at part) (f i) i m is.once) in
    omega (arith, each, turned, once)

-- it has no more members than there are variables
pub part_length : (p : ProblemData) (part : List ℕ) → IsPartOf p part → length part ≤ variables p
part_length p part is =
    omega (arith, part-le ones p part is, count-same (λ (k : ℕ). ones (nat_at part k)) 1 (length part) (λ k h. refl), count-same ones 1 (variables p) (λ i h. refl))

-- ---- all parts

-- how many members there are before part number g
abbrev pub before : List (List ℕ) → ℕ → ℕ
before parts g = length (members_of (take g parts))

before-more : (parts : List (List ℕ)) (g h : ℕ) → g < h → h ≤ length parts → before parts g + length (part_at parts g) ≤ before parts h
before-more parts g h less most =
    let here : g < length (take h parts) = omega (arith, length-take-le h parts most) in
    let sum = length-flat_map-take (λ (part : List ℕ). part) (take h parts) g [] here in
    let taken : take g (take h parts) ≡ take g parts = take-take g h parts (omega arith) in
    let at : get_or (take h parts) g [] ≡ get_or parts g [] = get_or-take h parts g [] less in
    let front = ap (λ (some : List (List ℕ)). length (members_of some)) taken in
    omega (arith, sum, front, ap (λ (part : List ℕ). length part) at)

before-most : (parts : List (List ℕ)) (g : ℕ) → g < length parts → before parts g + length (part_at parts g) ≤ length (members_of parts)
before-most parts g h = length-flat_map-take (λ (part : List ℕ). part) parts g [] h

-- the place of a part's member among all
member-at : (parts : List (List ℕ)) (g k : ℕ) → g < length parts → k < length (part_at parts g) → nat_at (members_of parts) (before parts g + k) ≡ nat_at (part_at parts g) k
member-at parts g k h l = get_or-flat_map (λ (part : List ℕ). part) parts g k [] 0 h l

-- no member is at two places
members-apart : (p : ProblemData) (parts : List (List ℕ)) → ArePartsOf p parts → (a b : ℕ) → a < b → b < length (members_of parts) → nat_at (members_of parts) a ≡ nat_at (members_of parts) b → ⊥
members-apart p parts cut a b less within same =
    let v = nat_at (members_of parts) a in
    let all = members_of parts in
    let two = count-two (λ (c : ℕ). hit 1 v (nat_at all c)) (length all) a b less within in
    let one = hit-once (λ (i : ℕ). i) 1 v (variables p) (λ k l h m e. e) in
    let sum = count_over_members (hit 1 v) p parts cut in
    omega (arith, two, one, sum, hit-same 1 v (nat_at all a) refl, hit-same 1 v (nat_at all b) (sym same))

-- two members of parts are one variable only if they are one member
pub apart : (p : ProblemData) (parts : List (List ℕ)) → ArePartsOf p parts → (g k h l : ℕ) → g < length parts → k < length (part_at parts g) → h < length parts → l < length (part_at parts h) → nat_at (part_at parts g) k ≡ nat_at (part_at parts h) l → (g ≡ h) × (k ≡ l)
apart p parts cut g k h l g_in k_in h_in l_in same =
    let a = before parts g + k in
    let b = before parts h + l in
    let equal : nat_at (members_of parts) a ≡ nat_at (members_of parts) b = member-at parts g k g_in k_in ∙ same ∙ sym (member-at parts h l h_in l_in) in
    let a_in : a < length (members_of parts) = omega (arith, before-most parts g g_in, k_in) in
    let b_in : b < length (members_of parts) = omega (arith, before-most parts h h_in, l_in) in
    let place : a ≡ b = elim (cases_lt a b) [
      | inl lt ↦ absurd (members-apart p parts cut a b lt b_in equal)
      | inr le ↦ elim (cases_lt b a) [
        | inl less ↦ absurd (members-apart p parts cut b a less a_in (sym equal))
        | inr more ↦ omega (arith, le, more)
      ]
    ] in
    let part : g ≡ h = elim (cases_lt g h) [
      | inl lt ↦ absurd (omega (arith, before-more parts g h lt (omega arith), place, k_in))
      | inr le ↦ elim (cases_lt h g) [
        | inl less ↦ absurd (omega (arith, before-more parts h g less (omega arith), place, l_in))
        | inr more ↦ omega (arith, le, more)
      ]
    ] in
    (part, omega (arith, place, ap (before parts) part))

member_below : (p : ProblemData) (parts : List (List ℕ)) → ArePartsOf p parts → All (λ (i : ℕ). i < variables p) (members_of parts)
member_below p parts cut =
    let n = variables p in
    let range : All (λ (i : ℕ). i < n) (range_with_len 0 n) = λ k d h.
    let inside : k < n = omega (arith, length-range_with_len 0 n, h) in
    omega (arith, get_or-range_with_len 0 n k d inside, inside) in
    All-permutation (λ (i : ℕ). i < n) (range_with_len 0 n) (members_of parts) (IsPermutation-sym (members_of parts) (range_with_len 0 n) cut.once) range

pub each_is_part : (p : ProblemData) (parts : List (List ℕ)) (g : ℕ) → ArePartsOf p parts → g < length parts → IsPartOf p (part_at parts g)
each_is_part p parts g cut h = record {
  some = cut.some g h;
  each = λ k l.
      let inside : before parts g + k < length (members_of parts) = omega (arith, before-most parts g h, l) in
      let below = member_below p parts cut (before parts g + k) 0 inside in
      omega (arith, member-at parts g k h l, below);
  once = λ k l k_in l_in same. (apart p parts cut g k g l h k_in h l_in same).1;
}

-- there are no more parts than variables
pub parts_length : (p : ProblemData) (parts : List (List ℕ)) → ArePartsOf p parts → length parts ≤ variables p
parts_length p parts cut =
    let of_part = λ (g : ℕ). count_below (λ (k : ℕ). ones (nat_at (part_at parts g) k)) (length (part_at parts g)) in
    let sum = count_over_parts ones p parts cut in
    let all = count-same ones 1 (variables p) (λ i h. refl) in
    let parts_are = count-same ones 1 (length parts) (λ i h. refl) in
    let each : count_below ones (length parts) ≤ count_below of_part (length parts) = count-le ones of_part (length parts)
    (λ g h. omega (arith, cut.some g h, count-same (λ (k : ℕ). ones (nat_at (part_at parts g) k)) 1 (length (part_at parts g)) (λ k l. refl))) in
    omega (arith, sum, all, parts_are, each)
