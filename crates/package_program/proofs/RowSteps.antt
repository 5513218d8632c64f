-- Steps of the rows of a program.
use Rattle.std.proofs.Common.{◌≡◌, ℕ, zero, suc, ◌+◌, ◌^◌, ◌<◌, ◌≤◌, List, [], ◌∷◌, ◌++◌, map, take, drop, length, get_or, neg_ℤ, ℤ, refl, sym, ap, ◌∙◌, true, false, slice_set, Result, Ok, Err, OnOk, append_assoc, add-one, arith}
use Rattle.std.specs.Int.RustNames.{unsigned_abs}
use Rattle.std.specs.List.{AllByRecursion}
use Rattle.package_program.specs.Program.{signed}
use Rattle.package_program.specs.Numbers.{IsSmall}
use Rattle.package_program.proofs.AddSteps.{all_at}

pub on_ok : {T E : Type 0} (r : Result T E) (P : Type 0) → P → OnOk r P
on_ok (Ok x) P p = p
on_ok (Err e) P p = tt

pub on_ok-to : {T E : Type 0} (r : Result T E) (P Q : Type 0) → (P → Q) → OnOk r P → OnOk r Q
on_ok-to (Ok x) P Q to p = to p
on_ok-to (Err e) P Q to p = tt

pub map-kept : (numbers : List ℤ) → map (signed false) numbers ≡ numbers
map-kept [] = refl
map-kept (number ∷ numbers) = ap (λ (l : List ℤ). number ∷ l) (map-kept numbers)

pub map-turned : (numbers : List ℤ) → map (signed false) (map neg_ℤ numbers) ≡ map (signed true) numbers
map-turned [] = refl
map-turned (number ∷ numbers) = ap (λ (l : List ℤ). neg_ℤ number ∷ l) (map-turned numbers)

pub one_more : {X : Type 0} (old later : List X) (x y : X) → later ≡ old ++ x ∷ [] → later ++ y ∷ [] ≡ old ++ x ∷ y ∷ []
one_more old later x y e = ap (λ (l : List _). l ++ y ∷ []) e ∙ append_assoc old (x ∷ []) (y ∷ [])

turned : (numbers : List ℤ) (place : ℕ) (d : ℤ) → place < length numbers
    → slice_set (map neg_ℤ (take place numbers) ++ drop place numbers) place (neg_ℤ (get_or (map neg_ℤ (take place numbers) ++ drop place numbers) place d)) ≡ map neg_ℤ (take (suc place) numbers) ++ drop (suc place) numbers
turned [] place d l = absurd (omega (arith, l))
turned (first ∷ numbers) zero d l = refl
turned (first ∷ numbers) (suc place) d l = ap (λ (rest : List ℤ). neg_ℤ first ∷ rest) (turned numbers place d (omega (arith, l)))

pub turned_more : (numbers now next : List ℤ) (place : ℕ) (number d : ℤ) → place < length numbers → now ≡ map neg_ℤ (take place numbers) ++ drop place numbers → number ≡ get_or now place d → next ≡ slice_set now place (neg_ℤ number)
    → next ≡ map neg_ℤ (take (place + 1) numbers) ++ drop (place + 1) numbers
turned_more numbers now next place number d l is here set =
    set ∙ ap (λ (z : ℤ). slice_set now place (neg_ℤ z)) here
    ∙ ap (λ (l : List ℤ). slice_set l place (neg_ℤ (get_or l place d))) is
    ∙ turned numbers place d l
    ∙ ap (λ (k : ℕ). map neg_ℤ (take k numbers) ++ drop k numbers) (sym (add-one place))

left_at : (numbers : List ℤ) (place : ℕ) (d : ℤ) → place < length numbers → get_or (map neg_ℤ (take place numbers) ++ drop place numbers) place d ≡ get_or numbers place d
left_at [] place d l = absurd (omega (arith, l))
left_at (first ∷ numbers) zero d l = refl
left_at (first ∷ numbers) (suc place) d l = left_at numbers place d (omega (arith, l))

pub small_left : (numbers now : List ℤ) (place : ℕ) (d : ℤ) → place < length numbers → now ≡ map neg_ℤ (take place numbers) ++ drop place numbers → AllByRecursion IsSmall numbers
    → unsigned_abs (get_or now place d) ≤ 2 ^ 60
small_left numbers now place d l is small =
    let here : get_or now place d ≡ get_or numbers place d = ap (λ (l : List ℤ). get_or l place d) is ∙ left_at numbers place d l in
    rw here (all_at IsSmall numbers place d l small)
