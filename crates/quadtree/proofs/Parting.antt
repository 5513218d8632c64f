-- Lemmas on places that are parted by a test, in place.
use Rattle.std.proofs.Common.{◌≡◌, ℕ, ◌+◌, ◌-◌, ◌<◌, ◌≤◌, List, [], ◌∷◌, ◌++◌, length, get_or, set, take, drop, All, Bool, true, false, not, cond, refl, sym, ap, ◌∙◌, arith, append-nil}
use Rattle.std.specs.List.{filter}
use Rattle.std.proofs.lemmas.Bool.{cond-true, cond-false}
use Rattle.std.proofs.lemmas.List.{get_or-drop, length-append, take_all, take_at, drop-drop, take_more_set, drop-set-lt, length-set, length-take-le, length-drop, drop_all}
use borrow.Rule.Slice.PartMut.{put_mid}
use Rattle.std.proofs.lemmas.List.Elements.{filter_more, All-append, All-filter}
use Rattle.quadtree.specs.Places.{IsParted}

abbrev pub not_above : (ℕ → Bool) → ℕ → Bool
not_above above place = not (above place)

-- what holds after the first i places
pub record Parts (above : ℕ → Bool) (before now aside : List ℕ) (middle i : ℕ) : Type 0 where
  pub others : take middle now ≡ filter (not_above above) (take i before)
  pub rest : drop i now ≡ drop i before
  pub aside_is : aside ≡ filter above (take i before)
  pub count : middle + length aside ≡ i
  pub within : i ≤ length before
  pub long : length now ≡ length before

pub part-none : (above : ℕ → Bool) (before : List ℕ) → Parts above before before [] 0 0
part-none above before = record { others = refl; rest = refl; aside_is = refl; count = refl; within = omega arith; long = refl }

-- what is still to come stands where it did
pub at-kept : (before now : List ℕ) (i : ℕ) → drop i now ≡ drop i before → get_or now i 0 ≡ get_or before i 0
at-kept before now i same =
    let one : get_or now (i + 0) 0 ≡ get_or before (i + 0) 0 = sym (get_or-drop i now 0 0) ∙ ap (λ (xs : List ℕ). get_or xs 0 0) same ∙ get_or-drop i before 0 0 in
    let e : i + 0 ≡ i = omega arith in
    rw e at one

rest-more : (before now : List ℕ) (i : ℕ) → drop i now ≡ drop i before → drop (i + 1) now ≡ drop (i + 1) before
rest-more before now i same = sym (drop-drop 1 i now) ∙ ap (drop 1) same ∙ drop-drop 1 i before

-- one more place that passes a test, or fails it
more-passes : (test : ℕ → Bool) (xs : List ℕ) (i : ℕ) → i < length xs → test (get_or xs i 0) ≡ true → filter test (take (i + 1) xs) ≡ filter test (take i xs) ++ get_or xs i 0 ∷ []
more-passes test xs i within here = filter_more test xs i 0 within ∙ ap (λ (ys : List ℕ). filter test (take i xs) ++ ys) (cond-true (test (get_or xs i 0)) (get_or xs i 0 ∷ []) [] here)

more-fails : (test : ℕ → Bool) (xs : List ℕ) (i : ℕ) → i < length xs → test (get_or xs i 0) ≡ false → filter test (take (i + 1) xs) ≡ filter test (take i xs)
more-fails test xs i within here = filter_more test xs i 0 within ∙ ap (λ (ys : List ℕ). filter test (take i xs) ++ ys) (cond-false (test (get_or xs i 0)) (get_or xs i 0 ∷ []) [] here) ∙ append-nil (filter test (take i xs))

module _ (above : ℕ → Bool) (before now aside : List ℕ) (middle i : ℕ) (parts : Parts above before now aside middle i) (within : i < length now) where
  pub part-above : above (get_or now i 0) ≡ true → Parts above before now (aside ++ get_or now i 0 ∷ []) middle (i + 1)
  part-above here =
      let same = at-kept before now i parts.rest in
      let long : i < length before = omega (arith, parts.long) in
      let passes : above (get_or before i 0) ≡ true = ap above (sym same) ∙ here in
      record {
        others = parts.others ∙ sym (more-fails (not_above above) before i long (ap not passes));
        rest = rest-more before now i parts.rest;
        aside_is = ap (λ (x : ℕ). aside ++ x ∷ []) same ∙ ap (λ (xs : List ℕ). xs ++ get_or before i 0 ∷ []) parts.aside_is ∙ sym (more-passes above before i long passes);
        count = omega (arith, parts.count, length-append aside (get_or now i 0 ∷ []));
        within = omega arith;
        long = parts.long;
      }

  pub part-other : above (get_or now i 0) ≡ false → Parts above before (set now middle (get_or now i 0)) aside (middle + 1) (i + 1)
  part-other here =
      let same = at-kept before now i parts.rest in
      let long : i < length before = omega (arith, parts.long) in
      let low : middle < length now = omega (arith, parts.count) in
      let fails : above (get_or before i 0) ≡ false = ap above (sym same) ∙ here in
      record {
        others = take_more_set now middle (get_or now i 0) low ∙ ap (λ (x : ℕ). take middle now ++ x ∷ []) same ∙ ap (λ (xs : List ℕ). xs ++ get_or before i 0 ∷ []) parts.others ∙ sym (more-passes (not_above above) before i long (ap not fails));
        rest = drop-set-lt (i + 1) now middle (get_or now i 0) (omega (arith, parts.count)) ∙ rest-more before now i parts.rest;
        aside_is = parts.aside_is ∙ sym (more-fails above before i long fails);
        count = omega (arith, parts.count);
        within = omega arith;
        long = length-set now middle (get_or now i 0) ∙ parts.long;
      }

-- and after all of them
pub part-all : (above : ℕ → Bool) (before now aside : List ℕ) (middle i : ℕ) → Parts above before now aside middle i → length now ≤ i → IsParted above before middle (take middle now ++ aside)
part-all above before now aside middle i parts all =
    let whole : take i before ≡ before = take_all i before (omega (arith, parts.long)) in
    let others : take middle now ≡ filter (not_above above) before = parts.others ∙ ap (filter (not_above above)) whole in
    let aside_is : aside ≡ filter above before = parts.aside_is ∙ ap (filter above) whole in
    record {
      order = ap (λ (xs : List ℕ). xs ++ aside) others ∙ ap (λ (xs : List ℕ). filter (not_above above) before ++ xs) aside_is;
      others = sym (length-take-le middle now (omega (arith, parts.count, parts.within, parts.long))) ∙ ap length others;
    }

-- a list whose last part is written over
pub put_mid-end : (a : ℕ) (xs ys : List ℕ) → a ≤ length xs → put_mid a (length xs - a) xs ys ≡ take a xs ++ ys
put_mid-end a xs ys within =
    let none : drop (length xs - a) (drop a xs) ≡ [] = drop_all (length xs - a) (drop a xs) (omega (arith, length-drop a xs)) in
    ap (λ (zs : List ℕ). take a xs ++ (ys ++ zs)) none ∙ ap (λ (zs : List ℕ). take a xs ++ zs) (append-nil ys)
