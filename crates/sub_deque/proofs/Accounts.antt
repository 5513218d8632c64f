-- Each step keeps the account of a lane.
use Rattle.std.proofs.Common.{◌≡◌, ◌≢◌, ℕ, zero, suc, ◌≤◌, true, true≢false, List, [], ◌∷◌, ◌++◌, length, set, sym, refl, ap, ◌∙◌, subst, ⊎_elim, append_assoc, append-nil, arith}
use Rattle.std.specs.Prelude.{IsPermutation}
use Rattle.std.proofs.lemmas.List.Sorted.{IsPermutation-refl, IsPermutation-trans, IsPermutation-append_left, IsPermutation-append_right, IsPermutation-append_comm}
use mathlib.Core.Option.{some, some-ne-none}
use lib.ListN.{get_elem?}
use Rattle.crossbeam_deque.specs.Tasks.{Pushes, Takes, Pops, Forks, Merges}
use Rattle.crossbeam_deque.proofs.Lists.{at_set, at_snoc}
use Rattle.lin_bound.specs.declared.path.Branch.{Branch}
use Rattle.sub_deque.specs.declared.view.LaneView.{LaneView}
use Rattle.sub_deque.specs.Views.{Paths, whole_view, first_view, owner_view, thief_view, guest_view, pushing, popping, stealing}
use Rattle.sub_deque.specs.Rule.{IsAccount, Fits, Kept, Moment}

abbrev pub Each : (ℕ → LaneView → Type 0) → List LaneView → Type 0
Each P views = (id : ℕ) (v : LaneView) → get_elem? views id ≡ some v → P id v

each_set : (P : ℕ → LaneView → Type 0) (views : List LaneView) (id : ℕ) (w : LaneView) → P id w → ((j : ℕ) (u : LaneView) → j ≢ id → get_elem? views j ≡ some u → P j u) → Each P (set views id w)
each_set P views id w mine others j u at = ⊎_elim
    (λ (x : (j ≡ id) × (w ≡ u)). subst (λ (y : ℕ × LaneView). P y.0 y.1) (λ i. (sym x.0 i, x.1 i)) mine)
    (λ (x : (j ≢ id) × (get_elem? views j ≡ some u)). others j u x.0 x.1)
    (at_set views id j w u at)

at_end : (l : List LaneView) (a b : LaneView) (j : ℕ) → get_elem? l j ≢ some b → get_elem? (l ++ a ∷ []) j ≡ some b → j ≡ length l
at_end [] a b zero n e = refl
at_end [] a b (suc j) n e = absurd (some-ne-none b (sym e))
at_end (x ∷ xs) a b zero n e = absurd (n e)
at_end (x ∷ xs) a b (suc j) n e = ap suc (at_end xs a b j n e)

nothing : (items : Paths) → length items ≤ 0 → items ≡ []
nothing [] none = refl
nothing (x ∷ xs) none = absurd (omega (arith, none))

only_first : (j : ℕ) (u : LaneView) → j ≢ 0 → get_elem? (first_view ∷ []) j ≡ some u → ⊥
only_first zero u other at = other refl
only_first (suc j) u other at = some-ne-none u (sym at)

pub begins : Kept [] (first_view ∷ [])
begins = record {
  owner = 0;
  thief = 0;
  put = [];
  popped = [];
  stolen = [];
  same = IsPermutation-refl [];
  each = each_set (Fits 0 0 [] [] []) (first_view ∷ []) 0 first_view record { owns = λ _. (refl, refl, refl); steals = λ _. (refl, refl) } (λ j u other at. absurd (only_first j u other at));
}

pub pushes : (port : ℕ) (v : LaneView) (paths : Paths) → v.owns ≡ true → Pushes Kept port v paths (λ w. w ≡ pushing paths v)
pushes port v paths owns items views k at =
    let w = pushing paths v in
    let mine = k.each port v at in
    let put = k.put ++ paths in (
      w,
      record {
        owner = k.owner;
        thief = k.thief;
        put = put;
        popped = k.popped;
        stolen = k.stolen;
        same = subst (IsPermutation put) (append_assoc k.popped (k.stolen ++ items) paths ∙ ap (λ l. k.popped ++ l) (append_assoc k.stolen items paths)) (IsPermutation-append_left paths k.put (k.popped ++ (k.stolen ++ items)) k.same);
        each = each_set (Fits k.owner k.thief put k.popped k.stolen) views port w
            record {
              owns = λ o. (let old = mine.owns o in (old.0, ap (λ l. l ++ paths) old.1, old.2));
              steals = mine.steals;
            }
            (λ j u other e. record {
              owns = λ o. absurd (other (((k.each j u e).owns o).0 ∙ sym (mine.owns owns).0));
              steals = (k.each j u e).steals;
            });
      },
      refl,
    )

-- the last path goes among the popped ones
popped_last : (put popped stolen items : Paths) (x : List Branch) → IsAccount put popped stolen (items ++ x ∷ []) → IsAccount put (popped ++ x ∷ []) stolen items
popped_last put popped stolen items x same =
    let moved : IsPermutation ((stolen ++ items) ++ x ∷ []) (x ∷ (stolen ++ items)) = IsPermutation-append_comm (stolen ++ items) (x ∷ []) in
    let under : IsPermutation (popped ++ ((stolen ++ items) ++ x ∷ [])) (popped ++ (x ∷ (stolen ++ items))) = IsPermutation-append_right popped ((stolen ++ items) ++ x ∷ []) (x ∷ (stolen ++ items)) moved in
    let from : IsPermutation put (popped ++ ((stolen ++ items) ++ x ∷ [])) = subst (λ l. IsPermutation put (popped ++ l)) (sym (append_assoc stolen items (x ∷ []))) same in
    subst (IsPermutation put) (sym (append_assoc popped (x ∷ []) (stolen ++ items))) (IsPermutation-trans put (popped ++ ((stolen ++ items) ++ x ∷ [])) (popped ++ (x ∷ (stolen ++ items))) from under)

pub pops : (port : ℕ) (v : LaneView) → v.owns ≡ true → Pops Kept port v (λ paths w. w ≡ popping paths v)
pops port v owns x items views k at =
    let w = popping (x ∷ []) v in
    let mine = k.each port v at in
    let popped = k.popped ++ x ∷ [] in (
      w,
      record {
        owner = k.owner;
        thief = k.thief;
        put = k.put;
        popped = popped;
        stolen = k.stolen;
        same = popped_last k.put k.popped k.stolen items x k.same;
        each = each_set (Fits k.owner k.thief k.put popped k.stolen) views port w
            record {
              owns = λ o. (let old = mine.owns o in (old.0, old.1, ap (λ l. l ++ x ∷ []) old.2));
              steals = mine.steals;
            }
            (λ j u other e. record {
              owns = λ o. absurd (other (((k.each j u e).owns o).0 ∙ sym (mine.owns owns).0));
              steals = (k.each j u e).steals;
            });
      },
      refl,
    )

pub steals : (port : ℕ) (v : LaneView) → v.steals ≡ true → Takes Kept port v 1 (λ paths w. w ≡ stealing paths v)
steals port v may paths items views some_path one k at =
    let w = stealing paths v in
    let mine = k.each port v at in
    let stolen = k.stolen ++ paths in (
      w,
      record {
        owner = k.owner;
        thief = k.thief;
        put = k.put;
        popped = k.popped;
        stolen = stolen;
        same = subst (λ l. IsPermutation k.put (k.popped ++ l)) (sym (append_assoc k.stolen paths items)) k.same;
        each = each_set (Fits k.owner k.thief k.put k.popped stolen) views port w
            record {
              owns = mine.owns;
              steals = λ s. (let old = mine.steals s in (old.0, ap (λ l. l ++ paths) old.1));
            }
            (λ j u other e. record {
              owns = (k.each j u e).owns;
              steals = λ s. absurd (other (((k.each j u e).steals s).0 ∙ sym (mine.steals may).0));
            });
      },
      refl,
    )

-- the thief's end is split from the owner's
pub splits : (port : ℕ) (v : LaneView) → v.owns ≡ true → v.steals ≡ true → Forks Kept port v (owner_view v.put v.popped) (thief_view v.stolen)
splits port v owns may items views k at =
    let left = owner_view v.put v.popped in
    let right = thief_view v.stolen in
    let mine = k.each port v at in
    let half = set views port left in
    let Old : ℕ → LaneView → Type 0 = λ j u. (u.owns ≡ true → (j ≡ k.owner) × (u.put ≡ k.put) × (u.popped ≡ k.popped)) × (u.steals ≢ true) in
    let old : Each Old half = each_set Old views port left ((λ _. mine.owns owns), λ s. true≢false (sym s)) (λ j u other e. ((k.each j u e).owns, λ s. other (((k.each j u e).steals s).0 ∙ sym (mine.steals may).0))) in
    record {
      owner = k.owner;
      thief = length half;
      put = k.put;
      popped = k.popped;
      stolen = k.stolen;
      same = k.same;
      each = λ j u e. ⊎_elim
          (λ x. record { owns = (old j u x).0; steals = λ s. absurd ((old j u x).1 s) })
          (λ (is : right ≡ u). record {
            owns = λ o. absurd (true≢false (sym (ap (λ (y : LaneView). y.owns) is ∙ o)));
            steals = λ s. (at_end half right u j (λ x. (old j u x).1 s) e, ap (λ (y : LaneView). y.stolen) (sym is) ∙ (mine.steals may).1);
          })
          (at_snoc half right u j e);
    }

-- and joined to it again
pub joins : (port : ℕ) (v : LaneView) (other : ℕ) (u : LaneView) → v.owns ≡ true → u.steals ≡ true → Merges Kept port v other u (whole_view v.put v.popped u.stolen) guest_view
joins port v other u owns may items views k at apart there =
    let both = whole_view v.put v.popped u.stolen in
    let mine = k.each port v at in
    let mid = set views port both in
    let was : get_elem? views other ≡ some u = ⊎_elim (λ (x : (other ≡ port) × (both ≡ u)). absurd (apart x.0)) (λ (x : (other ≢ port) × (get_elem? views other ≡ some u)). x.1) (at_set views port other both u there) in
    let theirs = (k.each other u was).steals may in
    let Now : ℕ → LaneView → Type 0 = λ j y. j ≢ other → Fits k.owner port k.put k.popped k.stolen j y in
    let now : Each Now mid = each_set Now views port both
    (λ _. record { owns = λ _. mine.owns owns; steals = λ _. (refl, theirs.1) })
    (λ j y away e not_other. record {
      owns = (k.each j y e).owns;
      steals = λ s. absurd (not_other (((k.each j y e).steals s).0 ∙ sym theirs.0));
    }) in
    record {
      owner = k.owner;
      thief = port;
      put = k.put;
      popped = k.popped;
      stolen = k.stolen;
      same = k.same;
      each = each_set (Fits k.owner port k.put k.popped k.stolen) mid other guest_view
          record { owns = λ o. absurd (true≢false (sym o)); steals = λ s. absurd (true≢false (sym s)) }
          (λ j y away e. now j y e away);
    }

-- an end that is both, with nothing in the lane, knows the whole account
pub emptied : (put popped stolen : Paths) → Moment 0 (whole_view put popped stolen) → IsAccount put popped stolen []
emptied put popped stolen m =
    let k = m.5 in
    let fits = k.each m.3 (whole_view put popped stolen) m.4 in
    let owns = fits.owns refl in
    let has = fits.steals refl in
    let none : m.0 ≡ [] = nothing m.0 m.1 in
    subst (λ (y : Paths × (Paths × (Paths × Paths))). IsAccount y.0 y.1.0 y.1.1.0 y.1.1.1) (λ i. (sym owns.1 i, (sym owns.2 i, (sym has.1 i, none i)))) k.same

-- what was popped one after another until nothing was left is what was left
pub drained : (put popped stolen left : Paths) (v : LaneView) → v ≡ whole_view put (popped ++ left) stolen → Moment 0 v → IsAccount put popped stolen left
drained put popped stolen left v is m =
    let all : IsPermutation put ((popped ++ left) ++ (stolen ++ [])) = emptied put (popped ++ left) stolen (subst (Moment 0) is m) in
    let bare : IsPermutation put ((popped ++ left) ++ stolen) = subst (λ l. IsPermutation put ((popped ++ left) ++ l)) (append-nil stolen) all in
    let in_two : IsPermutation put (popped ++ (left ++ stolen)) = subst (IsPermutation put) (append_assoc popped left stolen) bare in
    IsPermutation-trans put (popped ++ (left ++ stolen)) (popped ++ (stolen ++ left)) in_two (IsPermutation-append_right popped (left ++ stolen) (stolen ++ left) (IsPermutation-append_comm left stolen))
