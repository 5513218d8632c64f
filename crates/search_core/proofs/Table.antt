-- What the lists of a search come to, in the words of the table of events.
use Rattle.std.proofs.Common.{◌≡◌, ℕ, Bool, true, false, suc, ◌+◌, ◌<◌, ◌≤◌, List, [], ◌∷◌, ◌++◌, length, take, drop, remove, refl, sym, ap, subst, ◌∙◌, arith, below_more, IsPermutation, Contains, Some}
use Rattle.std.specs.Prelude.{slice_get, slice_index_or, slice_set, ℤ, Option, MatchBool}
use Rattle.std.proofs.lemmas.List.{set_split, set-get_or, append_assoc}
use Rattle.std.proofs.lemmas.List.Sorted.{IsPermutation-remove, IsPermutation-middle, IsPermutation-to_front}
use Rattle.std.proofs.lemmas.Option.{slice_get_within, get_or_from_slice_get, slice_get-get_or, slice_get_read}
use Rattle.lin_bound.specs.declared.path.Branch.{Branch}
use Rattle.lin_bound.specs.Box.{lower, upper}
use Rattle.search_core.specs.declared.event.Hand.{Hand}
use Rattle.search_core.specs.declared.event.Seen.TheVariants.{NotLooked, Looked}
use Rattle.search_core.specs.Search.{value_in}
use Rattle.search_core.specs.Moves.{IsLastTaken, children_in_turn}
use Rattle.search_core.specs.Core.{CoreState, Holds, IsBusy, IsHeldAt, in_hand, Replaced, IsTaken, IsLooked, IsDropped}

-- what is at a place is among them, and the others are what is left without it
pub found_at : {X : Type 0} (xs : List X) (place : ℕ) (x : X) → slice_get xs place ≡ Some x → Contains xs x
found_at xs place x there = (place, slice_get_within xs place x there, get_or_from_slice_get xs place x x there)

pub taken_out : {X : Type 0} (xs : List X) (place : ℕ) (x : X) → slice_get xs place ≡ Some x → IsPermutation xs (x ∷ remove xs place)
taken_out xs place x there = IsPermutation-remove xs place x (slice_get_within xs place x there) (sym (get_or_from_slice_get xs place x x there))

-- one more place that holds no node of the worker
pub none_more : (hands : List Hand) (worker place : ℕ) (hand : Hand) → hand ≡ slice_index_or hands place hand → (hand.worker ≡ worker → ⊥) → ((i : ℕ) → i < place → (other : Hand) → slice_get hands i ≡ Some other → other.worker ≡ worker → ⊥) → (i : ℕ) → i < place + 1 → (other : Hand) → slice_get hands i ≡ Some other → other.worker ≡ worker → ⊥
none_more hands worker place hand is unlike before =
    below_more (λ (i : ℕ). (other : Hand) → slice_get hands i ≡ Some other → other.worker ≡ worker → ⊥) place before
    (λ other there same. unlike (ap (λ (h : Hand). h.worker) (is ∙ get_or_from_slice_get hands place other hand there) ∙ same))

pub none_busy : (hands : List Hand) (worker place : ℕ) → length hands ≤ place → ((i : ℕ) → i < place → (other : Hand) → slice_get hands i ≡ Some other → other.worker ≡ worker → ⊥) → ¬ IsBusy hands worker
none_busy hands worker place all before busy =
    let at = busy.1.0 in
    before at.0 (omega (arith, at.1, all)) busy.0 (slice_get-get_or hands at.0 busy.0 at.1 ∙ ap Some at.2) busy.1.1

pub busy_at : (hands : List Hand) (worker place : ℕ) → IsHeldAt hands worker place → IsBusy hands worker
busy_at hands worker place held = (held.0, (found_at hands place held.0 held.1, held.2))

-- a path that moves to a hand
pub taken : (before after : CoreState) (worker place : ℕ) (path : List Branch) → slice_get before.left place ≡ Some path → after.left ≡ remove before.left place → after.hands ≡ before.hands ++ in_hand worker path NotLooked ∷ [] → after.budget ≡ before.budget → after.best ≡ before.best → after.records ≡ before.records → IsTaken before worker path after
taken before after worker place path there left hands budget best records =
    record {
      left = rw left (taken_out before.left place path there);
      hands = rw hands (IsPermutation-to_front before.hands (in_hand worker path NotLooked));
      budget = budget;
      best = best;
      records = records;
    }

-- a node that is another afterwards
pub replaced : (before after : List Hand) (place : ℕ) (old new : Hand) → slice_get before place ≡ Some old → after ≡ slice_set before place new → Replaced before after old new
replaced before after place old new there set =
    let within = slice_get_within before place old there in
    let others = take place before ++ drop (suc place) before in
    let whole : before ≡ take place before ++ old ∷ drop (suc place) before =
    sym (set-get_or before place old) ∙ (ap (slice_set before place) (get_or_from_slice_get before place old old there) ∙ set_split before place old within) in
    record {
      others = others;
      taken = subst (λ (hands : List Hand). IsPermutation hands (old ∷ others)) (sym whole) (IsPermutation-middle (take place before) old (drop (suc place) before));
      put = subst (λ (hands : List Hand). IsPermutation hands (new ∷ others)) (sym (set ∙ set_split before place new within)) (IsPermutation-middle (take place before) new (drop (suc place) before));
    }

-- a path that is open again
pub dropped : (before after : CoreState) (worker place : ℕ) (got : Hand) → IsHeldAt before.hands worker place → got ≡ slice_index_or before.hands place got → after.hands ≡ remove before.hands place → after.left ≡ before.left ++ got.path ∷ [] → after.budget ≡ before.budget → after.best ≡ before.best → after.records ≡ before.records → IsBusy before.hands worker × IsDropped before worker after
dropped before after worker place got held is hands left budget best records =
    let same : got ≡ held.0 = is ∙ get_or_from_slice_get before.hands place held.0 got held.1 in
    let there : slice_get before.hands place ≡ Some got = held.1 ∙ ap Some (sym same) in
    let holds : Holds before.hands worker got = (found_at before.hands place got there, ap (λ (h : Hand). h.worker) same ∙ held.2) in (
      (got, holds),
      record {
        hand = got;
        held = holds;
        hands = rw hands (taken_out before.hands place got there);
        left = rw left (IsPermutation-to_front before.left got.path);
        budget = budget;
        best = best;
        records = records;
      },
    )

-- a node beside which a value is kept
pub looked : (before after : CoreState) (worker place : ℕ) (found : Hand) (value : Option ℤ) → IsHeldAt before.hands worker place → found ≡ slice_index_or before.hands place found → value ≡ value_in before.best → after.hands ≡ slice_set before.hands place (in_hand found.worker found.path (Looked value)) → after.budget ≡ before.budget → after.left ≡ before.left → after.best ≡ before.best → after.records ≡ before.records → IsBusy before.hands worker × IsLooked before worker after
looked before after worker place found value held is value_is hands budget left best records =
    let same : found ≡ held.0 = is ∙ get_or_from_slice_get before.hands place held.0 found held.1 in
    let there : slice_get before.hands place ≡ Some found = held.1 ∙ ap Some (sym same) in
    let of : found.worker ≡ worker = ap (λ (h : Hand). h.worker) same ∙ held.2 in
    let holds : Holds before.hands worker found = (found_at before.hands place found there, of) in
    let new : in_hand found.worker found.path (Looked value) ≡ in_hand worker found.path (Looked (value_in before.best)) =
    ap (λ (w : ℕ). in_hand w found.path (Looked value)) of ∙ ap (λ (v : Option ℤ). in_hand worker found.path (Looked v)) value_is in (
      (found, holds),
      record {
        hand = found;
        held = holds;
        hands = replaced before.hands after.hands place found (in_hand worker found.path (Looked (value_in before.best))) there (hands ∙ ap (slice_set before.hands place) new);
        budget = budget;
        left = left;
        best = best;
        records = records;
      },
    )

-- two paths are opened
two_open : (old reserved one two : List (List Branch)) (first last : List Branch) → reserved ≡ old → one ≡ reserved ++ first ∷ [] → two ≡ one ++ last ∷ [] → two ≡ old ++ first ∷ (last ∷ [])
two_open old reserved one two first last kept one_is two_is =
    two_is ∙ (ap (λ (paths : List (List Branch)). paths ++ last ∷ []) (one_is ∙ ap (λ (paths : List (List Branch)). paths ++ first ∷ []) kept) ∙ append_assoc old (first ∷ []) (last ∷ []))

-- and are the children of a node
children_open : (old two : List (List Branch)) (path below above first last : List Branch) (is_upper_next : Bool) (var at : ℕ) → below ≡ path ++ lower var at ∷ [] → above ≡ path ++ upper var at ∷ [] → MatchBool is_upper_next ((first ≡ below) × (last ≡ above)) ((first ≡ above) × (last ≡ below)) → two ≡ old ++ first ∷ (last ∷ []) → two ≡ old ++ children_in_turn is_upper_next path var at
children_open old two path below above first last true var at low high turn is =
    is ∙ (ap (λ (one : List Branch). old ++ one ∷ (last ∷ [])) (turn.0 ∙ low) ∙ ap (λ (one : List Branch). old ++ (path ++ lower var at ∷ []) ∷ (one ∷ [])) (turn.1 ∙ high))
children_open old two path below above first last false var at low high turn is =
    is ∙ (ap (λ (one : List Branch). old ++ one ∷ (last ∷ [])) (turn.0 ∙ high) ∙ ap (λ (one : List Branch). old ++ (path ++ upper var at ∷ []) ∷ (one ∷ [])) (turn.1 ∙ low))

-- both children of a node are open
pub both_open : (old reserved one two : List (List Branch)) (hands : List Hand) (place : ℕ) (got seen : Hand) (below above first last : List Branch) (is_upper_next : Bool) (var at : ℕ) → place < length hands → got ≡ slice_index_or hands place got → seen ≡ slice_index_or hands place seen → below ≡ seen.path ++ lower var at ∷ [] → above ≡ seen.path ++ upper var at ∷ [] → MatchBool is_upper_next ((first ≡ below) × (last ≡ above)) ((first ≡ above) × (last ≡ below)) → reserved ≡ old → one ≡ reserved ++ first ∷ [] → two ≡ one ++ last ∷ [] → two ≡ old ++ children_in_turn is_upper_next got.path var at
both_open old reserved one two hands place got seen below above first last is_upper_next var at within got_is seen_is below_is above_is turn kept one_is two_is =
    let same : seen ≡ got = seen_is ∙ get_or_from_slice_get hands place got seen (slice_get_read hands (length hands) place got refl within got_is) in
    let low : below ≡ got.path ++ lower var at ∷ [] = below_is ∙ ap (λ (h : Hand). h.path ++ lower var at ∷ []) same in
    let high : above ≡ got.path ++ upper var at ∷ [] = above_is ∙ ap (λ (h : Hand). h.path ++ upper var at ∷ []) same in
    children_open old two got.path below above first last is_upper_next var at low high turn (two_open old reserved one two first last kept one_is two_is)

-- the path that was opened last moves to a hand
pub taken_last : (before after : CoreState) (worker : ℕ) (path : List Branch) → before.left ≡ after.left ++ path ∷ [] → after.hands ≡ before.hands ++ in_hand worker path NotLooked ∷ [] → after.budget ≡ before.budget → after.best ≡ before.best → after.records ≡ before.records → IsLastTaken before worker after
taken_last before after worker path left hands budget best records = record {
  path = path;
  last = left;
  taken = record {
    left = rw left (IsPermutation-to_front after.left path);
    hands = rw hands (IsPermutation-to_front before.hands (in_hand worker path NotLooked));
    budget = budget;
    best = best;
    records = records;
  };
}
