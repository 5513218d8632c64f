-- Entries of a map by names and versions, as the list of what is kept.
use Rattle.std.proofs.Common.{◌≡◌, ℕ, suc, ◌+◌, ◌<◌, ◌≤◌, List, [], ◌∷◌, ◌++◌, length, map, drop, Result, Ok, Err, OnOk, IsOk, Bool, true, false, not, cond, ◌&&◌, nat_eq, nat_lt, Option, Some, None, slice_get, refl, sym, ap, ◌∙◌, arith, length-drop}
use Rattle.std.specs.List.{list_any, position, position_or_len}
use Rattle.std.specs.Map.{keys_of, values_of}
use Rattle.std.specs.Option.{option_map}
use Rattle.std.proofs.lemmas.Option.{slice_get-map}
use Rattle.std.specs.Str.{bytes_eq}
use Rattle.std.specs.declared.vec.Vec.{Vec}
use Rattle.std.proofs.lemmas.Bool.{or_parts, ltb-true}
use Rattle.std.proofs.lemmas.List.{length-map, drop-map, map-append}
use Rattle.indexmap.specs.IndexMap.{insert_entry}
use Rattle.quadtree.specs.declared.group.Group.{Group}
use Rattle.groups.specs.Kept.{Kept, entry_kept}
use Rattle.groups.specs.Caches.{is_of, with_room}
use Rattle.groups.specs.declared.limits.TheConstants.{MAX_KEPT}

abbrev pub Key : Type 0 → Type 0
Key A = Vec ℕ A × ℕ

abbrev pub same_key : {A : Type 0} → Key A → Key A → Bool
same_key one other = bytes_eq one.0.items other.0.items && nat_eq one.1 other.1

-- a key that no entry has goes last
pub put_last : {A : Type 0} (key : Key A) (groups : Vec Group A) (entries : List (Key A × Vec Group A)) → list_any (is_of key.0.items key.1) (map entry_kept entries) ≡ false → insert_entry same_key entries key groups ≡ entries ++ (key, groups) ∷ []
put_last key groups [] none = refl
put_last {A} key groups (entry ∷ entries) none =
    let parts = or_parts (is_of key.0.items key.1 (entry_kept entry)) (list_any (is_of key.0.items key.1) (map entry_kept entries)) none in
    ap (λ (b : Bool). cond b ((entry.0, groups) ∷ entries) (entry ∷ insert_entry same_key entries key groups)) parts.0
    ∙ ap (λ (rest : List (Key A × Vec Group A)). entry ∷ rest) (put_last key groups entries parts.1)

-- the place of a key is that of what is kept for it
place_or_len : {A : Type 0} (key : Key A) (entries : List (Key A × Vec Group A)) → position_or_len (same_key key) (keys_of entries) ≡ position_or_len (is_of key.0.items key.1) (map entry_kept entries)
place_or_len key [] = refl
place_or_len key (entry ∷ entries) = ap (λ (n : ℕ). cond (not (same_key key entry.0)) (1 + n) 0) (place_or_len key entries)

same_length : {A : Type 0} (entries : List (Key A × Vec Group A)) → length (keys_of entries) ≡ length (map entry_kept entries)
same_length [] = refl
same_length (entry ∷ entries) = ap suc (same_length entries)

pub place_kept : {A : Type 0} (key : Key A) (entries : List (Key A × Vec Group A)) → position (same_key key) (keys_of entries) ≡ position (is_of key.0.items key.1) (map entry_kept entries)
place_kept key entries =
    ap (λ (n : ℕ). cond (nat_lt n (length (keys_of entries))) (Some n) None) (place_or_len key entries)
    ∙ ap (λ (n : ℕ). cond (nat_lt (position_or_len (is_of key.0.items key.1) (map entry_kept entries)) n) (Some (position_or_len (is_of key.0.items key.1) (map entry_kept entries))) None) (same_length entries)

-- room for one more
pub room_kept : {A B : Type 0} (f : A → B) (entries : List A) → map f (with_room entries) ≡ with_room (map f entries)
room_kept f entries =
    same (nat_lt (length entries) MAX_KEPT)
    ∙ ap (λ (n : ℕ). cond (nat_lt n MAX_KEPT) (map f entries) (drop 1 (map f entries))) (sym (length-map entries f))
  where
    same : (b : Bool) → map f (cond b entries (drop 1 entries)) ≡ cond b (map f entries) (drop 1 (map f entries))
    same true = refl
    same false = sym (drop-map f 1 entries)

-- there is room for one more
pub room_below : {A : Type 0} (entries : List A) → length entries ≤ MAX_KEPT → length (with_room entries) < MAX_KEPT
room_below entries few = by (nat_lt (length entries) MAX_KEPT) refl
  where
    by : (b : Bool) → nat_lt (length entries) MAX_KEPT ≡ b → length (cond b entries (drop 1 entries)) < MAX_KEPT
    by true is = ltb-true (length entries) MAX_KEPT is
    by false is = omega (arith, few, length-drop 1 entries)

-- and what comes last is at its place
pub at_last : {A : Type 0} (xs : List A) (x : A) → slice_get (xs ++ x ∷ []) (length xs) ≡ Some x
at_last [] x = refl
at_last (y ∷ xs) x = at_last xs x

pub added : {A B : Type 0} (f : A → B) (old middle room all : List A) (e : A) (value : List B) (place : ℕ) → map f old ≡ value → middle ≡ old → room ≡ with_room middle → all ≡ room ++ e ∷ [] → place ≡ length room → (map f all ≡ with_room value ++ f e ∷ []) × (slice_get (map f all) place ≡ Some (f e))
added {A} {B} f old middle room all e value place view middle_is room_is all_is place_is = (kept, at)
  where
    shown : map f room ≡ with_room value
    shown = ap (map f) (room_is ∙ ap with_room middle_is) ∙ room_kept f old ∙ ap with_room view

    split : map f all ≡ map f room ++ f e ∷ []
    split = ap (map f) all_is ∙ map-append f room (e ∷ [])

    kept : map f all ≡ with_room value ++ f e ∷ []
    kept = split ∙ ap (λ (xs : List B). xs ++ f e ∷ []) shown

    at : slice_get (map f all) place ≡ Some (f e)
    at = ap (λ (xs : List B). slice_get xs place) split
        ∙ ap (λ (n : ℕ). slice_get (map f room ++ f e ∷ []) n) (place_is ∙ sym (length-map room f))
        ∙ at_last (map f room) (f e)

pub value_ok : {T E : Type 0} (r : Result T E) (P : Type 0) → OnOk r P → IsOk r → P
value_ok (Ok value) P h ok = h
value_ok (Err error) P h ok = cc

-- the groups at a place are those that are kept there
pub groups_at : {A : Type 0} (entries : List (Key A × Vec Group A)) (place : ℕ) (groups : Vec Group A) (found : Kept) → slice_get (values_of entries) place ≡ Some groups → slice_get (map entry_kept entries) place ≡ Some found → found.groups ≡ groups.items
groups_at {A} entries place groups found value at =
    by (slice_get entries place) (sym (slice_get-map (λ (entry : Key A × Vec Group A). entry.1) entries place) ∙ value) (sym (slice_get-map (entry_kept {A = A}) entries place) ∙ at)
  where
    by : (o : Option (Key A × Vec Group A)) → option_map (λ (entry : Key A × Vec Group A). entry.1) o ≡ Some groups → option_map entry_kept o ≡ Some found → found.groups ≡ groups.items
    by None one other = cc
    by (Some entry) one other =
        let same : entry.1 ≡ groups = cc one in
        let is : entry_kept entry ≡ found = cc other in
        ap (λ (kept : Kept). kept.groups) (sym is) ∙ ap (λ (v : Vec Group A). v.items) same
