-- What a cache keeps, and that it stays right.
use Rattle.std.proofs.Common.{◌≡◌, ℕ, zero, suc, ◌+◌, ◌<◌, ◌≤◌, List, [], ◌∷◌, ◌++◌, length, get_or, drop, Bool, true, false, not, cond, ◌||◌, nat_eq, nat_lt, Some, None, refl, sym, ap, subst, ◌∙◌, arith, length-append}
use Rattle.std.specs.List.{list_any, position, position_or_len}
use Rattle.std.specs.Str.{bytes_eq}
use Rattle.std.proofs.lemmas.Bool.{and_parts, eqb-true, ltb-false}
use Rattle.std.proofs.lemmas.List.Folds.{list_any_at}
use Rattle.std.proofs.lemmas.List.Quantifiers.{position-Some}
use Rattle.std.proofs.lemmas.Option.{slice_get-get_or}
use Rattle.std.proofs.lemmas.Slice.Eq.{bytes_eq-Decides}
use Rattle.snapshots.specs.declared.snapshot.Snapshot.{Snapshot}
use Rattle.quadtree.specs.declared.group.Group.{Group}
use Rattle.groups.specs.Groups.{groups_named}
use Rattle.groups.specs.Kept.{Kept}
use Rattle.groups.specs.Caches.{AreOfOne, IsAdded, IsCacheOf, IsFoundAt, IsRight, IsShown, StaysRight, is_of, kept_of, with_groups, with_room}
use Rattle.groups.specs.declared.limits.TheConstants.{MAX_KEPT}
use Rattle.groups.proofs.PairLemmas.{room_below}

-- ---- places

abbrev pub no_groups : Kept
no_groups = record { table = []; version = 0; groups = [] }

past_any : {A : Type 0} (test : A → Bool) (xs : List A) → length xs ≤ position_or_len test xs → list_any test xs ≡ false
past_any test [] h = refl
past_any {A} test (x ∷ xs) h = by (past_any test xs) (test x) refl
  where
    by : (length xs ≤ position_or_len test xs → list_any test xs ≡ false) → (b : Bool) → test x ≡ b → (test x || list_any test xs) ≡ false
    by rest true is =
        let here : position_or_len test (x ∷ xs) ≡ 0 = ap (λ (b : Bool). cond (not b) (1 + position_or_len test xs) 0) is in
        absurd (omega (arith, h, here))
    by rest false is =
        let here : position_or_len test (x ∷ xs) ≡ 1 + position_or_len test xs = ap (λ (b : Bool). cond (not b) (1 + position_or_len test xs) 0) is in
        ap (λ (b : Bool). b || list_any test xs) is ∙ rest (omega (arith, h, here))

pub none_any : {A : Type 0} (test : A → Bool) (xs : List A) → position test xs ≡ None → list_any test xs ≡ false
none_any {A} test xs none = past_any test xs (by (nat_lt (position_or_len test xs) (length xs)) refl none)
  where
    by : (b : Bool) → nat_lt (position_or_len test xs) (length xs) ≡ b → cond b (Some (position_or_len test xs)) None ≡ None → length xs ≤ position_or_len test xs
    by true is e = cc
    by false is e = ltb-false (position_or_len test xs) (length xs) is

-- what is at a place is right
right_at : (shown : ℕ → Snapshot) (cache : List Kept) (place : ℕ) → place < length cache → IsCacheOf shown cache → IsRight shown (get_or cache place no_groups)
right_at shown [] place within right = absurd (omega (arith, within))
right_at shown (kept ∷ cache) zero within right = right.0
right_at shown (kept ∷ cache) (suc place) within right = right_at shown cache place (omega (arith, within)) right.1

-- what is kept for a table of a snapshot is its groups
pub found_right : (cache : List Kept) (table : List ℕ) (snapshot : Snapshot) (place : ℕ) → position (is_of table snapshot.version) cache ≡ Some place → AreOfOne cache snapshot → IsFoundAt cache table snapshot place cache
found_right cache table snapshot place at one = record { found = kept; at = slice_get-get_or cache place no_groups spot.0; due = due; kept = sym (ap (λ (b : Bool). cond b cache (with_room cache ++ kept_of table snapshot kept.groups ∷ [])) is_kept) }
  where
    spot : (place < length cache) × (is_of table snapshot.version (get_or cache place no_groups) ≡ true) × ((k : ℕ) → k < place → is_of table snapshot.version (get_or cache k no_groups) ≡ false)
    spot = position-Some (is_of table snapshot.version) cache place no_groups at

    kept : Kept
    kept = get_or cache place no_groups

    parts : (bytes_eq table kept.table ≡ true) × (nat_eq snapshot.version kept.version ≡ true)
    parts = and_parts (bytes_eq table kept.table) (nat_eq snapshot.version kept.version) spot.1

    table_is : table ≡ kept.table
    table_is = (bytes_eq-Decides table kept.table).0 parts.0

    version_is : snapshot.version ≡ kept.version
    version_is = eqb-true snapshot.version kept.version parts.1

    right : groups_named kept.table (one.shown kept.version).tables ≡ Some kept.groups
    right = right_at one.shown cache place spot.0 one.right

    due : groups_named table snapshot.tables ≡ Some kept.groups
    due = ap (λ (name : List ℕ). groups_named name snapshot.tables) table_is
        ∙ ap (λ (s : Snapshot). groups_named kept.table s.tables) (one.current ∙ ap one.shown version_is)
        ∙ right

    is_kept : list_any (is_of table snapshot.version) cache ≡ true
    is_kept = list_any_at (is_of table snapshot.version) cache place no_groups spot.0 spot.1

-- new groups are those of a table of a snapshot
pub added_right : (before : List Kept) (table : List ℕ) (snapshot : Snapshot) (new : Kept) (place : ℕ) (after : List Kept) → list_any (is_of table snapshot.version) before ≡ false → new ≡ kept_of table snapshot new.groups → groups_named table snapshot.tables ≡ Some new.groups → IsAdded before new place after → IsFoundAt before table snapshot place after
added_right before table snapshot new place after absent new_is due is =
    record { found = new; at = is.at; due = due; kept = is.kept ∙ ap (λ (last : Kept). with_room before ++ last ∷ []) new_is ∙ sym (ap (λ (b : Bool). cond b before (with_room before ++ kept_of table snapshot new.groups ∷ [])) absent) }

-- ---- right caches

room_right : (shown : ℕ → Snapshot) (cache : List Kept) → IsCacheOf shown cache → IsCacheOf shown (with_room cache)
room_right shown cache right = by (nat_lt (length cache) MAX_KEPT)
  where
    tail : (cache : List Kept) → IsCacheOf shown cache → IsCacheOf shown (drop 1 cache)
    tail [] right = tt
    tail (kept ∷ cache) right = right.1

    by : (b : Bool) → IsCacheOf shown (cond b cache (drop 1 cache))
    by true = right
    by false = tail cache right

push_right : (shown : ℕ → Snapshot) (cache : List Kept) (new : Kept) → IsCacheOf shown cache → IsRight shown new → IsCacheOf shown (cache ++ new ∷ [])
push_right shown [] new right here = (here, tt)
push_right shown (kept ∷ cache) new right here = (right.0, push_right shown cache new right.1 here)

pub stays_right : (before : List Kept) (table : List ℕ) (snapshot : Snapshot) (groups : List Group) (after : List Kept) → groups_named table snapshot.tables ≡ Some groups → after ≡ with_groups (kept_of table snapshot groups) before → StaysRight before snapshot after
stays_right before table snapshot groups after due is = λ shown right current.
    subst (IsCacheOf shown) (sym is) (by shown right current (list_any (is_of table snapshot.version) before))
  where
    by : (shown : ℕ → Snapshot) → IsCacheOf shown before → IsShown shown snapshot → (b : Bool) → IsCacheOf shown (cond b before (with_room before ++ kept_of table snapshot groups ∷ []))
    by shown right current true = right
    by shown right current false =
        push_right shown (with_room before) (kept_of table snapshot groups) (room_right shown before right)
        (ap (λ (s : Snapshot). groups_named table s.tables) (sym current) ∙ due)

-- at most so many are kept
pub few_after : (before : List Kept) (new : Kept) → length before ≤ MAX_KEPT → length (with_groups new before) ≤ MAX_KEPT
few_after before new few = by (list_any (is_of new.table new.version) before)
  where
    by : (b : Bool) → length (cond b before (with_room before ++ new ∷ [])) ≤ MAX_KEPT
    by true = few
    by false = let below = room_below before few in omega (arith, below, length-append (with_room before) (new ∷ []))
