-- Private: `GroupCache` in `src/cache.rt`.
-- What a cache of groups keeps, and when it is right.
use Rattle.std.specs.Prelude.{◌≡◌, ℕ, nat_eq, nat_lt, Bool, ◌&&◌, if◌then◌else◌, List, [], ◌∷◌}
use Rattle.std.specs.Prelude.{◌++◌, length, drop, Some, slice_get, Result, Ok, Err}
use Rattle.std.specs.List.{AllByRecursion, list_any}
use Rattle.std.specs.Str.{bytes_eq}
use Rattle.snapshots.specs.declared.snapshot.Snapshot.{Snapshot}
use Rattle.quadtree.specs.declared.group.Group.{Group}
use Rattle.groups.specs.Groups.{groups_named}
use Rattle.groups.specs.Kept.{Kept}
use Rattle.groups.specs.declared.limits.TheConstants.{MAX_KEPT}
use Rattle.groups.specs.declared.fault.GroupFault.{GroupFault}

-- the groups of a table of a version
abbrev pub is_of : List ℕ → ℕ → Kept → Bool
is_of table version kept = bytes_eq table kept.table && nat_eq version kept.version

-- the oldest goes if no more can be kept
abbrev pub with_room : {A : Type 0} → List A → List A
with_room cache = if nat_lt (length cache) MAX_KEPT then cache else drop 1 cache

-- a table of a version that is kept stays, and a new one comes last
abbrev pub with_groups : Kept → List Kept → List Kept
with_groups new cache = if list_any (is_of new.table new.version) cache then cache
    else with_room cache ++ new ∷ []

-- new groups are kept, and are at this place
pub record IsAdded (before : List Kept) (new : Kept) (place : ℕ) (after : List Kept) : Type 0 where
  pub kept : after ≡ with_room before ++ new ∷ []
  pub at : slice_get after place ≡ Some new

-- the groups of a table of a snapshot
abbrev pub kept_of : List ℕ → Snapshot → List Group → Kept
kept_of table snapshot groups =
    record { table = table; version = snapshot.version; groups = groups }

-- a history shows a snapshot of each version; the groups are those of what it shows
abbrev pub IsRight : (ℕ → Snapshot) → Kept → Type 0
IsRight shown kept = groups_named kept.table (shown kept.version).tables ≡ Some kept.groups

abbrev pub IsCacheOf : (ℕ → Snapshot) → List Kept → Type 0
IsCacheOf shown cache = AllByRecursion (IsRight shown) cache

abbrev pub IsShown : (ℕ → Snapshot) → Snapshot → Type 0
IsShown shown snapshot = snapshot ≡ shown snapshot.version

-- the cache and the snapshot are those of one history
pub record AreOfOne (cache : List Kept) (snapshot : Snapshot) : Type 0 where
  pub shown : ℕ → Snapshot
  pub right : IsCacheOf shown cache
  pub current : IsShown shown snapshot

-- what is kept after the groups of a table of a snapshot were asked: without an answer all is as
-- before
abbrev pub KeepsAfter : List Kept → List ℕ → Snapshot → Result (List Group) GroupFault → List Kept
    → Type 0
KeepsAfter before table snapshot (Ok groups) after =
    after ≡ with_groups (kept_of table snapshot groups) before
KeepsAfter before table snapshot (Err fault) after = after ≡ before

-- they are at this place
pub record IsFoundAt (before : List Kept) (table : List ℕ) (snapshot : Snapshot) (place : ℕ)
    (after : List Kept) : Type 0 where
  pub found : Kept
  pub at : slice_get after place ≡ Some found
  pub due : groups_named table snapshot.tables ≡ Some found.groups
  pub kept : after ≡ with_groups (kept_of table snapshot found.groups) before

-- a right cache is right afterwards
abbrev pub StaysRight : List Kept → Snapshot → List Kept → Type 0
StaysRight before snapshot after = (shown : ℕ → Snapshot) → IsCacheOf shown before
    → IsShown shown snapshot → IsCacheOf shown after
