-- Private: the laws in `src/laws.rt`.
-- What the groups of tables are, and what gets one after another answer.
use Rattle.std.specs.Prelude.{◌≡◌, ◌⊎◌, ℕ, ◌<◌, ◌≤◌, List, [], ◌∷◌, map, length, pos, ◌≤ℤ◌}
use Rattle.std.specs.Prelude.{IsPermutation, Result, MatchResult, Some}
use Rattle.std.specs.List.{AllByRecursion, flat_map}
use Rattle.table_schema.specs.declared.cells.Cell.{Cell}
use Rattle.quadtree.specs.Laws.{AreGrouped}
use Rattle.quadtree.specs.declared.group.Group.{Group}
use Rattle.snapshots.specs.States.{rows_of}
use Rattle.snapshots.specs.declared.snapshot.Snapshot.{Snapshot}
use Rattle.snapshots.specs.declared.tables.Partition.{Partition}
use Rattle.snapshots.specs.declared.tables.Table.{Table}
use Rattle.groups.specs.Groups.{CanBeGrouped, IsFaultOf, groups_by, groups_named, points, radii}
use Rattle.groups.specs.Kept.{Kept}
use Rattle.groups.specs.Caches.{AreOfOne, IsCacheOf, IsShown, KeepsAfter, StaysRight}
use Rattle.groups.specs.declared.fault.GroupFault.{GroupFault}
use Rattle.groups.specs.declared.limits.TheConstants.{MAX_KEPT}

-- ---- tables

abbrev pub ids_of : Table → List ℕ
ids_of table = map (λ (row : ℕ × List Cell). row.0) (rows_of table)

abbrev pub members_of : List Group → List ℕ
members_of groups = flat_map (λ (group : Group). group.members) groups

-- a group has at most so many rows of the table, all near its representative, and the ids of the
-- table are the members, each once
pub record IsGrouped (table : Table) (cut : Partition) : Type 0 where
  pub groups : AreGrouped cut.size (radii table cut) (points table cut) (groups_by table cut)
  pub members : IsPermutation (ids_of table) (members_of (groups_by table cut))

abbrev pub TablesAreGrouped : Type 0
TablesAreGrouped = (table : Table) (cut : Partition) → 0 < cut.size → pos 0 ≤ℤ cut.radius.mant
    → IsGrouped table cut

-- ---- histories

-- the longer history shows the same of each version of which the other shows a table
abbrev pub IsLonger : (ℕ → Snapshot) → (ℕ → Snapshot) → Type 0
IsLonger longer shown =
    (version : ℕ) → ((shown version).tables ≡ []) ⊎ (longer version ≡ shown version)

-- a cache of a history is one of each longer history
abbrev pub CachesStayRight : Type 0
CachesStayRight = (longer shown : ℕ → Snapshot) (cache : List Kept) → IsLonger longer shown
    → IsCacheOf shown cache → IsCacheOf longer cache

-- ---- gets one after another

-- a table and a snapshot that were asked, and the answer
pub record Get : Type 0 where
  pub table : List ℕ
  pub snapshot : Snapshot
  pub answer : Result (List Group) GroupFault

-- what was asked is of this history, and can be asked
pub record IsAsked (shown : ℕ → Snapshot) (get : Get) : Type 0 where
  pub current : IsShown shown get.snapshot
  pub cut : CanBeGrouped get.snapshot.tables

-- the answer is the groups of the table
abbrev pub Answers : List Table → Get → Type 0
Answers tables get = MatchResult get.answer
    (λ (groups : List Group). groups_named get.table tables ≡ Some groups)
    (IsFaultOf (groups_named get.table tables))

-- what the contract of `get` promises
pub record Ensures (before : List Kept) (get : Get) (after : List Kept) : Type 0 where
  pub same : Answers get.snapshot.tables get
  pub kept : KeepsAfter before get.table get.snapshot get.answer after
  pub right : StaysRight before get.snapshot after

-- and if
abbrev pub Promises : List Kept → Get → List Kept → Type 0
Promises before get after =
    AreOfOne before get.snapshot → CanBeGrouped get.snapshot.tables → Ensures before get after

-- gets one after another, each of which keeps its promise
abbrev pub Follow : List Kept → List Get → List Kept → Type 0
Follow before [] after = after ≡ before
Follow before (get ∷ gets) after =
    (middle : List Kept) × Promises before get middle × Follow middle gets after

-- each answers the groups that the history's version has, and the cache is right in the end
pub record AreAnswered (shown : ℕ → Snapshot) (gets : List Get) (after : List Kept) : Type 0 where
  pub each : AllByRecursion
      (λ (get : Get). Answers (shown get.snapshot.version).tables get) gets
  pub right : IsCacheOf shown after
  pub few : length after ≤ MAX_KEPT

abbrev pub GetsFromScratch : Type 0
GetsFromScratch = (shown : ℕ → Snapshot) (gets : List Get) (after : List Kept)
    → AllByRecursion (IsAsked shown) gets → Follow [] gets after → AreAnswered shown gets after
