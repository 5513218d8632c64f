-- The tables and the histories of the tests.
use Rattle.std.proofs.Common.{◌≡◌, ℕ, ◌+◌, ◌<◌, ◌≤◌, ◌^◌, List, [], ◌∷◌, ◌++◌, Bool, true, false, cond, nat_eq, if◌then◌else◌, Some, None, ℤ, unsigned_abs, sym, ap, subst, ◌∙◌, arith, length-append}
use Rattle.std.specs.List.{AllByRecursion}
use Rattle.std.specs.Str.{bytes_eq}
use Rattle.std.proofs.lemmas.List.{length-map}
use Rattle.table_schema.specs.Rows.{FitsSchema}
use Rattle.table_schema.specs.declared.cells.Cell.{Cell}
use Rattle.table_schema.specs.declared.cells.Cell.TheVariants.{Num}
use Rattle.snapshots.specs.Entries.{Entry, entry_rows}
use Rattle.snapshots.specs.declared.snapshot.Snapshot.{Snapshot}
use Rattle.snapshots.specs.declared.tables.Partition.{Partition}
use Rattle.snapshots.specs.declared.tables.Table.{Table}
use Rattle.groups.specs.Caches.{IsCacheOf, IsShown}
use Rattle.groups.specs.Groups.{CanBeGrouped, IsCut}
use Rattle.groups.specs.Kept.{Kept}
use Rattle.groups.specs.Worked.{AreWorked, two_columns}

pub push_fit : (entries : List Entry) (new : Entry) → AllByRecursion (λ (entry : Entry). FitsSchema two_columns entry.row) entries → FitsSchema two_columns new.row → AllByRecursion (λ (entry : Entry). FitsSchema two_columns entry.row) (entries ++ new ∷ [])
push_fit [] new fit here = (here, tt)
push_fit (entry ∷ entries) new fit here = (fit.0, push_fit entries new fit.1 here)

pub worked_more : (entries : List Entry) (most id born : ℕ) (units : ℤ) (row : List Cell) (after : List Entry) → AreWorked entries most → row ≡ Num units ∷ (Num units ∷ []) → after ≡ entries ++ record { id = id; row = row; born = born } ∷ [] → unsigned_abs units ≤ 10 ^ 12 → AreWorked after (most + 1)
worked_more entries most id born units row after worked is after_is small =
    let new : Entry = record { id = id; row = row; born = born } in
    subst (λ (some : List Entry). AreWorked some (most + 1)) (sym after_is) (record {
      fit = push_fit entries new worked.fit (rw is (small, (small, tt)));
      few = omega (arith, worked.few, length-append entries (new ∷ []));
    })

rows_fit : (entries : List Entry) → AllByRecursion (λ (entry : Entry). FitsSchema two_columns entry.row) entries → AllByRecursion (λ (row : ℕ × List Cell). FitsSchema two_columns row.1) (entry_rows entries)
rows_fit [] fit = tt
rows_fit (entry ∷ entries) fit = (fit.0, rows_fit entries fit.1)

-- a table of these rows can be grouped by a partition that is in range
pub worked_cut : (table : Table) (cut : Partition) (most : ℕ) → table.columns ≡ two_columns → table.partition ≡ Some cut → AreWorked table.entries most → most ≤ 200_000 → 0 < cut.size → cut.size < 2 ^ 32 → cut.radius.scale ≤ 6 → unsigned_abs cut.radius.mant ≤ 10 ^ 12 → CanBeGrouped (table ∷ [])
worked_cut table cut most columns is worked few some size fine near = λ name found other at with.
    let same : table ≡ found = only name found (bytes_eq table.name name) at in
    let own : cut ≡ other = cc (is, same, with) in
    subst (λ (t : Table). IsCut t other) same (subst (IsCut table) own fits)
  where
    only : (name : List ℕ) (found : Table) (b : Bool) → cond b (Some table) None ≡ Some found → table ≡ found
    only name found true e = cc e
    only name found false e = cc e

    fits : IsCut table cut
    fits = record {
      some = some;
      size = size;
      fine = fine;
      near = near;
      rows = rw columns (rows_fit table.entries worked.fit);
      few = rw (length-map {B = ℕ × List Cell} table.entries (λ (entry : Entry). (entry.id, entry.row))) (omega (arith, worked.few, few));
    }

-- ---- histories

-- each version shows these tables
abbrev pub always : List Table → ℕ → Snapshot
always tables version = record { version = version; tables = tables }

-- one version shows the first, and all others the second
abbrev pub either : Snapshot → Snapshot → ℕ → Snapshot
either first second version = if nat_eq version 1 then first else second

pub first_shown : (first second : Snapshot) → first.version ≡ 1 → IsShown (either first second) first
first_shown first second is = sym (ap (λ (version : ℕ). if nat_eq version 1 then first else second) is)

pub second_shown : (first second : Snapshot) → second.version ≡ 2 → IsShown (either first second) second
second_shown first second is = sym (ap (λ (version : ℕ). if nat_eq version 1 then first else second) is)

pub nothing_right : (shown : ℕ → Snapshot) (cache : List Kept) → cache ≡ [] → IsCacheOf shown cache
nothing_right shown cache is = subst (IsCacheOf shown) (sym is) tt

pub always_shown : (tables : List Table) (version : ℕ) (snapshot : Snapshot) → snapshot ≡ always tables version → IsShown (always tables) snapshot
always_shown tables version snapshot is = is ∙ sym (ap (λ (s : Snapshot). always tables s.version) is)

pub always_cut : (tables : List Table) (version : ℕ) (snapshot : Snapshot) → snapshot ≡ always tables version → CanBeGrouped tables → CanBeGrouped snapshot.tables
always_cut tables version snapshot is cut = subst (λ (s : Snapshot). CanBeGrouped s.tables) (sym is) cut

-- a version of one table
pub one_cut : (table shared : Table) (none all : List Table) (version : ℕ) (snapshot : Snapshot) → CanBeGrouped (table ∷ []) → shared ≡ table → none ≡ [] → all ≡ none ++ shared ∷ [] → snapshot ≡ always all version → CanBeGrouped snapshot.tables
one_cut table shared none all version snapshot cut shared_is none_is all_is is =
    let tables_is : all ≡ table ∷ [] = all_is ∙ ap (λ (some : List Table). some ++ shared ∷ []) none_is ∙ ap (λ (t : Table). t ∷ []) shared_is in
    always_cut all version snapshot is (subst CanBeGrouped (sym tables_is) cut)
