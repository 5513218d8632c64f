-- What a new table, and what new rows, do to the names, the ids and the marks.
use Rattle.std.proofs.Common.{◌≡◌, ◌≢◌, ℕ, suc, ◌+◌, ◌<◌, ◌≤◌, Bool, true, false, leb, List, [], ◌∷◌, ◌++◌, length, drop, Option, Some, None, Result, Ok, Err, refl, subst, arith}
use Rattle.std.specs.List.{AllByRecursion}
use Rattle.std.proofs.lemmas.List.{map-append}
use borrow.Author.Tests.{leb-false}
use Rattle.schema_types.specs.declared.Column.{Column}
use Rattle.schema_types.specs.declared.Lit.{Lit}
use Rattle.table_schema.specs.Rows.{row_gives, FitsSchema}
use Rattle.table_schema.proofs.RowLemmas.{row_fits}
use Rattle.table_schema.specs.declared.cells.Cell.{Cell}
use Rattle.table_schema.specs.declared.rows.RowFault.{RowFault}
use Rattle.snapshots.specs.Entries.{Entry}
use Rattle.snapshots.specs.States.{table_named}
use Rattle.snapshots.specs.declared.tables.Table.{Table}
use Rattle.version_store.specs.Faults.{exists_faults, tables_faults, insert_faults, of_row}
use Rattle.version_store.specs.Changes.{cells_or_none, new_entries, inserted}
use Rattle.version_store.specs.Legal.{AscendsTo, AreApart}
use Rattle.version_store.specs.Histories.{marks_of_table}
use Rattle.version_store.specs.declared.faults.CommitKind.{CommitKind}
use Rattle.version_store.specs.declared.limits.TheConstants.{MAX_TABLES}
use Rattle.version_store.proofs.Lists.{both_empty, all_append}
use Rattle.version_store.proofs.Marks.{entry_marks}

-- ---- a new table

pub apart_more : (names : List (List ℕ)) (name : List ℕ) → AreApart names → AllByRecursion (λ (other : List ℕ). other ≢ name) names → AreApart (names ++ name ∷ [])
apart_more [] name apart new = (tt, tt)
apart_more (first ∷ names) name apart new = (all_append (λ (other : List ℕ). first ≢ other) names (name ∷ []) apart.0 (new.0, tt), apart_more names name apart.1 new.1)

pub none_exists : (tables : List Table) (name : List ℕ) → exists_faults tables name ≡ [] → table_named name tables ≡ None
none_exists tables name e = by_case (table_named name tables) refl
  where
    by_case : (given : Option Table) → table_named name tables ≡ given → table_named name tables ≡ None
    by_case None is = is
    by_case (Some table) is = let given = rw is at e in absurd (cc)

pub few_tables : (tables : List Table) → tables_faults tables ≡ [] → length tables < MAX_TABLES
few_tables tables e = by_test (leb MAX_TABLES (length tables)) refl
  where
    by_test : (b : Bool) → leb MAX_TABLES (length tables) ≡ b → length tables < MAX_TABLES
    by_test true is = let given = rw is at e in absurd (cc)
    by_test false is = leb-false _ _ is

-- ---- new rows

pub new_ascend : (columns : List Column) (version id : ℕ) (rows : List (List Lit)) → AscendsTo id (new_entries columns version id rows) (id + length rows)
new_ascend columns version id [] = omega arith
new_ascend columns version id (lits ∷ rows) =
    let same : suc id + length rows ≡ id + length (lits ∷ rows) = omega arith in
    (omega arith, subst (AscendsTo (suc id) (new_entries columns version (suc id) rows)) same (new_ascend columns version (suc id) rows))

pub ascend_from : (low mid : ℕ) (entries : List Entry) (next : ℕ) → low ≤ mid → AscendsTo mid entries next → AscendsTo low entries next
ascend_from low mid [] next h ids = omega (arith, h, ids)
ascend_from low mid (entry ∷ entries) next h ids = (omega (arith, h, ids.0), ids.1)

pub ascend_append : (low mid next : ℕ) (one other : List Entry) → AscendsTo low one mid → AscendsTo mid other next → AscendsTo low (one ++ other) next
ascend_append low mid next [] other h ids = ascend_from low mid other next h ids
ascend_append low mid next (entry ∷ one) other h ids = (h.0, ascend_append (suc entry.id) mid next one other h.1 ids)

abbrev pub EntryFits : List Column → Entry → Type 0
EntryFits columns entry = FitsSchema columns entry.row

given_fits : (columns : List Column) (lits : List Lit) (row : ℕ) (given : Result (List Cell) RowFault) → row_gives columns lits ≡ given → of_row columns row given ≡ [] → FitsSchema columns (cells_or_none given)
given_fits columns lits row (Ok cells) is e = row_fits columns lits cells is
given_fits columns lits row (Err fault) is e = absurd (cc)

pub new_fit : (columns : List Column) (version id row : ℕ) (rows : List (List Lit)) → insert_faults columns row rows ≡ [] → AllByRecursion (EntryFits columns) (new_entries columns version id rows)
new_fit columns version id row [] e = tt
new_fit columns version id row (lits ∷ rows) e =
    let parts = both_empty (of_row columns row (row_gives columns lits)) (insert_faults columns (suc row) rows) e in
    (given_fits columns lits row (row_gives columns lits) refl parts.0, new_fit columns version (suc id) (suc row) rows parts.1)

pub marks_inserted : (table : Table) (version : ℕ) (rows : List (List Lit)) → marks_of_table (inserted table version rows) ≡ marks_of_table table ++ entry_marks table.name (new_entries table.columns version table.next rows)
marks_inserted table version rows = map-append _ table.entries (new_entries table.columns version table.next rows)

-- the faults from a place on
abbrev pub faults_from : List Column → ℕ → List (List Lit) → List CommitKind
faults_from columns place rows = insert_faults columns (suc place) (drop place rows)
