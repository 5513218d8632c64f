-- What any change does to the tables: names stay apart, ids ascend, and each entry is one that was there or is new.
use Rattle.std.proofs.Common.{◌≡◌, ℕ, suc, ◌+◌, ◌<◌, ◌≤◌, Bool, true, false, cond, leb, List, [], ◌∷◌, ◌++◌, length, length-append, Option, Some, None, refl, sym, ap, subst, arith}
use Rattle.std.specs.Prelude.{map, filter, not}
use Rattle.std.specs.List.{AllByRecursion}
use Rattle.std.specs.Str.{bytes_eq}
use Rattle.std.proofs.lemmas.List.{map-append, length-map}
use borrow.Author.Tests.{leb-true}
use Rattle.schema_types.specs.declared.Column.{Column}
use Rattle.schema_types.specs.declared.Lit.{Lit}
use Rattle.paql_ast.specs.declared.conditions.Pred.{Pred}
use Rattle.table_schema.specs.Columns.{schema_faults}
use Rattle.snapshots.specs.Entries.{Entry}
use Rattle.snapshots.specs.States.{State, table_named, with_table}
use Rattle.snapshots.specs.declared.tables.Table.{Table}
use Rattle.version_store.specs.Faults.{made_fault, exists_faults, tables_faults, create_faults, change_faults, vacuum_faults}
use Rattle.version_store.specs.Changes.{changed, on_table, on_named, inserted, new_entries, new_table, updated, is_met, put_all, with_entries, cut}
use Rattle.version_store.specs.Legal.{AscendsTo, AreApart}
use Rattle.version_store.specs.Histories.{Mark, marks_of_table}
use Rattle.version_store.specs.declared.changes.Change.{Change}
use Rattle.version_store.specs.declared.changes.Change.TheVariants as changes
use Rattle.version_store.specs.declared.limits.TheConstants.{MAX_TABLES}
use Rattle.version_store.proofs.Lists.{both_empty, map_empty, all_append, all_at, names_equal}
use Rattle.version_store.proofs.Marks.{HasIds, mark_of, entry_marks, name_of_table}
use Rattle.version_store.proofs.Places.{named_found, not_there}
use Rattle.version_store.proofs.Steps.{apart_more, none_exists, few_tables, ascend_from, ascend_append, new_ascend, marks_inserted}

-- ---- a table that is put in the place of the one of its name

all_with : (Q : Table → Type 0) (new : Table) (tables : List Table) → Q new → AllByRecursion Q tables → AllByRecursion Q (with_table new tables)
all_with Q new [] is all = tt
all_with Q new (table ∷ tables) is all = by_test (bytes_eq table.name new.name) refl (all_with Q new tables is all.1)
  where
    by_test : (b : Bool) → bytes_eq table.name new.name ≡ b → AllByRecursion Q (with_table new tables) → AllByRecursion Q (with_table new (table ∷ tables))
    by_test true e rest = rw e (is, all.1)
    by_test false e rest = rw e (all.0, rest)

names_with : (new : Table) (tables : List Table) → map name_of_table (with_table new tables) ≡ map name_of_table tables
names_with new [] = refl
names_with new (table ∷ tables) = by_test (bytes_eq table.name new.name) refl (names_with new tables)
  where
    by_test : (b : Bool) → bytes_eq table.name new.name ≡ b → map name_of_table (with_table new tables) ≡ map name_of_table tables → map name_of_table (with_table new (table ∷ tables)) ≡ map name_of_table (table ∷ tables)
    by_test true e rest = rw e (ap (λ (name : List ℕ). name ∷ map name_of_table tables) (sym (names_equal table.name new.name e)))
    by_test false e rest = rw e (ap (λ (names : List (List ℕ)). table.name ∷ names) rest)

all_named : (Q : Table → Type 0) (name : List ℕ) (tables : List Table) (table : Table) → table_named name tables ≡ Some table → AllByRecursion Q tables → Q table
all_named Q name tables table is all =
    let found = named_found name tables table is in
    all_at Q found.before found.after table (subst (AllByRecursion Q) found.is all)

pub all_on : (Q : Table → Type 0) (state : State) (name : List ℕ) (does : Table → Table) → ((table : Table) → table_named name state.tables ≡ Some table → Q table → Q (does table)) → AllByRecursion Q state.tables → AllByRecursion Q (on_named state name does).tables
all_on Q state name does f all = by_case (table_named name state.tables) refl
  where
    by_case : (given : Option Table) → table_named name state.tables ≡ given → AllByRecursion Q (on_table state given does).tables
    by_case None is = all
    by_case (Some table) is = all_with Q (does table) state.tables (f table is (all_named Q name state.tables table is all)) all

names_on : (state : State) (name : List ℕ) (does : Table → Table) → map name_of_table (on_named state name does).tables ≡ map name_of_table state.tables
names_on state name does = by_case (table_named name state.tables)
  where
    by_case : (given : Option Table) → map name_of_table (on_table state given does).tables ≡ map name_of_table state.tables
    by_case None = refl
    by_case (Some table) = names_with (does table) state.tables

low_on : (state : State) (name : List ℕ) (does : Table → Table) → (on_named state name does).low ≡ state.low
low_on state name does = by_case (table_named name state.tables)
  where
    by_case : (given : Option Table) → (on_table state given does).low ≡ state.low
    by_case None = refl
    by_case (Some table) = refl

-- ---- what CREATE needs

created_parts : (state : State) (name : List ℕ) (columns : List Column) → create_faults state name columns ≡ [] → (schema_faults columns ≡ []) × (exists_faults state.tables name ≡ []) × (tables_faults state.tables ≡ [])
created_parts state name columns e =
    let parts = both_empty (map (made_fault columns) (schema_faults columns)) (exists_faults state.tables name ++ tables_faults state.tables) e in
    let later = both_empty (exists_faults state.tables name) (tables_faults state.tables) parts.1 in
    (map_empty (made_fault columns) (schema_faults columns) parts.0, later.0, later.1)

pub created_schema : (state : State) (name : List ℕ) (columns : List Column) → create_faults state name columns ≡ [] → schema_faults columns ≡ []
created_schema state name columns e = (created_parts state name columns e).0

-- ---- names

pub names_changed : (version high : ℕ) (state : State) (change : Change) → change_faults high state change ≡ [] → AreApart (map name_of_table state.tables) → AreApart (map name_of_table (changed version state change).tables)
names_changed version high state (changes.Create name columns) e apart =
    rw (map-append name_of_table state.tables (new_table name columns ∷ []))
    (apart_more (map name_of_table state.tables) name apart (not_there name state.tables (none_exists state.tables name (created_parts state name columns e).1)))
names_changed version high state (changes.Insert name rows) e apart = subst AreApart (sym (names_on state name (λ (found : Table). inserted found version rows))) apart
names_changed version high state (changes.Update name sets written) e apart = subst AreApart (sym (names_on state name (λ (found : Table). with_entries found (map (updated found version sets written) found.entries)))) apart
names_changed version high state (changes.Delete name written) e apart = subst AreApart (sym (names_on state name (λ (found : Table). with_entries found (filter (λ (entry : Entry). not (is_met found written entry)) found.entries)))) apart
names_changed version high state (changes.Partition name columns size radius) e apart = subst AreApart (sym (names_on state name (λ (found : Table). cut found columns size radius))) apart
names_changed version high state (changes.Vacuum low) e apart = apart

-- ---- how many tables

same_count : (state : State) (name : List ℕ) (does : Table → Table) → length state.tables ≤ MAX_TABLES → length (on_named state name does).tables ≤ MAX_TABLES
same_count state name does few =
    let same = ap length (names_on state name does) in
    omega (arith, few, same, length-map (on_named state name does).tables name_of_table, length-map state.tables name_of_table)

pub few_changed : (version high : ℕ) (state : State) (change : Change) → change_faults high state change ≡ [] → length state.tables ≤ MAX_TABLES → length (changed version state change).tables ≤ MAX_TABLES
few_changed version high state (changes.Create name columns) e few =
    let room : length state.tables < MAX_TABLES = few_tables state.tables (created_parts state name columns e).2 in
    let more : length (state.tables ++ new_table name columns ∷ []) ≡ length state.tables + 1 = length-append state.tables (new_table name columns ∷ []) in
    omega (arith, room, more)
few_changed version high state (changes.Insert name rows) e few = same_count state name _ few
few_changed version high state (changes.Update name sets written) e few = same_count state name _ few
few_changed version high state (changes.Delete name written) e few = same_count state name _ few
few_changed version high state (changes.Partition name columns size radius) e few = same_count state name _ few
few_changed version high state (changes.Vacuum low) e few = few

-- ---- the least version that is kept

vacuum_within : (low high asked : ℕ) → vacuum_faults low high asked ≡ [] → asked ≤ high
vacuum_within low high asked e = by_tests (leb low asked) (leb asked high) refl refl
  where
    by_tests : (one other : Bool) → leb low asked ≡ one → leb asked high ≡ other → asked ≤ high
    by_tests one true first second = leb-true _ _ second
    by_tests true false first second = let given = rw (first, second) at e in absurd (cc)
    by_tests false false first second = let given = rw first at e in absurd (cc)

pub low_changed : (version high : ℕ) (state : State) (change : Change) → change_faults high state change ≡ [] → state.low ≤ high → (changed version state change).low ≤ high
low_changed version high state (changes.Create name columns) e low = low
low_changed version high state (changes.Insert name rows) e low = let same = low_on state name (λ (found : Table). inserted found version rows) in omega (arith, same, low)
low_changed version high state (changes.Update name sets written) e low = let same = low_on state name (λ (found : Table). with_entries found (map (updated found version sets written) found.entries)) in omega (arith, same, low)
low_changed version high state (changes.Delete name written) e low = let same = low_on state name (λ (found : Table). with_entries found (filter (λ (entry : Entry). not (is_met found written entry)) found.entries)) in omega (arith, same, low)
low_changed version high state (changes.Partition name columns size radius) e low = let same = low_on state name (λ (found : Table). cut found columns size radius) in omega (arith, same, low)
low_changed version high state (changes.Vacuum asked) e low = vacuum_within state.low high asked e

-- ---- ids

ascend_same : (f : Entry → Entry) (low : ℕ) (entries : List Entry) (next : ℕ) → ((entry : Entry) → (f entry).id ≡ entry.id) → AscendsTo low entries next → AscendsTo low (map f entries) next
ascend_same f low [] next same ids = ids
ascend_same f low (entry ∷ entries) next same ids = rw (same entry) (ids.0, ascend_same f (suc entry.id) entries next same ids.1)

ascend_filter : (keep : Entry → Bool) (low : ℕ) (entries : List Entry) (next : ℕ) → AscendsTo low entries next → AscendsTo low (filter keep entries) next
ascend_filter keep low [] next ids = ids
ascend_filter keep low (entry ∷ entries) next ids = by_test (keep entry) (ascend_filter keep (suc entry.id) entries next ids.1)
  where
    by_test : (b : Bool) → AscendsTo (suc entry.id) (filter keep entries) next → AscendsTo low (cond b (entry ∷ filter keep entries) (filter keep entries)) next
    by_test true rest = (ids.0, rest)
    by_test false rest = ascend_from low (suc entry.id) (filter keep entries) next (omega (arith, ids.0)) rest

-- one entry or the other
abbrev pub chosen : Bool → Entry → Entry → Entry
chosen b one other = cond b one other

updated_id : (table : Table) (version : ℕ) (sets : List (List ℕ × Lit)) (written : Option Pred) (entry : Entry) → (updated table version sets written entry).id ≡ entry.id
updated_id table version sets written entry = by_test (is_met table written entry)
  where
    by_test : (b : Bool) → (chosen b (record { id = entry.id; row = put_all table.columns sets entry.row; born = version }) entry).id ≡ entry.id
    by_test true = refl
    by_test false = refl

pub ids_changed : (version : ℕ) (state : State) (change : Change) → AllByRecursion HasIds state.tables → AllByRecursion HasIds (changed version state change).tables
ids_changed version state (changes.Create name columns) ids = all_append HasIds state.tables (new_table name columns ∷ []) ids (omega arith, tt)
ids_changed version state (changes.Insert name rows) ids = all_on HasIds state name (λ (found : Table). inserted found version rows)
    (λ table is has. ascend_append 1 table.next (table.next + length rows) table.entries (new_entries table.columns version table.next rows) has (new_ascend table.columns version table.next rows)) ids
ids_changed version state (changes.Update name sets written) ids = all_on HasIds state name (λ (found : Table). with_entries found (map (updated found version sets written) found.entries))
    (λ table is has. ascend_same (updated table version sets written) 1 table.entries table.next (updated_id table version sets written) has) ids
ids_changed version state (changes.Delete name written) ids = all_on HasIds state name (λ (found : Table). with_entries found (filter (λ (entry : Entry). not (is_met found written entry)) found.entries))
    (λ table is has. ascend_filter (λ (entry : Entry). not (is_met table written entry)) 1 table.entries table.next has) ids
ids_changed version state (changes.Partition name columns size radius) ids = all_on HasIds state name (λ (found : Table). cut found columns size radius) (λ table is has. has) ids
ids_changed version state (changes.Vacuum low) ids = ids

-- ---- marks

-- each mark of a table is such a one
abbrev pub Marked : (Mark → Type 0) → Table → Type 0
Marked P table = AllByRecursion P (marks_of_table table)

new_marked : (P : Mark → Type 0) (name : List ℕ) (columns : List Column) (version id : ℕ) (rows : List (List Lit)) → ((mark : Mark) → mark.born ≡ version → P mark) → AllByRecursion P (entry_marks name (new_entries columns version id rows))
new_marked P name columns version id [] new = tt
new_marked P name columns version id (lits ∷ rows) new = (new _ refl, new_marked P name columns version (suc id) rows new)

marked_map : (P : Mark → Type 0) (name : List ℕ) (f : Entry → Entry) (entries : List Entry) → ((entry : Entry) → P (mark_of name entry) → P (mark_of name (f entry))) → AllByRecursion P (entry_marks name entries) → AllByRecursion P (entry_marks name (map f entries))
marked_map P name f [] keeps all = tt
marked_map P name f (entry ∷ entries) keeps all = (keeps entry all.0, marked_map P name f entries keeps all.1)

marked_filter : (P : Mark → Type 0) (name : List ℕ) (keep : Entry → Bool) (entries : List Entry) → AllByRecursion P (entry_marks name entries) → AllByRecursion P (entry_marks name (filter keep entries))
marked_filter P name keep [] all = tt
marked_filter P name keep (entry ∷ entries) all = by_test (keep entry) (marked_filter P name keep entries all.1)
  where
    by_test : (b : Bool) → AllByRecursion P (entry_marks name (filter keep entries)) → AllByRecursion P (entry_marks name (cond b (entry ∷ filter keep entries) (filter keep entries)))
    by_test true rest = (all.0, rest)
    by_test false rest = rest

updated_marked : (P : Mark → Type 0) (table : Table) (version : ℕ) (sets : List (List ℕ × Lit)) (written : Option Pred) → ((mark : Mark) → mark.born ≡ version → P mark) → (entry : Entry) → P (mark_of table.name entry) → P (mark_of table.name (updated table version sets written entry))
updated_marked P table version sets written new entry is = by_test (is_met table written entry)
  where
    by_test : (b : Bool) → P (mark_of table.name (chosen b (record { id = entry.id; row = put_all table.columns sets entry.row; born = version }) entry))
    by_test true = new _ refl
    by_test false = is

pub marks_changed : (P : Mark → Type 0) (version : ℕ) (state : State) (change : Change) → ((mark : Mark) → mark.born ≡ version → P mark) → AllByRecursion (Marked P) state.tables → AllByRecursion (Marked P) (changed version state change).tables
marks_changed P version state (changes.Create name columns) new all = all_append (Marked P) state.tables (new_table name columns ∷ []) all (tt, tt)
marks_changed P version state (changes.Insert name rows) new all = all_on (Marked P) state name (λ (found : Table). inserted found version rows)
    (λ table is has. subst (AllByRecursion P) (sym (marks_inserted table version rows))
    (all_append P (marks_of_table table) (entry_marks table.name (new_entries table.columns version table.next rows)) has (new_marked P table.name table.columns version table.next rows new))) all
marks_changed P version state (changes.Update name sets written) new all = all_on (Marked P) state name (λ (found : Table). with_entries found (map (updated found version sets written) found.entries))
    (λ table is has. marked_map P table.name (updated table version sets written) table.entries (updated_marked P table version sets written new) has) all
marks_changed P version state (changes.Delete name written) new all = all_on (Marked P) state name (λ (found : Table). with_entries found (filter (λ (entry : Entry). not (is_met found written entry)) found.entries))
    (λ table is has. marked_filter P table.name (λ (entry : Entry). not (is_met table written entry)) table.entries has) all
marks_changed P version state (changes.Partition name columns size radius) new all = all_on (Marked P) state name (λ (found : Table). cut found columns size radius) (λ table is has. has) all
marks_changed P version state (changes.Vacuum low) new all = all
