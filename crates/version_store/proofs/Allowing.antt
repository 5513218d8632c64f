-- Each table of a version has a partition that a change may make, or none.
use Rattle.std.proofs.Common.{◌≡◌, ℕ, suc, ◌+◌, ◌-◌, ◌<◌, ◌≤◌, Bool, true, false, leb, ltb, is_some, List, [], ◌∷◌, ◌++◌, length, Option, Some, None, refl, sym, ap, ◌∙◌, subst, arith}
use Rattle.std.specs.Prelude.{map, filter, not}
use Rattle.std.specs.List.{AllByRecursion, position_from}
use Rattle.std.specs.Str.{bytes_eq}
use Rattle.std.proofs.lemmas.List.{length-map}
use Rattle.std.specs.Option.{option_map}
use borrow.Author.Tests.{leb-true, ltb-false}
use Rattle.pq_base.specs.declared.scaled.Scaled.{Scaled}
use Rattle.schema_types.specs.declared.Column.{Column}
use Rattle.paql_bind.specs.Names.{number_faults, number_or_zero}
use Rattle.paql_bind.proofs.SoundConditions.{number_good}
use Rattle.snapshots.specs.Entries.{Entry}
use Rattle.snapshots.specs.States.{State, nothing, table_named, rows_of}
use Rattle.snapshots.specs.declared.tables.Partition.{Partition}
use Rattle.snapshots.specs.declared.tables.Table.{Table}
use Rattle.version_store.specs.Answers.{shown}
use Rattle.version_store.specs.Changes.{changed, cut, inserted, is_met, new_table, place_or_zero, updated, with_entries}
use Rattle.version_store.specs.Faults.{bound_faults, change_faults, column_named, group_faults, no_column, partition_faults, size_faults, text_faults, twice, width_faults}
use Rattle.version_store.specs.Histories.{History, after, after_changes, all_faults, last_state, new_version, replay, states_after, AreAccepted, IsHistory}
use Rattle.version_store.specs.Laws.{AreRows, HaveRows}
use Rattle.version_store.specs.Legal.{HaveColumns}
use Rattle.version_store.specs.Partitioned.{IsAllowed, IsPartitioned}
use Rattle.version_store.specs.declared.changes.Change.{Change}
use Rattle.version_store.specs.declared.changes.Change.TheVariants as changes
use Rattle.version_store.specs.declared.faults.CommitKind.TheVariants.{Binding}
use Rattle.version_store.specs.declared.limits.TheConstants.{MAX_PARTITION_COLUMNS, MAX_PARTITION_SIZE}
use Rattle.version_store.proofs.Changing.{all_on}
use Rattle.version_store.proofs.Counting.{counted_history}
use Rattle.version_store.proofs.Having.{have_rows}
use Rattle.version_store.proofs.Legally.{first_faultless, legal_history, taken}
use Rattle.version_store.proofs.Lists.{both_empty, map_empty, all_append}
use Rattle.version_store.proofs.Marks.{last_more}
use Rattle.version_store.proofs.Places.{columns_named}
use Rattle.version_store.proofs.EachVersion.{each_version, table_at}

-- ---- the places of columns

has_column : (columns : List Column) (name : List ℕ) → no_column columns name ≡ [] → is_some (column_named name columns) ≡ true
has_column columns name e = by_test (is_some (column_named name columns)) refl
  where
    by_test : (b : Bool) → is_some (column_named name columns) ≡ b → is_some (column_named name columns) ≡ true
    by_test true is = is
    by_test false is = let given = rw is at e in absurd (cc)

place_below : (name : List ℕ) (start : ℕ) (columns : List Column) → is_some (column_named name columns) ≡ true → number_or_zero (position_from (λ (column : Column). bytes_eq column.name name) start columns) < start + length columns
place_below name start [] some = absurd (cc)
place_below name start (column ∷ columns) some = by_test (bytes_eq column.name name) refl (λ given. place_below name (start + 1) columns given)
  where
    by_test : (b : Bool) → bytes_eq column.name name ≡ b → (is_some (column_named name columns) ≡ true → number_or_zero (position_from (λ (column : Column). bytes_eq column.name name) (start + 1) columns) < (start + 1) + length columns) → number_or_zero (position_from (λ (column : Column). bytes_eq column.name name) start (column ∷ columns)) < start + length (column ∷ columns)
    by_test true is rest = rw is (omega arith)
    by_test false is rest = rw is (omega (arith, rest (rw is at some)))

places_below : (columns : List Column) (before names : List (List ℕ)) → group_faults columns before names ≡ [] → AllByRecursion (λ (place : ℕ). place < length columns) (map (place_or_zero columns) names)
places_below columns before [] e = tt
places_below columns before (name ∷ names) e =
    let rest = group_faults columns (before ++ name ∷ []) names in
    let text = text_faults name (column_named name columns) in
    let first = both_empty (no_column columns name) (text ++ (twice before name ++ rest)) e in
    let second = both_empty text (twice before name ++ rest) first.1 in
    let third = both_empty (twice before name) rest second.1 in
    let below : place_or_zero columns name < 0 + length columns = place_below name 0 columns (has_column columns name first.0) in
    (omega (arith, below), places_below columns (before ++ name ∷ []) names third.1)

-- ---- the limits of a partition

width_allowed : (count : ℕ) → width_faults count ≡ [] → count ≤ MAX_PARTITION_COLUMNS
width_allowed count e = by_test (ltb MAX_PARTITION_COLUMNS count) refl
  where
    by_test : (b : Bool) → ltb MAX_PARTITION_COLUMNS count ≡ b → count ≤ MAX_PARTITION_COLUMNS
    by_test true is = let given = rw is at e in absurd (cc)
    by_test false is = ltb-false _ _ is

size_allowed : (size : ℕ) → size_faults size ≡ [] → (0 < size) × (size ≤ MAX_PARTITION_SIZE)
size_allowed size e = by_tests (leb 1 size) (leb size MAX_PARTITION_SIZE) refl refl
  where
    by_tests : (one other : Bool) → leb 1 size ≡ one → leb size MAX_PARTITION_SIZE ≡ other → (0 < size) × (size ≤ MAX_PARTITION_SIZE)
    by_tests true true first second = (leb-true 1 size first, leb-true size MAX_PARTITION_SIZE second)
    by_tests true false first second = let given = rw (first, second) at e in absurd (cc)
    by_tests false other first second = let given = rw first at e in absurd (cc)

allowed_cut : (columns : List Column) (names : List (List ℕ)) (size : ℕ) (radius : Scaled) → partition_faults columns names size radius ≡ [] → IsAllowed columns (record { columns = map (place_or_zero columns) names; size = size; radius = radius })
allowed_cut columns names size radius e =
    let number = bound_faults (number_faults radius) in
    let first = both_empty (group_faults columns [] names) (width_faults (length names) ++ (size_faults size ++ number)) e in
    let second = both_empty (width_faults (length names)) (size_faults size ++ number) first.1 in
    let third = both_empty (size_faults size) number second.1 in
    let sizes = size_allowed size third.0 in
    let good = number_good radius (map_empty Binding (number_faults radius) third.1) in
    let width : length names ≤ MAX_PARTITION_COLUMNS = width_allowed (length names) second.0 in
    let count : length (map (place_or_zero columns) names) ≡ length names = length-map names (place_or_zero columns) in
    record {
      some = sizes.0;
      most = sizes.1;
      fine = good.0;
      near = good.1;
      few = omega (arith, width, count);
      places = places_below columns [] names first.0;
    }

-- ---- a change

-- a partition that is allowed, if there is one
abbrev pub IsAllowedOf : List Column → Option Partition → Type 0
IsAllowedOf columns None = Unit {0}
IsAllowedOf columns (Some cut) = IsAllowed columns cut

abbrev pub Allowed : Table → Type 0
Allowed table = IsAllowedOf table.columns table.partition

allowed_changed : (version high : ℕ) (state : State) (change : Change) → change_faults high state change ≡ [] → AllByRecursion Allowed state.tables → AllByRecursion Allowed (changed version state change).tables
allowed_changed version high state (changes.Create name columns) e all = all_append Allowed state.tables (new_table name columns ∷ []) all (tt, tt)
allowed_changed version high state (changes.Insert name rows) e all = all_on Allowed state name (λ (found : Table). inserted found version rows) (λ table is has. has) all
allowed_changed version high state (changes.Update name sets written) e all =
    all_on Allowed state name (λ (found : Table). with_entries found (map (updated found version sets written) found.entries)) (λ table is has. has) all
allowed_changed version high state (changes.Delete name written) e all =
    all_on Allowed state name (λ (found : Table). with_entries found (filter (λ (entry : Entry). not (is_met found written entry)) found.entries)) (λ table is has. has) all
allowed_changed version high state (changes.Partition name columns size radius) e all =
    all_on Allowed state name (λ (found : Table). cut found columns size radius)
    (λ table is has.
    let faultless : partition_faults table.columns columns size radius ≡ [] = rw is at e in
    allowed_cut table.columns columns size radius faultless) all
allowed_changed version high state (changes.Vacuum low) e all = all

-- ---- a commit, and a history

allowed_commit : (number high version : ℕ) (state : State) (commit : List Change) → AllByRecursion Allowed state.tables → all_faults number high version state commit ≡ [] → AllByRecursion Allowed (after_changes version state commit).tables
allowed_commit number high version state [] all e = all
allowed_commit number high version state (change ∷ rest) all e =
    let parts = first_faultless number high version state change rest e in
    allowed_commit (suc number) high version (changed version state change) rest (allowed_changed version high state change parts.0 all) parts.1

allowed_all : (states : List State) (history : History) → AllByRecursion Allowed (last_state states).tables → AreAccepted states history → AllByRecursion Allowed (last_state (states_after states history)).tables
allowed_all states [] all accepted = all
allowed_all states (commit ∷ history) all accepted =
    let new = after states commit in
    let done : AllByRecursion Allowed new.tables = allowed_commit 1 (new_version states - 1) (new_version states) (last_state states) commit all (taken states commit accepted.0).changes in
    let last : AllByRecursion Allowed (last_state (states ++ new ∷ [])).tables =
    subst (λ (state : State). AllByRecursion Allowed state.tables) (sym (last_more nothing states new)) done in
    allowed_all (states ++ new ∷ []) history last accepted.1

-- ---- each version

-- the partitions are allowed, and the rows can be asked
pub record IsGroupable (state : State) : Type 0 where
  pub cuts : AllByRecursion Allowed state.tables
  pub rows : HaveRows state.tables

groupable_last : (history : History) → IsHistory history → HaveColumns history → IsGroupable (replay history)
groupable_last history accepted columns = record {
  cuts = allowed_all (nothing ∷ []) history tt accepted;
  rows = have_rows (length history) (replay history).tables (legal_history history accepted columns) (counted_history history accepted).few;
}

named_rows : (name : List ℕ) (tables : List Table) (table : Table) → table_named name tables ≡ Some table → HaveRows tables → AreRows table.columns (rows_of table)
named_rows name tables table is have =
    have name table.columns (rows_of table) (columns_named name tables ∙ ap (option_map (λ (table : Table). table.columns)) is) (ap (option_map rows_of) is)

partitioned : (table : Table) (cut : Partition) → Allowed table → table.partition ≡ Some cut → AreRows table.columns (rows_of table) → IsPartitioned table cut
partitioned table cut allowed is rows = record { allowed = subst (IsAllowedOf table.columns) is allowed; rows = rows }

pub partitioned_history : (history : History) (version : ℕ) (name : List ℕ) (table : Table) (cut : Partition) → IsHistory history → HaveColumns history → table_named name (shown history version).tables ≡ Some table → table.partition ≡ Some cut → IsPartitioned table cut
partitioned_history history version name table cut accepted columns found is =
    let tables = (shown history version).tables in
    let groupable = each_version IsGroupable history version groupable_last accepted columns in
    partitioned table cut (table_at Allowed name tables table found groupable.cuts) is (named_rows name tables table found groupable.rows)
