-- No row has a large id: a commit inserts at most a million rows, and there are at most a million commits.
use Rattle.std.proofs.Common.{◌≡◌, ℕ, suc, ◌+◌, ◌*◌, ◌^◌, ◌<◌, ◌≤◌, List, [], ◌∷◌, ◌++◌, length, Option, Some, None, refl, sym, subst, arith}
use Rattle.std.specs.Prelude.{map, filter, not}
use Rattle.std.specs.List.{AllByRecursion}
use Rattle.table_schema.specs.declared.cells.Cell.{Cell}
use Rattle.snapshots.specs.Entries.{Entry, entry_rows}
use Rattle.snapshots.specs.States.{State, nothing, rows_named, rows_of, table_named}
use Rattle.snapshots.specs.declared.tables.Table.{Table}
use Rattle.version_store.specs.Answers.{shown}
use Rattle.version_store.specs.Changes.{changed, cut, inserted, is_met, new_table, rows_inserted, updated, with_entries}
use Rattle.version_store.specs.Histories.{History, after, after_changes, insert_count, last_state, replay, states_after, AreAccepted, IsHistory}
use Rattle.version_store.specs.Legal.{AscendsTo, HaveColumns, IsLegal}
use Rattle.version_store.specs.Numbered.{AreNumbered}
use Rattle.version_store.specs.declared.changes.Change.{Change}
use Rattle.version_store.specs.declared.changes.Change.TheVariants as changes
use Rattle.version_store.specs.declared.faults.CommitKind.TheVariants.{LimitCommit}
use Rattle.version_store.specs.declared.limits.TheConstants.{MAX_COMMIT_ROWS, MAX_VERSION}
use Rattle.version_store.proofs.Changing.{all_on}
use Rattle.version_store.proofs.Keeping.{few_versions}
use Rattle.version_store.proofs.Legally.{legal_history, taken}
use Rattle.version_store.proofs.Lists.{all_append, all_map}
use Rattle.version_store.proofs.Longer.{above_none}
use Rattle.version_store.proofs.Marks.{HasIds, last_more}
use Rattle.version_store.proofs.EachVersion.{each_version, table_at}

-- ---- the next id

-- the next id is at most the one after this
abbrev pub NextTo : ℕ → Table → Type 0
NextTo most table = table.next ≤ most + 1

next_more : (most more : ℕ) (tables : List Table) → AllByRecursion (NextTo most) tables → AllByRecursion (NextTo (most + more)) tables
next_more most more tables all = all_map (NextTo most) (NextTo (most + more)) tables (λ (table : Table) (is : NextTo most table). next_later table.next is) all
  where
    next_later : (next : ℕ) → next ≤ most + 1 → next ≤ (most + more) + 1
    next_later next is = omega (arith, is)

next_inserted : (most next count : ℕ) → next ≤ most + 1 → next + count ≤ (most + count) + 1
next_inserted most next count is = omega (arith, is)

next_changed : (version most : ℕ) (state : State) (change : Change) → AllByRecursion (NextTo most) state.tables → AllByRecursion (NextTo (most + rows_inserted change)) (changed version state change).tables
next_changed version most state (changes.Create name columns) all = all_append (NextTo (most + 0)) state.tables (new_table name columns ∷ []) (next_more most 0 state.tables all) (omega arith, tt)
next_changed version most state (changes.Insert name rows) all =
    all_on (NextTo (most + length rows)) state name (λ (found : Table). inserted found version rows)
    (λ table is has. next_inserted most table.next (length rows) (table_at (NextTo most) name state.tables table is all))
    (next_more most (length rows) state.tables all)
next_changed version most state (changes.Update name sets written) all =
    all_on (NextTo (most + 0)) state name (λ (found : Table). with_entries found (map (updated found version sets written) found.entries)) (λ table is has. has) (next_more most 0 state.tables all)
next_changed version most state (changes.Delete name written) all =
    all_on (NextTo (most + 0)) state name (λ (found : Table). with_entries found (filter (λ (entry : Entry). not (is_met found written entry)) found.entries)) (λ table is has. has) (next_more most 0 state.tables all)
next_changed version most state (changes.Partition name columns size radius) all =
    all_on (NextTo (most + 0)) state name (λ (found : Table). cut found columns size radius) (λ table is has. has) (next_more most 0 state.tables all)
next_changed version most state (changes.Vacuum low) all = next_more most 0 state.tables all

next_commit : (version most : ℕ) (state : State) (commit : List Change) → AllByRecursion (NextTo most) state.tables → AllByRecursion (NextTo (most + insert_count commit)) (after_changes version state commit).tables
next_commit version most state [] all = next_more most 0 state.tables all
next_commit version most state (change ∷ rest) all =
    let same : (most + rows_inserted change) + insert_count rest ≡ most + insert_count (change ∷ rest) = omega arith in
    subst (λ (n : ℕ). AllByRecursion (NextTo n) (after_changes version state (change ∷ rest)).tables) same
    (next_commit version (most + rows_inserted change) (changed version state change) rest (next_changed version most state change all))

next_wider : (one other next : ℕ) → one ≤ other → next ≤ one + 1 → next ≤ other + 1
next_wider one other next wide is = omega (arith, wide, is)

next_all : (most : ℕ) (states : List State) (history : History) → AllByRecursion (NextTo most) (last_state states).tables → AreAccepted states history
    → AllByRecursion (NextTo (most + length history * MAX_COMMIT_ROWS)) (last_state (states_after states history)).tables
next_all most states [] all accepted = next_more most (0 * MAX_COMMIT_ROWS) (last_state states).tables all
next_all most states (commit ∷ history) all accepted =
    let new = after states commit in
    let few : insert_count commit ≤ MAX_COMMIT_ROWS = above_none MAX_COMMIT_ROWS (insert_count commit) LimitCommit (taken states commit accepted.0).rows in
    let done : AllByRecursion (NextTo (most + insert_count commit)) new.tables = next_commit (length states) most (last_state states) commit all in
    let within : most + insert_count commit ≤ most + MAX_COMMIT_ROWS = omega (arith, few) in
    let wide : AllByRecursion (NextTo (most + MAX_COMMIT_ROWS)) new.tables =
    all_map (NextTo (most + insert_count commit)) (NextTo (most + MAX_COMMIT_ROWS)) new.tables
    (λ (table : Table) (is : NextTo (most + insert_count commit) table). next_wider (most + insert_count commit) (most + MAX_COMMIT_ROWS) table.next within is) done in
    let last : AllByRecursion (NextTo (most + MAX_COMMIT_ROWS)) (last_state (states ++ new ∷ [])).tables =
    subst (λ (state : State). AllByRecursion (NextTo (most + MAX_COMMIT_ROWS)) state.tables) (sym (last_more nothing states new)) wide in
    let same : (most + MAX_COMMIT_ROWS) + length history * MAX_COMMIT_ROWS ≡ most + length (commit ∷ history) * MAX_COMMIT_ROWS = omega arith in
    subst (λ (n : ℕ). AllByRecursion (NextTo n) (last_state (states_after (states ++ new ∷ []) history)).tables) same
    (next_all (most + MAX_COMMIT_ROWS) (states ++ new ∷ []) history last accepted.1)

-- ---- the ids of a table's rows

reaches : (low next : ℕ) (entries : List Entry) → AscendsTo low entries next → low ≤ next
reaches low next [] ids = ids
reaches low next (entry ∷ entries) ids = omega (arith, ids.0, reaches (suc entry.id) next entries ids.1)

first_rows : (low next : ℕ) (entries : List Entry) → 0 < low → AscendsTo low entries next → AllByRecursion (λ (row : ℕ × List Cell). 0 < row.0) (entry_rows entries)
first_rows low next [] some ids = tt
first_rows low next (entry ∷ entries) some ids = (omega (arith, some, ids.0), first_rows (suc entry.id) next entries (omega arith) ids.1)

small_rows : (low next most : ℕ) (entries : List Entry) → AscendsTo low entries next → next ≤ most + 1 → AllByRecursion (λ (row : ℕ × List Cell). row.0 ≤ most) (entry_rows entries)
small_rows low next most [] ids small = tt
small_rows low next most (entry ∷ entries) ids small =
    let here : entry.id ≤ most = omega (arith, reaches (suc entry.id) next entries ids.1, small) in
    (here, small_rows (suc entry.id) next most entries ids.1 small)

-- ---- a history

abbrev pub AreTablesNumbered : State → Type 0
AreTablesNumbered state = AllByRecursion (λ (table : Table). AreNumbered (rows_of table)) state.tables

numbered_tables : (most : ℕ) (tables : List Table) → most ≤ 10 ^ 12 → AllByRecursion HasIds tables → AllByRecursion (NextTo most) tables → AllByRecursion (λ (table : Table). AreNumbered (rows_of table)) tables
numbered_tables most [] few ids next = tt
numbered_tables most (table ∷ tables) few ids next = (
  record {
    some = first_rows 1 table.next table.entries (omega arith) ids.0;
    most = small_rows 1 table.next (10 ^ 12) table.entries ids.0 (next_wider most (10 ^ 12) table.next few next.0);
  },
  numbered_tables most tables few ids.1 next.1,
)

a_million_each : (count : ℕ) → count ≤ MAX_VERSION → 0 + count * MAX_COMMIT_ROWS ≤ 10 ^ 12
a_million_each count few = omega (arith, few)

pub numbered_last : (history : History) → IsHistory history → HaveColumns history → AreTablesNumbered (replay history)
numbered_last history accepted columns =
    let legal = legal_history history accepted columns in
    let ids : AllByRecursion HasIds (replay history).tables = all_map (IsLegal (length history)) HasIds (replay history).tables (λ (table : Table) (is : IsLegal (length history) table). is.ids) legal.each in
    numbered_tables (0 + length history * MAX_COMMIT_ROWS) (replay history).tables (a_million_each (length history) (few_versions history accepted)) ids
    (next_all 0 (nothing ∷ []) history tt accepted)

numbered_rows : (name : List ℕ) (rows : List (ℕ × List Cell)) (tables : List Table) → AllByRecursion (λ (table : Table). AreNumbered (rows_of table)) tables → rows_named name tables ≡ Some rows → AreNumbered rows
numbered_rows name rows tables all is = by_case (table_named name tables) refl
  where
    by_case : (given : Option Table) → table_named name tables ≡ given → AreNumbered rows
    by_case None none = let given = rw none at is in absurd (cc)
    by_case (Some table) found =
        let same : rows_of table ≡ rows = let given = rw found at is in cc in
        subst AreNumbered same (table_at (λ (table : Table). AreNumbered (rows_of table)) name tables table found all)

pub numbered_history : (history : History) (version : ℕ) (name : List ℕ) (rows : List (ℕ × List Cell)) → IsHistory history → HaveColumns history → rows_named name (shown history version).tables ≡ Some rows → AreNumbered rows
numbered_history history version name rows accepted columns is =
    numbered_rows name rows (shown history version).tables (each_version AreTablesNumbered history version numbered_last accepted columns) is
