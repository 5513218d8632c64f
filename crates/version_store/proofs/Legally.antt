-- Histories of any changes leave legal tables.
use Rattle.std.proofs.Common.{◌≡◌, ℕ, suc, ◌+◌, ◌-◌, ◌≤◌, List, [], ◌∷◌, ◌++◌, length, length-append, refl, sym, subst, arith}
use Rattle.std.specs.Prelude.{map}
use Rattle.std.specs.List.{AllByRecursion}
use Rattle.snapshots.specs.Entries.{Entry}
use Rattle.snapshots.specs.States.{State, nothing}
use Rattle.snapshots.specs.declared.tables.Table.{Table}
use Rattle.version_store.specs.Faults.{change_faults}
use Rattle.version_store.specs.Changes.{changed}
use Rattle.version_store.specs.Histories.{Commit, History, Mark, above, numbered, last_state, new_version, insert_count, entries_kept, after, after_changes, all_faults, states_after, replay, commit_faults, AreAccepted, IsHistory}
use Rattle.version_store.specs.Legal.{HasColumns, HaveColumns, IsLegal, AreLegal}
use Rattle.version_store.specs.Counted.{IsWilling}
use Rattle.version_store.specs.declared.changes.Change.{Change}
use Rattle.version_store.specs.declared.faults.CommitKind.TheVariants.{LimitCommit, LimitRows, LimitVersions}
use Rattle.version_store.specs.declared.limits.TheConstants.{MAX_COMMIT_ROWS, MAX_ENTRIES, MAX_VERSION}
use Rattle.version_store.proofs.Lists.{both_empty, map_empty, all_map}
use Rattle.version_store.proofs.Marks.{HasIds, last_more, entry_marks}
use Rattle.version_store.proofs.Changing.{Marked, names_changed, few_changed, ids_changed, marks_changed}
use Rattle.version_store.proofs.Fitting.{Fits, fits_changed}

-- ---- a change

abbrev pub BornBy : ℕ → Mark → Type 0
BornBy version mark = mark.born ≤ version

born_marks : (version : ℕ) (name : List ℕ) (entries : List Entry) → AllByRecursion (λ (entry : Entry). entry.born ≤ version) entries → AllByRecursion (BornBy version) (entry_marks name entries)
born_marks version name [] all = tt
born_marks version name (entry ∷ entries) all = (all.0, born_marks version name entries all.1)

marks_born : (version : ℕ) (name : List ℕ) (entries : List Entry) → AllByRecursion (BornBy version) (entry_marks name entries) → AllByRecursion (λ (entry : Entry). entry.born ≤ version) entries
marks_born version name [] all = tt
marks_born version name (entry ∷ entries) all = (all.0, marks_born version name entries all.1)

legal_each : (version : ℕ) (tables : List Table) → AllByRecursion HasIds tables → AllByRecursion Fits tables → AllByRecursion (Marked (BornBy version)) tables → AllByRecursion (IsLegal version) tables
legal_each version [] ids fits born = tt
legal_each version (table ∷ tables) ids fits born = (
  record { columns = fits.0.columns; ids = ids.0; rows = fits.0.rows; born = marks_born version table.name table.entries born.0 },
  legal_each version tables ids.1 fits.1 born.1,
)

pub legal_change : (version high : ℕ) (state : State) (change : Change) → AreLegal version state.tables → HasColumns change → change_faults high state change ≡ [] → AreLegal version (changed version state change).tables
legal_change version high state change are some e =
    let ids : AllByRecursion HasIds state.tables = all_map (IsLegal version) HasIds state.tables (λ (table : Table) (is : IsLegal version table). is.ids) are.each in
    let fits : AllByRecursion Fits state.tables = all_map (IsLegal version) Fits state.tables (λ (table : Table) (is : IsLegal version table). record { columns = is.columns; rows = is.rows }) are.each in
    let born : AllByRecursion (Marked (BornBy version)) state.tables = all_map (IsLegal version) (Marked (BornBy version)) state.tables (λ (table : Table) (is : IsLegal version table). born_marks version table.name table.entries is.born) are.each in
    record {
      each = legal_each version (changed version state change).tables (ids_changed version state change ids) (fits_changed version high state change e some fits)
          (marks_changed (BornBy version) version state change (λ mark same. omega (arith, same)) born);
      names = names_changed version high state change e are.names;
      few = few_changed version high state change e are.few;
    }

-- ---- a commit

-- a list of changes without a fault has none in its first change, and none in those after it
pub first_faultless : (number high version : ℕ) (state : State) (change : Change) (rest : List Change) → all_faults number high version state (change ∷ rest) ≡ [] → (change_faults high state change ≡ []) × (all_faults (suc number) high version (changed version state change) rest ≡ [])
first_faultless number high version state change rest e =
    let parts = both_empty (map (numbered number) (change_faults high state change)) (all_faults (suc number) high version (changed version state change) rest) e in
    (map_empty (numbered number) (change_faults high state change) parts.0, parts.1)

legal_commit : (number high version : ℕ) (state : State) (commit : List Change) → AreLegal version state.tables → AllByRecursion HasColumns commit → all_faults number high version state commit ≡ [] → AreLegal version (after_changes version state commit).tables
legal_commit number high version state [] are some e = are
legal_commit number high version state (change ∷ rest) are some e =
    let parts = first_faultless number high version state change rest e in
    legal_commit (suc number) high version (changed version state change) rest (legal_change version high state change are some.0 parts.0) some.1 parts.1

-- what is empty of an accepted commit
pub record IsTaken (states : List State) (commit : Commit) : Type 0 where
  pub version : above MAX_VERSION (new_version states) LimitVersions ≡ []
  pub changes : IsWilling states commit
  pub rows : above MAX_COMMIT_ROWS (insert_count commit) LimitCommit ≡ []
  pub entries : above MAX_ENTRIES (entries_kept (states ++ after states commit ∷ [])) LimitRows ≡ []

pub taken : (states : List State) (commit : Commit) → commit_faults states commit ≡ [] → IsTaken states commit
taken states commit e =
    let own = all_faults 1 (new_version states - 1) (new_version states) (last_state states) commit in
    let rows = above MAX_COMMIT_ROWS (insert_count commit) LimitCommit in
    let entries = above MAX_ENTRIES (entries_kept (states ++ after states commit ∷ [])) LimitRows in
    let first = both_empty (above MAX_VERSION (new_version states) LimitVersions) (own ++ (rows ++ entries)) e in
    let second = both_empty own (rows ++ entries) first.1 in
    let third = both_empty rows entries second.1 in
    record { version = first.0; changes = second.0; rows = third.0; entries = third.1 }

-- ---- a history

pub legal_later : (one other : ℕ) (tables : List Table) → one ≤ other → AreLegal one tables → AreLegal other tables
legal_later one other tables later are = record {
  each = all_map (IsLegal one) (IsLegal other) tables (λ (table : Table) (is : IsLegal one table). record {
    columns = is.columns;
    ids = is.ids;
    rows = is.rows;
    born = all_map (λ (entry : Entry). entry.born ≤ one) (λ (entry : Entry). entry.born ≤ other) table.entries (λ (entry : Entry) (born : entry.born ≤ one). let wide : entry.born ≤ other = omega (arith, later, born) in wide) is.born;
  }) are.each;
  names = are.names;
  few = are.few;
}

legal_all : (version : ℕ) (states : List State) (history : History) → length states ≡ suc version → AreLegal version (last_state states).tables → AreAccepted states history → AllByRecursion (AllByRecursion HasColumns) history → AreLegal (version + length history) (last_state (states_after states history)).tables
legal_all version states [] count are accepted some =
    let same : version ≡ version + 0 = omega arith in
    subst (λ (n : ℕ). AreLegal n (last_state states).tables) same are
legal_all version states (commit ∷ history) count are accepted some =
    let new = after states commit in
    let begun : AreLegal (length states) (last_state states).tables = legal_later version (length states) (last_state states).tables (omega (arith, count)) are in
    let done : AreLegal (length states) new.tables = legal_commit 1 (new_version states - 1) (length states) (last_state states) commit begun some.0 (taken states commit accepted.0).changes in
    let last : AreLegal (suc version) (last_state (states ++ new ∷ [])).tables =
    subst (λ (state : State). AreLegal (suc version) state.tables) (sym (last_more nothing states new)) (subst (λ (n : ℕ). AreLegal n new.tables) count done) in
    let more : length (states ++ new ∷ []) ≡ suc (suc version) = omega (arith, count, length-append states (new ∷ [])) in
    let same : suc version + length history ≡ version + length (commit ∷ history) = omega arith in
    subst (λ (n : ℕ). AreLegal n (last_state (states_after (states ++ new ∷ []) history)).tables) same
    (legal_all (suc version) (states ++ new ∷ []) history more last accepted.1 some.1)

pub legal_history : (history : History) → IsHistory history → HaveColumns history → AreLegal (length history) (replay history).tables
legal_history history accepted some =
    let first : AreLegal 0 nothing.tables = record { each = tt; names = tt; few = omega arith } in
    let same : 0 + length history ≡ length history = omega arith in
    subst (λ (n : ℕ). AreLegal n (replay history).tables) same
    (legal_all 0 (nothing ∷ []) history refl first accepted some)
