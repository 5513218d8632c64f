-- Histories: lists of commits. A history is replayed from no table on, and each version is the
-- state after one more commit.
use Rattle.std.specs.Prelude.{◌≡◌, ℕ, suc, ◌+◌, ◌-◌, ◌^◌, nat_lt, ◌==◌, ◌&&◌, ◌||◌, Bool, false}
use Rattle.std.specs.Prelude.{min, if◌then◌else◌, List, [], ◌∷◌, ◌++◌, map, flat_map, drop, length}
use Rattle.std.specs.Str.{bytes_eq}
use Rattle.snapshots.specs.Entries.{Entry}
use Rattle.snapshots.specs.States.{State, nothing}
use Rattle.snapshots.specs.declared.tables.Table.{Table}
use Rattle.version_store.specs.Faults.{change_faults}
use Rattle.version_store.specs.Changes.{changed, rows_changed, rows_inserted}
use Rattle.version_store.specs.declared.changes.Change.{Change}
use Rattle.version_store.specs.declared.faults.CommitFault.{CommitFault}
use Rattle.version_store.specs.declared.faults.CommitKind.{CommitKind}
use Rattle.version_store.specs.declared.faults.CommitKind.TheVariants.{LimitVersions, LimitCommit}
use Rattle.version_store.specs.declared.faults.CommitKind.TheVariants.{LimitRows}
use Rattle.version_store.specs.declared.limits.TheConstants.{MAX_VERSION, MAX_COMMIT_ROWS}
use Rattle.version_store.specs.declared.limits.TheConstants.{MAX_ENTRIES}

-- a commit is the list of its changes, and a history the list of its commits
abbrev pub Commit : Type 0
Commit = List Change

abbrev pub History : Type 0
History = List Commit

-- a fault with the number of its change, from 1; 0 is that of the whole commit
abbrev pub numbered : ℕ → CommitKind → CommitFault
numbered number fault = record { change = number; kind = fault }

-- ---- one commit, after the states of all versions so far

-- the version that it makes, the version before it, and the state that it begins with
abbrev pub new_version : List State → ℕ
new_version states = length states

abbrev pub last_of : State → List State → State
last_of first [] = first
last_of first (state ∷ states) = last_of state states

abbrev pub last_state : List State → State
last_state states = last_of nothing states

-- its changes in order, each on the state that those before it leave
abbrev pub after_changes : ℕ → State → List Change → State
after_changes version state [] = state
after_changes version state (change ∷ changes) =
    after_changes version (changed version state change) changes

abbrev pub all_rows : ℕ → State → List Change → ℕ
all_rows version state [] = 0
all_rows version state (change ∷ changes) =
    rows_changed state change + all_rows version (changed version state change) changes

abbrev pub all_faults : ℕ → ℕ → ℕ → State → List Change → List CommitFault
all_faults number high version state [] = []
all_faults number high version state (change ∷ changes) =
    map (numbered number) (change_faults high state change)
    ++ all_faults (suc number) high version (changed version state change) changes

-- the state after a commit, and how many rows it changed
abbrev pub after : List State → Commit → State
after states commit = after_changes (new_version states) (last_state states) commit

abbrev pub row_count : List State → Commit → ℕ
row_count states commit =
    min (all_rows (new_version states) (last_state states) commit) (2 ^ 64 - 1)

-- ---- how many entries are kept

-- an entry of a table, as it counts: a row that is written anew is another one
pub record Mark : Type 0 where
  pub table : List ℕ
  pub id : ℕ
  pub born : ℕ

abbrev pub is_mark : Mark → Mark → Bool
is_mark one other =
    bytes_eq one.table other.table && (one.id == other.id && one.born == other.born)

abbrev pub is_marked : Mark → List Mark → Bool
is_marked mark [] = false
is_marked mark (other ∷ others) = is_mark mark other || is_marked mark others

-- each mark once
abbrev pub distinct : List Mark → List Mark
distinct [] = []
distinct (mark ∷ marks) =
    if is_marked mark marks then distinct marks else mark ∷ distinct marks

abbrev pub marks_of_table : Table → List Mark
marks_of_table table = map
    (λ (entry : Entry). record { table = table.name; id = entry.id; born = entry.born })
    table.entries

abbrev pub marks : State → List Mark
marks state = flat_map marks_of_table state.tables

-- the distinct entries of the versions from the last state's low on
abbrev pub entries_kept : List State → ℕ
entries_kept states = length (distinct (flat_map marks (drop (last_state states).low states)))

-- ---- the faults of a commit

abbrev pub above : ℕ → ℕ → (ℕ → CommitKind) → List CommitFault
above most number fault = if nat_lt most number then numbered 0 (fault number) ∷ [] else []

abbrev pub insert_count : Commit → ℕ
insert_count [] = 0
insert_count (change ∷ changes) = rows_inserted change + insert_count changes

-- in order, of which the first is answered: too many versions, the changes, too many rows
-- inserted, too many entries kept
abbrev pub commit_faults : List State → Commit → List CommitFault
commit_faults states commit = above MAX_VERSION (new_version states) LimitVersions
    ++ (all_faults 1 (new_version states - 1) (new_version states) (last_state states) commit
    ++ (above MAX_COMMIT_ROWS (insert_count commit) LimitCommit
    ++ above MAX_ENTRIES (entries_kept (states ++ after states commit ∷ [])) LimitRows))

-- ---- histories

-- the states of all versions, from version 0 on
abbrev pub states_after : List State → History → List State
states_after states [] = states
states_after states (commit ∷ commits) =
    states_after (states ++ after states commit ∷ []) commits

abbrev pub states_of : History → List State
states_of history = states_after (nothing ∷ []) history

-- the state of the last version
abbrev pub replay : History → State
replay history = last_state (states_of history)

-- no commit has a fault on the states of the versions before it
abbrev pub AreAccepted : List State → History → Type 0
AreAccepted states [] = Unit {0}
AreAccepted states (commit ∷ commits) = (commit_faults states commit ≡ [])
    × AreAccepted (states ++ after states commit ∷ []) commits

abbrev pub IsHistory : History → Type 0
IsHistory history = AreAccepted (nothing ∷ []) history
