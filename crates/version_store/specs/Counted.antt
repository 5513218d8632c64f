-- Private: the law `counted_entries` in `src/laws.rt`.
-- How many entries are kept, counted version by version.
use Rattle.std.specs.Prelude.{◌≡◌, ℕ, suc, ◌+◌, ◌-◌, ◌<◌, ◌≤◌, ◌==◌, List, [], ◌∷◌, ◌++◌}
use Rattle.std.specs.Prelude.{length, drop, filter, slice_index_or}
use Rattle.snapshots.specs.States.{State, nothing}
use Rattle.version_store.specs.Histories.{Commit, History, Mark, marks, states_of, after, replay}
use Rattle.version_store.specs.Histories.{last_state, new_version, all_faults, entries_kept}
use Rattle.version_store.specs.Histories.{IsHistory}
use Rattle.version_store.specs.declared.limits.TheConstants.{MAX_ENTRIES}

-- how many entries of a state were written by the commit that made this version
abbrev pub fresh : ℕ → State → ℕ
fresh version state = length (filter (λ (mark : Mark). mark.born == version) (marks state))

-- of each of the states, which are those of the versions from this one on
abbrev pub all_fresh : ℕ → List State → ℕ
all_fresh version [] = 0
all_fresh version (state ∷ states) = fresh version state + all_fresh (suc version) states

-- the entries of the version `low`, and of each later version those that its commit wrote
abbrev pub counted : ℕ → List State → ℕ
counted low states = length (marks (slice_index_or states low nothing))
    + all_fresh (suc low) (drop (suc low) states)

-- a commit of which no change is refused, though its sum of entries may be
abbrev pub IsWilling : List State → Commit → Type 0
IsWilling states commit =
    all_faults 1 (new_version states - 1) (new_version states) (last_state states) commit ≡ []

-- the states with that of a further commit
abbrev pub with_commit : List State → Commit → List State
with_commit states commit = states ++ after states commit ∷ []

abbrev pub low_of : List State → ℕ
low_of states = (last_state states).low

pub record Counts (states : List State) : Type 0 where
  pub low : low_of states < length states
  pub entries : entries_kept states ≡ counted (low_of states) states

-- so many entries are kept after a history, and would be after one more commit; those of its last
-- version alone are no more
pub record CountedHistory (history : History) : Type 0 where
  pub now : Counts (states_of history)
  pub more : (commit : Commit) → IsWilling (states_of history) commit
      → Counts (with_commit (states_of history) commit)
  pub few : length (marks (replay history)) ≤ MAX_ENTRIES

abbrev pub CountedEntries : Type 0
CountedEntries = (history : History) → IsHistory history → CountedHistory history
