-- Private: `VersionStore` in `src/store.rt`.
-- What a store keeps beside its history.
use Rattle.std.specs.Prelude.{◌≡◌, ℕ, suc, ◌+◌, List, [], ◌∷◌, ◌++◌, drop, length}
use Rattle.std.specs.List.{AllByRecursion}
use Rattle.snapshots.specs.States.{State}
use Rattle.snapshots.specs.declared.tables.Table.{Table}
use Rattle.version_store.specs.Histories.{Commit, History, replay, states_of, after, row_count}
use Rattle.version_store.specs.Histories.{commit_faults, IsHistory}
use Rattle.version_store.specs.Counted.{fresh}
use Rattle.version_store.specs.Laws.{HaveRows}
use Rattle.version_store.specs.Legal.{HaveColumns}
use Rattle.version_store.specs.declared.versions.Kept.{Kept}

-- what a version shows, and how many of its entries its commit wrote
abbrev pub kept_of : ℕ → State → Kept
kept_of version state = record {
  snapshot = record { version = version; tables = state.tables };
  fresh = fresh version state;
}

-- the versions from this one on
abbrev pub kept_from : ℕ → List State → List Kept
kept_from version [] = []
kept_from version (state ∷ states) = kept_of version state ∷ kept_from (suc version) states

pub record IsStored (history : History) (shown : List Kept) (least : ℕ) : Type 0 where
  pub accepted : IsHistory history
  pub columns : HaveColumns history
  pub low : least ≡ (replay history).low
  pub kept : shown ≡ kept_from least (drop least (states_of history))
  pub rows : AllByRecursion (λ (one : Kept). HaveRows one.snapshot.tables) shown

-- the states of a history, with one more
abbrev pub with_tables : History → ℕ → List Table → List State
with_tables history low tables =
    states_of history ++ record { low = low; tables = tables } ∷ []

-- a commit has no fault, and this is the version that it makes
pub record IsReady (history : History) (commit : Commit) (least count : ℕ) (made : Kept)
    : Type 0 where
  pub faultless : commit_faults (states_of history) commit ≡ []
  pub low : least ≡ (after (states_of history) commit).low
  pub rows : count ≡ row_count (states_of history) commit
  pub version : made ≡ kept_of (length history + 1) (after (states_of history) commit)

-- how many entries the commits of these versions wrote
abbrev pub fresh_in : List Kept → ℕ
fresh_in [] = 0
fresh_in (one ∷ kept) = one.fresh + fresh_in kept
