-- What a commit is answered, and what a version shows.
use Rattle.std.specs.Prelude.{◌≡◌, ◌⊎◌, ◌<◌, ◌≤◌, ℕ, List, [], ◌∷◌, ◌++◌, length, Some}
use Rattle.std.specs.Prelude.{Result, Ok, Err, slice_get, slice_index_or}
use Rattle.snapshots.specs.declared.snapshot.Snapshot.{Snapshot}
use Rattle.snapshots.specs.States.{State, nothing}
use Rattle.version_store.specs.Histories.{Commit, History, states_of, commit_faults, row_count}
use Rattle.version_store.specs.Histories.{replay}
use Rattle.version_store.specs.declared.faults.CommitFault.{CommitFault}
use Rattle.version_store.specs.declared.faults.CommitKind.{CommitKind}
use Rattle.version_store.specs.declared.faults.CommitKind.TheVariants as kinds
use Rattle.version_store.specs.declared.store.Committed.{Committed}
use Rattle.version_store.specs.declared.store.VaultFault.{VaultFault}
use Rattle.version_store.specs.declared.store.VaultFault.TheVariants as vault

abbrev pub IsMemoryKind : CommitKind → Type 0
IsMemoryKind (kinds.Memory error) = Unit {0}
IsMemoryKind kind = ⊥

-- memory is out, which is the fault of no change
pub record IsMemory (fault : CommitFault) : Type 0 where
  pub change : fault.change ≡ 0
  pub kind : IsMemoryKind fault.kind

-- a refusal is the first fault, or memory is out
abbrev pub Refuses : List CommitFault → CommitFault → Type 0
Refuses faults fault = (slice_get faults 0 ≡ Some fault) ⊎ IsMemory fault

-- an accepted commit has no fault and joins the history; a refused one changes nothing
pub record IsCommitted (old new : History) (commit : Commit) (committed : Committed) : Type 0 where
  pub history : new ≡ old ++ commit ∷ []
  pub faultless : commit_faults (states_of old) commit ≡ []
  pub version : committed.version ≡ length new
  pub rows : committed.rows ≡ row_count (states_of old) commit

pub record IsRefused (old new : History) (commit : Commit) (fault : CommitFault) : Type 0 where
  pub history : new ≡ old
  pub due : Refuses (commit_faults (states_of old) commit) fault

-- a refused commit is handed back
abbrev pub AnswersCommit : History → History → Commit → Result Committed (CommitFault × Commit) → Type 0
AnswersCommit old new commit (Ok committed) = IsCommitted old new commit committed
AnswersCommit old new commit (Err (fault, back)) = IsRefused old new commit fault × (back ≡ commit)

-- the state of a version, and what it shows
abbrev pub state_at : History → ℕ → State
state_at history version = slice_index_or (states_of history) version nothing

abbrev pub shown : History → ℕ → Snapshot
shown history version = record { version = version; tables = (state_at history version).tables }

-- the versions from low on are kept
pub record IsKept (history : History) (version : ℕ) : Type 0 where
  pub low : (replay history).low ≤ version
  pub high : version ≤ length history

pub record IsUnkept (history : History) (version given least most : ℕ) : Type 0 where
  pub asked : given ≡ version
  pub low : least ≡ (replay history).low
  pub high : most ≡ length history
  pub outside : (version < (replay history).low) ⊎ (length history < version)

abbrev pub AnswersVersion : History → ℕ → Result Snapshot VaultFault → Type 0
AnswersVersion history version (Ok snapshot) =
    IsKept history version × (snapshot ≡ shown history version)
AnswersVersion history version (Err (vault.Unkept asked low high)) =
    IsUnkept history version asked low high
AnswersVersion history version (Err (vault.Memory error)) = Unit {0}
