-- What a session works on: a history to which others may add commits, too.
use Rattle.std.specs.Prelude.{◌≡◌, ℕ, suc, ◌≤◌, ◌++◌, length, IfOk, Result, Ok, Err}
use Rattle.std.specs.declared.alloc.AllocError.{AllocError}
use Rattle.snapshots.specs.declared.snapshot.Snapshot.{Snapshot}
use Rattle.version_store.specs.Answers.{IsCommitted, Refuses, AnswersVersion, shown}
use Rattle.version_store.specs.Histories.{Commit, History, IsHistory, states_of, commit_faults}
use Rattle.version_store.specs.Laws.{HaveRows}
use Rattle.version_store.specs.Legal.{HaveColumns}
use Rattle.version_store.specs.declared.faults.CommitFault.{CommitFault}
use Rattle.version_store.specs.declared.limits.TheConstants.{MAX_VERSION}
use Rattle.version_store.specs.declared.store.Committed.{Committed}
use Rattle.version_store.specs.declared.store.VaultFault.{VaultFault}

-- the commits that a vault has seen, how many of them were made through it, and its part of a ledger
pub record Holding : Type 0 where
  pub held : History
  pub own : ℕ
  pub stake : ℕ

-- What a vault holds at a moment. A clause of a generic function says
-- `holding V.held V.own V.stake vault.old`.
abbrev pub holding : {V : Type 0} → (V → History) → (V → ℕ) → (V → ℕ) → V → Holding
holding held own stake vault = record { held = held vault; own = own vault; stake = stake vault }

abbrev pub IsPrefix : History → History → Type 0
IsPrefix old new = (more : History) × (new ≡ old ++ more)

-- nothing was committed through the vault; others may have committed
pub record Sees (old new : Holding) : Type 0 where
  pub held : IsPrefix old.held new.held
  pub own : new.own ≡ old.own
  pub stake : new.stake ≡ old.stake

-- a commit without a fault joins what others committed before it
pub record Accepts (old new : Holding) (commit : Commit) (committed : Committed) : Type 0 where
  pub before : History
  pub held : IsPrefix old.held before
  pub joins : IsCommitted before new.held commit committed
  pub own : new.own ≡ suc old.own
  pub stake : new.stake ≡ old.stake

pub record Refused (old new : Holding) (commit : Commit) (fault : CommitFault) : Type 0 where
  pub sees : Sees old new
  pub due : Refuses (commit_faults (states_of new.held) commit) fault

-- a refused commit is handed back
abbrev pub Commits : Holding → Holding → Commit → Result Committed (CommitFault × Commit) → Type 0
Commits old new commit (Ok committed) = Accepts old new commit committed
Commits old new commit (Err (fault, back)) = Refused old new commit fault × (back ≡ commit)

-- a snapshot is the last version of all that is seen then
pub record Looks (old new : Holding) (result : Result Snapshot AllocError) : Type 0 where
  pub sees : Sees old new
  pub value : IfOk result (λ snapshot. snapshot ≡ shown new.held (length new.held))
  pub rows : IfOk result (λ snapshot. HaveRows snapshot.tables)

pub record LooksAt (old new : Holding) (version : ℕ) (result : Result Snapshot VaultFault)
    : Type 0 where
  pub sees : Sees old new
  pub value : AnswersVersion new.held version result
  pub rows : IfOk result (λ snapshot. HaveRows snapshot.tables)

-- what is held replays without a fault
pub record IsSound (held : History) : Type 0 where
  pub accepted : IsHistory held
  pub columns : HaveColumns held
  pub few : length held ≤ MAX_VERSION
