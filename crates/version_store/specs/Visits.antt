-- Private: `MemVault` in `src/memory.rt`, which is for tests.
-- A vault over memory to which others commit, as contracts see it.
use Rattle.std.specs.Prelude.{◌≡◌, ◌⊎◌, ℕ, List, [], ◌∷◌, ◌++◌, drop, Option, None, Some}
use Rattle.version_store.specs.Histories.{Commit, History, states_of, commit_faults}

pub record Visited : Type 0 where
  pub held : History
  pub own : ℕ
  pub stake : ℕ
  pub visits : List (Option Commit)  -- what others commit before each of the next calls

abbrev pub next_of : List (Option Commit) → Option Commit
next_of [] = None
next_of (visit ∷ visits) = visit

-- it joins the history, if it has no fault and memory lasts
pub record IsJoined (old new : History) (commit : Commit) : Type 0 where
  pub faultless : commit_faults (states_of old) commit ≡ []
  pub history : new ≡ old ++ commit ∷ []

abbrev pub Joins : History → History → Option Commit → Type 0
Joins old new None = new ≡ old
Joins old new (Some commit) = IsJoined old new commit ⊎ (new ≡ old)

pub record IsVisit (old new : Visited) : Type 0 where
  pub held : Joins old.held new.held (next_of old.visits)
  pub own : new.own ≡ old.own
  pub stake : new.stake ≡ old.stake
  pub visits : new.visits ≡ drop 1 old.visits
