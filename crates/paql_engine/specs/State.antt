-- What a session is over: the history of all commits, and its own state beside it.
use Rattle.std.specs.Prelude.{◌≡◌, ℕ, List, take, length, Option, None}
use Rattle.version_store.specs.Histories.{History}
use Rattle.version_store.specs.Vaults.{Holding, IsPrefix}
use Rattle.version_store.specs.declared.changes.Change.{Change}
use Rattle.query_answer.specs.declared.kept.Kept.{Kept}

-- The changes of the open transaction, if one is open; what is kept of the last query that was
-- answered, if one was; how many commits were made through its vault; and how many commits of the
-- history the session has seen.
pub record SessionState : Type 0 where
  pub queue : Option (List Change)
  pub kept : Option Kept
  pub own : ℕ
  pub seen : ℕ

-- a session that has done nothing, over a vault that holds this
abbrev pub opening : Holding → SessionState
opening vault = record { queue = None; kept = None; own = vault.own; seen = length vault.held }

-- what a session itself keeps
pub record OwnSession : Type 0 where
  pub queue : Option (List Change)
  pub kept : Option Kept

abbrev pub nothing_done : OwnSession
nothing_done = record { queue = None; kept = None }

-- a history, and a session over it
pub record SessionData : Type 0 where
  pub history : History
  pub state : SessionState

-- a session over what its vault holds, of which it has seen all
abbrev pub session_over : Holding → OwnSession → SessionData
session_over vault session = record {
  history = vault.held;
  state = record {
    queue = session.queue;
    kept = session.kept;
    own = vault.own;
    seen = length vault.held;
  };
}

-- a vault has seen what it had, and perhaps more, and its part of a ledger is the same
pub record Grows (old new : Holding) : Type 0 where
  pub held : IsPrefix old.held new.held
  pub stake : new.stake ≡ old.stake

-- the commits that a session has seen
abbrev pub seen_of : History → SessionState → History
seen_of history state = take state.seen history
