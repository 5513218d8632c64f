-- Private: `src/serve.rt`: what the driver does for each wish.
-- What the driver does for each wish of a machine.
use Rattle.std.specs.Prelude.{ℕ, ◌<◌, List}
use Rattle.pq_base.specs.Shown.{Shown, GivesBytes, TakesBytes, HasEnded, HasFailed, HasNoFault}
use Rattle.version_store.specs.Vaults.{Holding}
use Rattle.paql_engine.specs.Conversation.{OwnMachine, Outside, IsServing, over, told, turns_left}
use Rattle.paql_engine.specs.Conversation.{none, input_ended, read_failed, write_failed}
use Rattle.paql_engine.specs.Machine.{FeedsOver, WritesOver}
use Rattle.paql_engine.specs.State.{Grows, opening}

-- what the sink did, by what the machine was told
abbrev pub PutCause : Shown → Shown → Outside → Type 0
PutCause sink now none = HasNoFault sink now
PutCause sink now write_failed = HasFailed sink now
PutCause sink now input_ended = ⊥
PutCause sink now read_failed = ⊥

-- the sink took these bytes of what is owed
pub record PutsOwed (sink now : Shown) (old new : OwnMachine) : Type 0 where
  pub piece : List ℕ
  pub wrote : TakesBytes sink now piece
  pub writes : WritesOver old piece new
  pub cause : PutCause sink now (told new.talk)
  pub turns : turns_left new.talk < turns_left old.talk

-- what the source did, by what the machine was told
abbrev pub PullCause : Shown → Shown → Outside → Type 0
PullCause source now none = HasNoFault source now
PullCause source now input_ended = HasNoFault source now × HasEnded now
PullCause source now read_failed = HasFailed source now
PullCause source now write_failed = ⊥

-- the source gave these bytes
pub record ReadsMore (source now : Shown) (old new : OwnMachine) : Type 0 where
  pub piece : List ℕ
  pub read : GivesBytes source now piece
  pub feeds : FeedsOver old piece new
  pub cause : PullCause source now (told new.talk)
  pub turns : turns_left new.talk < turns_left old.talk

-- ---- the loop

-- what the source and the sink did, by what the machine was told
abbrev pub IsTold : Shown → Shown → Shown → Shown → Outside → Type 0
IsTold source source_now sink sink_now none =
    HasNoFault source source_now × HasNoFault sink sink_now
IsTold source source_now sink sink_now input_ended =
    HasNoFault source source_now × HasNoFault sink sink_now × HasEnded source_now
IsTold source source_now sink sink_now read_failed =
    HasFailed source source_now × HasNoFault sink sink_now
IsTold source source_now sink sink_now write_failed =
    HasNoFault source source_now × HasFailed sink sink_now

-- the bytes that were read and written so far, and how the machine is by them over its vault
pub record IsRunning (vault vault_now : Holding) (source source_now sink sink_now : Shown)
    (machine : OwnMachine) : Type 0 where
  pub bytes : List ℕ
  pub written : List ℕ
  pub read : GivesBytes source source_now bytes
  pub wrote : TakesBytes sink sink_now written
  pub serving : IsServing (opening vault) bytes written (over vault_now machine)
  pub grows : Grows vault vault_now
  pub cause : IsTold source source_now sink sink_now (told machine.talk)
