-- How a session over a source and a sink ends.
use Rattle.std.specs.Prelude.{◌≡◌, ◌⊎◌, ℕ, ◌<◌, ◌≤◌, List, length, Option, Some}
use Rattle.pq_base.specs.Shown.{Shown, GivesBytes, TakesBytes, HasEnded, HasFailed, HasNoFault}
use Rattle.session_proto.specs.Sessions.{Frame, AreFrames, EndsClean, IsOverlong}
use Rattle.paql_engine.specs.Ends.{Account, EndsSo}
use Rattle.version_store.specs.Vaults.{Holding}
use Rattle.paql_engine.specs.State.{SessionState, Grows, opening}
use Rattle.paql_engine.specs.Texts.{IsLoad}
use Rattle.paql_engine.specs.Transcript.{Transcript, Answers}
use Rattle.paql_engine.specs.declared.ending.SessionEnd.{SessionEnd}
use Rattle.paql_engine.specs.declared.ending.SessionEnd.TheVariants as ends
use Rattle.paql_engine.specs.declared.ending.TheConstants.{MAX_BYTES}

-- the input was read to its end
abbrev pub IsReadOut : SessionEnd → Type 0
IsReadOut ends.Done = Unit {0}
IsReadOut ends.Truncated = Unit {0}
IsReadOut end = ⊥

-- The bytes that the source gave and those that the sink took are a transcript of the frames that
-- were performed, from what the vault held on and over what it holds at the end, of which the
-- session has seen all; and the session ends so by them.
pub record EndsWith (vault vault_now : Holding) (source source_now sink sink_now : Shown)
    (end : SessionEnd) : Type 0 where
  pub account : Account
  pub state : SessionState
  pub grows : Grows vault vault_now
  pub own : state.own ≡ vault_now.own
  pub seen : state.seen ≡ length vault_now.held
  pub read : GivesBytes source source_now account.bytes
  pub most : length account.bytes ≤ MAX_BYTES
  pub transcript : Transcript (Answers vault_now.held) (opening vault) account.frames
      account.replies state
  pub wrote : TakesBytes sink sink_now account.written
  pub ends : EndsSo account end
  pub read_out : IsReadOut end → HasEnded source_now

-- A session ends by a fault exactly if the source or the sink failed, by the fault of that one, and
-- then the other one hasn't failed.
abbrev pub HasCause : Shown → Shown → Shown → Shown → SessionEnd → Type 0
HasCause source source_now sink sink_now ends.ReadFault =
    HasFailed source source_now × HasNoFault sink sink_now
HasCause source source_now sink sink_now ends.WriteFault =
    HasNoFault source source_now × HasFailed sink sink_now
HasCause source source_now sink sink_now end =
    HasNoFault source source_now × HasNoFault sink sink_now

-- ---- completeness

-- fewer bytes than a session takes, with a clean end and no frame too long
pub record IsWholeScript (left : Option (List ℕ)) : Type 0 where
  pub bytes : List ℕ
  pub frames : List Frame
  pub rest : List ℕ
  pub told : left ≡ Some bytes
  pub few : length bytes < MAX_BYTES
  pub are : AreFrames IsLoad bytes frames rest
  pub clean : EndsClean rest
  pub not_long : ¬ IsOverlong rest

-- the session is done, or ended by a fault or out of memory
abbrev pub IsDoneOrFault : SessionEnd → Type 0
IsDoneOrFault end =
    (end ≡ ends.Done) ⊎ (end ≡ ends.ReadFault) ⊎ (end ≡ ends.WriteFault) ⊎ (end ≡ ends.Memory)
