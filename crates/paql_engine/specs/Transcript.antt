-- A session's transcript: which replies its frames have, one after the other.
use Rattle.std.specs.Prelude.{◌≡◌, ℕ, List, [], ◌∷◌, flat_map}
use Rattle.paql_ast.specs.declared.statements.Statement.{Statement}
use Rattle.paql_grammar.specs.Texts.{IsStatement}
use Rattle.session_proto.specs.Refusals.{Refusal, refusal_of, memory}
use Rattle.session_proto.specs.Replies.{ReplyData, reply_text}
use Rattle.session_proto.specs.Sessions.{Frame}
use Rattle.version_store.specs.Histories.{History}
use Rattle.paql_engine.specs.State.{SessionState}
use Rattle.paql_engine.specs.Steps.{Steps, Stays}
use Rattle.paql_engine.specs.Texts.{FaultOf}

-- ---- of any session, by what one frame does to its state

-- the frames are answered in order, each by its reply
abbrev pub Transcript : {S : Type 0} → (S → Frame → ReplyData → S → Type 0) → S → List Frame
    → List ReplyData → S → Type 0
Transcript Answers old [] [] new = new ≡ old
Transcript {S} Answers old (frame ∷ frames) (reply ∷ replies) new =
    (between : S) × Answers old frame reply between × Transcript Answers between frames replies new
Transcript Answers old frames replies new = ⊥

-- the bytes of replies, one after the other
abbrev pub texts : List ReplyData → List ℕ
texts replies = flat_map reply_text replies

-- ---- one frame

-- a text that is no statement is refused, and changes nothing
pub record RefusesText (old : SessionState) (words : List ℕ) (reply : ReplyData)
    (new : SessionState) : Type 0 where
  pub cause : Refusal
  pub fault : FaultOf words cause
  pub shown : reply ≡ refusal_of cause
  pub keeps : new ≡ old

-- a statement is performed, with its body
pub record Performs (history : History) (old : SessionState) (frame : Frame) (reply : ReplyData)
    (new : SessionState) : Type 0 where
  pub statement : Statement
  pub is : IsStatement frame.text statement
  pub steps : Steps history old statement frame.content reply new

-- memory ran out, and the session did nothing
pub record LacksMemory (history : History) (old : SessionState) (reply : ReplyData)
    (new : SessionState) : Type 0 where
  pub shown : reply ≡ refusal_of memory
  pub stays : Stays history old new

-- What a frame does to a session over this history, and its reply.
pub data Answers (history : History) (old : SessionState) (frame : Frame) (reply : ReplyData)
    (new : SessionState) : Type 0 where
  refuses : RefusesText old frame.text reply new → Answers history old frame reply new
  performs : Performs history old frame reply new → Answers history old frame reply new
  lacks : LacksMemory history old reply new → Answers history old frame reply new
