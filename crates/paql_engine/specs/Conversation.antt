-- Private: the machine in `src/machine.rt`: how it is in the middle of a session.
-- A session machine in the middle of a session.
use Rattle.std.specs.Prelude.{◌≡◌, ◌↔◌, ℕ, ◌+◌, ◌*◌, ◌-◌, ◌≤◌, IsTrue, List, [], ◌∷◌, ◌++◌, length, Option, Some, None}
use Rattle.paql_ast.specs.declared.statements.Statement.{Statement}
use Rattle.paql_grammar.specs.Texts.{IsStatement}
use Rattle.session_proto.specs.Frames.{is_blank}
use Rattle.session_proto.specs.Input.{Input, IsNext, statement}
use Rattle.session_proto.specs.Replies.{ReplyData}
use Rattle.session_proto.specs.Sessions.{Frame, AreFrames, Stands, EndsClean, IsOverlong}
use Rattle.session_proto.specs.declared.framer.Awaited.{Awaited}
use Rattle.paql_engine.specs.Ends.{Account, EndsSo}
use Rattle.version_store.specs.Vaults.{Holding}
use Rattle.paql_engine.specs.State.{SessionState, SessionData, OwnSession, session_over}
use Rattle.paql_engine.specs.Texts.{IsLoad}
use Rattle.paql_engine.specs.Transcript.{Transcript, Answers, texts}
use Rattle.paql_engine.specs.declared.ending.SessionEnd.{SessionEnd}
use Rattle.paql_engine.specs.declared.ending.SessionEnd.TheVariants as ends
use Rattle.paql_engine.specs.declared.ending.TheConstants.{MAX_BYTES}

-- Whole frames may be left; or this text is to be parsed; or no whole frame is left, and more bytes
-- are needed; or the session ended.
pub data Stage : Type 0 where
  framing : Stage
  parsing : List ℕ → Stage
  reading : Stage
  ended : SessionEnd → Stage

-- The bytes that were taken and not performed yet, the statement whose body is to come, the bytes
-- of replies that are still to be written, how many bytes were taken, and what is to be done.
pub record Conversation : Type 0 where
  pub input : Input
  pub waiting : Option Statement
  pub owed : List ℕ
  pub taken : ℕ
  pub stage : Stage

-- what a machine itself keeps
pub record OwnMachine : Type 0 where
  pub session : OwnSession
  pub talk : Conversation

-- the same machine in another conversation
abbrev pub talks : OwnMachine → Conversation → OwnMachine
talks machine talk = record { session = machine.session; talk = talk }

-- a conversation with its session, over a history
pub record MachineData : Type 0 where
  pub session : SessionData
  pub talk : Conversation

-- a machine over what its vault holds
abbrev pub over : Holding → OwnMachine → MachineData
over vault machine = record {
  session = session_over vault machine.session;
  talk = machine.talk;
}

-- ---- how a conversation is, whatever one frame does to the state of its session

-- the statement whose body is to come is that of the text
abbrev pub WaitsFor : Option (List ℕ) → Option Statement → Type 0
WaitsFor None None = Unit {0}
WaitsFor (Some words) (Some t) = IsStatement words t
WaitsFor words waiting = ⊥

-- the framer is after the frames, or after the text of one more whose body is to come
pub record IsBetween (account : Account) (talk : Conversation) : Type 0 where
  pub before : Option (List ℕ)
  pub stands : Stands IsLoad account.bytes account.frames before talk.input
  pub waits : WaitsFor before talk.waiting

-- the framer gave this text, and nothing was done with it yet
pub record IsFramed (account : Account) (words : List ℕ) (talk : Conversation) : Type 0 where
  pub before : Input
  pub stands : Stands IsLoad account.bytes account.frames None before
  pub gives : IsNext before (statement words) talk.input
  pub free : talk.waiting ≡ None

-- no further frame is whole in the bytes, and none is too long
pub record HasNoFrame (account : Account) (talk : Conversation) : Type 0 where
  pub rest : List ℕ
  pub are : AreFrames IsLoad account.bytes account.frames rest
  pub not_long : ¬ IsOverlong rest
  pub clean : ((talk.input.awaited ≡ None) × IsTrue (is_blank talk.input.left)) ↔ EndsClean rest

-- the replies are what was written, and then what is owed
abbrev pub IsOwing : Account → Conversation → Type 0
IsOwing account talk = texts account.replies ≡ account.written ++ talk.owed

-- just the replies were written, and nothing is owed
abbrev pub IsPaid : Account → Conversation → Type 0
IsPaid account talk = (account.written ≡ texts account.replies) × (talk.owed ≡ [])

-- How a conversation is at each stage. More bytes are read only if nothing is owed and no whole
-- frame is left.
abbrev pub IsAtStage : Account → Conversation → Stage → Type 0
IsAtStage account talk framing = IsOwing account talk × IsBetween account talk
IsAtStage account talk (parsing words) = IsPaid account talk × IsFramed account words talk
IsAtStage account talk reading =
    IsPaid account talk × IsBetween account talk × HasNoFrame account talk
IsAtStage account talk (ended end) = EndsSo account end

-- The session went from the first state to this one by the frames of the account, and the
-- conversation is there.
pub record Serves {S : Type 0} (OneFrame : S → Frame → ReplyData → S
    → Type 0) (first now : S) (account : Account)
    (talk : Conversation) : Type 0 where
  pub counted : length account.bytes ≡ talk.taken
  pub few : talk.taken ≤ MAX_BYTES
  pub transcript : Transcript OneFrame first account.frames account.replies now
  pub stage : IsAtStage account talk talk.stage

-- ---- how a machine is

-- From this state on it took these bytes, and these bytes of replies were written.
pub record IsServing (first : SessionState) (bytes written : List ℕ)
    (machine : MachineData) : Type 0 where
  pub frames : List Frame
  pub replies : List ReplyData
  pub serves : Serves (Answers machine.session.history) first machine.session.state
      (record { bytes = bytes; frames = frames; replies = replies; written = written }) machine.talk

-- ---- how much is left to do

abbrev pub body_awaited : Option Awaited → ℕ
body_awaited None = 0
body_awaited (Some body) = 1

-- with the bytes that are held
abbrev pub size : Input → ℕ
size input = 2 * length input.left + body_awaited input.awaited

abbrev pub debt : List ℕ → ℕ
debt [] = 0
debt (byte ∷ owed) = 1

-- with the bytes that are held, and with those that may still come
abbrev pub work : Conversation → ℕ
work talk = 2 * (3 * (MAX_BYTES - talk.taken) + size talk.input)

-- how many turns are left at most
abbrev pub turns_at : Conversation → Stage → ℕ
turns_at talk framing = 1 + debt talk.owed + work talk
turns_at talk (parsing words) = 5 + work talk
turns_at talk reading = 1 + debt talk.owed + work talk
turns_at talk (ended end) = 0

abbrev pub turns_left : Conversation → ℕ
turns_left talk = turns_at talk talk.stage

-- ---- what a machine was told of the outside

pub data Outside : Type 0 where
  none : Outside
  input_ended : Outside
  read_failed : Outside
  write_failed : Outside

abbrev pub told_at : Stage → Outside
told_at (ended ends.Done) = input_ended
told_at (ended ends.Truncated) = input_ended
told_at (ended ends.ReadFault) = read_failed
told_at (ended ends.WriteFault) = write_failed
told_at stage = none

abbrev pub told : Conversation → Outside
told talk = told_at talk.stage
