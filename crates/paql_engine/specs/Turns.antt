-- Private: `src/machine.rt`: the steps between two wishes.
-- The steps of a machine between two wishes.
use Rattle.std.specs.Prelude.{◌≡◌, ◌⊎◌, ℕ, ◌+◌, ◌<◌, ◌≤◌, IsTrue, Result, Ok, Err, List, [], ◌∷◌, ◌++◌, length, Option, Some, None}
use Rattle.std.specs.declared.alloc.AllocError.{AllocError}
use Rattle.paql_ast.specs.declared.statements.Statement.{Statement}
use Rattle.paql_grammar.specs.Texts.{IsStatement}
use Rattle.version_store.specs.Vaults.{Holding}
use Rattle.session_proto.specs.Frames.{is_blank}
use Rattle.session_proto.specs.Input.{Input, Content, IsNext, absent, content as given}
use Rattle.session_proto.specs.Causes.{text_cause}
use Rattle.session_proto.specs.Refusals.{refusal_of, memory}
use Rattle.session_proto.specs.Replies.{ReplyData, reply_text}
use Rattle.session_proto.specs.Sessions.{Frame, Stands}
use Rattle.paql_engine.specs.Conversation.{Stage, Conversation, MachineData, OwnMachine, IsServing}
use Rattle.paql_engine.specs.Conversation.{IsFramed, WaitsFor, framing, parsing, reading, ended}
use Rattle.paql_engine.specs.Conversation.{work, turns_at, turns_left, over, talks}
use Rattle.paql_engine.specs.Machine.{room_of}
use Rattle.paql_engine.specs.Replied.{reply_of}
use Rattle.paql_engine.specs.State.{SessionState}
use Rattle.paql_engine.specs.Texts.{IsLoad, FaultOf}
use Rattle.paql_engine.specs.Transcript.{Transcript, Answers, texts}
use Rattle.paql_engine.specs.declared.ending.SessionEnd.{SessionEnd}
use Rattle.paql_engine.specs.declared.ending.SessionEnd.TheVariants as ends
use Rattle.paql_engine.specs.declared.ending.TheConstants.{MAX_BYTES}
use Rattle.paql_engine.specs.declared.machine.Wish.{Wish}
use Rattle.paql_engine.specs.declared.machine.Wish.TheVariants.{Write, Read, End}
use Rattle.paql_engine.specs.declared.session.Answer.{Answer}
use Rattle.paql_engine.specs.declared.session.Answer.TheVariants as answers
use Rattle.session_proto.specs.declared.refusals.TextFault.{TextFault}

-- frames may be whole
abbrev pub IsFree : Stage → Type 0
IsFree framing = Unit {0}
IsFree reading = Unit {0}
IsFree (parsing words) = ⊥
IsFree (ended end) = ⊥

-- So many bytes were taken, these frames were answered, and just their replies were written.
pub record IsHere (first : SessionState) (bytes written : List ℕ) (frames : List Frame)
    (replies : List ReplyData) (machine : MachineData) : Type 0 where
  pub counted : length bytes ≡ machine.talk.taken
  pub few : machine.talk.taken ≤ MAX_BYTES
  pub transcript : Transcript
      (Answers machine.session.history) first frames replies machine.session.state
  pub paid : written ≡ texts replies

-- the framer gave this text, and nothing was done with it yet
pub record IsFramedIn (first : SessionState) (bytes written words : List ℕ)
    (machine : MachineData) : Type 0 where
  pub frames : List Frame
  pub replies : List ReplyData
  pub here : IsHere first bytes written frames replies machine
  pub framed : IsFramed (record {
    bytes =
        bytes;
    frames = frames;
    replies = replies;
    written = written;
  }) words machine.talk
  pub quiet : machine.talk.owed ≡ []

-- the framer is after this frame, which is still to be answered
pub record IsAfter (first : SessionState) (bytes written : List ℕ) (frame : Frame)
    (machine : MachineData) : Type 0 where
  pub frames : List Frame
  pub replies : List ReplyData
  pub here : IsHere first bytes written frames replies machine
  pub stands : Stands IsLoad bytes (frames ++ frame ∷ []) None machine.talk.input
  pub free : machine.talk.waiting ≡ None

-- the frame of a text that has no body
abbrev pub bare : List ℕ → Frame
bare words = record { text = words; content = absent }

-- ---- what is owed for an answer

-- the reply of an answer, or that of a statement for which memory ran out
abbrev pub replied : Result Answer AllocError → ReplyData
replied (Ok answer) = reply_of answer
replied (Err fault) = refusal_of memory

-- its bytes; a reply that was made, or is made now, may lack memory for them
abbrev pub Owes : Result Answer AllocError → Option (List ℕ) → Type 0
Owes (Ok (answers.Made reply)) None = Unit {0}
Owes (Ok (answers.Accepted accepted committed)) None = Unit {0}
Owes (Ok answers.NotBuilt) None = ⊥
Owes (Err fault) None = ⊥
Owes answered (Some owed) = owed ≡ reply_text (replied answered)

-- no byte came or went, and the frame was answered, or memory ran out for its bytes
pub record IsSettled (old new : Conversation) : Type 0 where
  pub input : new.input ≡ old.input
  pub taken : new.taken ≡ old.taken
  pub stage : (new.stage ≡ framing) ⊎ (new.stage ≡ ended ends.Memory)

-- ---- what the private functions do

-- the frame after which the machine is, is answered
abbrev pub Performs : Statement → Content → MachineData → MachineData → Type 0
Performs t content old new = (first : SessionState) (bytes written words : List ℕ)
    → IsAfter first bytes written (record { text = words; content = content }) old
    → IsStatement words t → IsServing first bytes written new

-- the text of a statement is begun or answered
abbrev pub BeginsWith : Statement → MachineData → MachineData → Type 0
BeginsWith t old new = (first : SessionState) (bytes written words : List ℕ)
    → IsFramedIn first bytes written words old → IsStatement words t
    → IsServing first bytes written new

-- fewer turns are left than with a text to parse
abbrev pub IsFewer : Conversation → Conversation → Type 0
IsFewer old new = turns_left new < turns_at old (parsing [])

-- a text with this fault is refused, whatever the vault holds
abbrev pub RefusesFault : TextFault → ℕ → OwnMachine → OwnMachine → Type 0
RefusesFault fault at old new =
    (vault : Holding) (first : SessionState) (bytes written words : List ℕ)
    → IsFramedIn first bytes written words (over vault old) → FaultOf words (text_cause fault at)
    → IsServing first bytes written (over vault new)

-- the framer gave the body of the statement that waits for it
pub record HasBody (first : SessionState) (bytes written : List ℕ) (content : Content)
    (machine : MachineData) : Type 0 where
  pub frames : List Frame
  pub replies : List ReplyData
  pub here : IsHere first bytes written frames replies machine
  pub before : Input
  pub words : List ℕ
  pub stands : Stands IsLoad bytes frames (Some words) before
  pub gives : IsNext before (given content) machine.talk.input
  pub waits : WaitsFor (Some words) machine.talk.waiting

abbrev pub Finishes : Content → MachineData → MachineData → Type 0
Finishes content old new = (first : SessionState) (bytes written : List ℕ)
    → HasBody first bytes written content old → IsServing first bytes written new

-- the same conversation at this stage
abbrev pub at_stage : Conversation → Stage → Conversation
at_stage talk stage = record {
  input = talk.input;
  waiting = talk.waiting;
  owed = talk.owed;
  taken = talk.taken;
  stage = stage;
}

-- and with these bytes owed
abbrev pub with_owed : Conversation → List ℕ → Conversation
with_owed talk owed = record {
  input = talk.input;
  waiting = talk.waiting;
  owed = owed;
  taken = talk.taken;
  stage = framing;
}

-- the same conversation, which waits for the body of this statement
abbrev pub waiting_for : Conversation → Statement → Input → Conversation
waiting_for talk t input = record {
  input = input;
  waiting = Some t;
  owed = talk.owed;
  taken = talk.taken;
  stage = framing;
}

-- more is read, if there is room for it
pub data Needs (old : OwnMachine) (wish : Wish) (new : OwnMachine) : Type 0 where
  stops : room_of old.talk ≡ 0 → wish ≡ End ends.SessionLimit
      → new ≡ talks old (at_stage old.talk (ended ends.SessionLimit)) → Needs old wish new
  reads : 0 < room_of old.talk → wish ≡ Read (room_of old.talk)
      → new ≡ talks old (at_stage old.talk reading) → Needs old wish new

-- what is owed is to be written, if there was memory for it
abbrev pub IsOwedNow : Option (List ℕ) → OwnMachine → Wish → OwnMachine → Type 0
IsOwedNow (Some owed) old wish new =
    (wish ≡ Write) × (new ≡ talks old (with_owed old.talk owed))
IsOwedNow None old wish new =
    (wish ≡ End ends.Memory) × (new ≡ talks old (at_stage old.talk (ended ends.Memory)))

-- not more turns are left than after a reply
abbrev pub IsLess : Conversation → Conversation → Type 0
IsLess old new = turns_left new ≤ 2 + work old

-- what is to be done after bytes came
abbrev pub stage_fed : Result (Unit {0}) AllocError → Stage
stage_fed (Ok done) = framing
stage_fed (Err fault) = ended ends.Memory

-- how a session ends with its input: clean if only space and comments are left, and no body is
-- awaited
abbrev pub IsInputEnd : Input → SessionEnd → Type 0
IsInputEnd input ends.Done = (input.awaited ≡ None) × IsTrue (is_blank input.left)
IsInputEnd input ends.Truncated = ¬ ((input.awaited ≡ None) × IsTrue (is_blank input.left))
IsInputEnd input end = ⊥
