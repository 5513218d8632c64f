-- Private: `src/checking.rt` and the modules in `src/checking/`.
-- The parts of a check: what is read, performed and told, one after the other.
use Rattle.std.specs.Prelude.{◌≡◌, ℕ, ◌+◌, ◌*◌, ◌-◌, ◌≤◌, List, [], ◌∷◌, ◌++◌, length, take}
use Rattle.std.specs.Prelude.{Option, None, Some, Result, Ok, Err}
use Rattle.std.specs.declared.alloc.Global.{Global}
use Rattle.std.specs.declared.vec.Vec.{Vec}
use Rattle.paql_ast.specs.declared.statements.Statement.{Statement}
use Rattle.paql_engine.specs.Conversation.{WaitsFor, size}
use Rattle.paql_engine.specs.State.{SessionState, OwnSession, Grows, opening, session_over}
use Rattle.paql_engine.specs.Texts.{IsLoad}
use Rattle.paql_engine.specs.Transcript.{Transcript}
use Rattle.paql_engine.specs.declared.ending.TheConstants.{MAX_BYTES}
use Rattle.paql_grammar.specs.Texts.{IsStatement}
use Rattle.pq_base.specs.Shown.{Shown, GivesBytes, HasEnded, HasFailed, HasNoFault}
use Rattle.session_proto.specs.Input.{Input, Content, IsNext, statement, content as given}
use Rattle.session_proto.specs.Replies.{ReplyData}
use Rattle.session_proto.specs.Sessions.{Frame, Begins, IsFirst, NoneWhole, IsOverlong, Stands}
use Rattle.version_store.specs.Histories.{History}
use Rattle.version_store.specs.Vaults.{Holding}
use Rattle.session_server.specs.Checks.{PerformsWell, IsNoQuery, IsScript, ComesNone, ComesQuery}
use Rattle.session_server.specs.Checks.{ComesRefused, ReadsOn, IsLine, refused_line}
use Rattle.session_server.specs.declared.checking.CheckEnd.{CheckEnd}
use Rattle.session_server.specs.declared.checking.CheckEnd.TheVariants as ends
use Rattle.session_server.specs.declared.checking.script.Script.{Script}
use Rattle.session_server.specs.declared.checking.script.Stop.{Stop}
use Rattle.session_server.specs.declared.checking.script.Stop.TheVariants as stops
use Rattle.session_server.specs.declared.checking.line.Line.{Line}

-- ---- reading

-- why no more is read before the end of the input, with so many bytes taken
abbrev pub StopsReading : Shown → Shown → ℕ → CheckEnd → Type 0
StopsReading source now taken ends.ReadFault = HasFailed source now
StopsReading source now taken ends.SessionLimit = HasNoFault source now × (MAX_BYTES ≤ taken)
StopsReading source now taken ends.Memory = HasNoFault source now
StopsReading source now taken end = ⊥

-- one read, after so many bytes were taken
abbrev pub ReadsPiece : Shown → Shown → ℕ → List ℕ → Result ℕ CheckEnd → Type 0
ReadsPiece source now taken buf (Ok count) = (count ≤ length buf) × (taken + count ≤ MAX_BYTES)
    × GivesBytes source now (take count buf) × HasNoFault source now
    × (count ≡ 0 → HasEnded now)
ReadsPiece source now taken buf (Err end) =
    GivesBytes source now [] × StopsReading source now taken end

-- the rest of the input was read to its end, or why it wasn't
abbrev pub ReadsRest : Shown → Shown → ℕ → List ℕ → Option CheckEnd → Type 0
ReadsRest source now taken piece None = HasNoFault source now × HasEnded now
ReadsRest source now taken piece (Some end) = StopsReading source now (taken + length piece) end

-- what comes from the source to its end, after so many bytes were taken
pub record Exhausts (source now : Shown) (taken : ℕ) (piece : List ℕ) (end : Option CheckEnd)
    : Type 0 where
  pub read : GivesBytes source now piece
  pub few : taken ≤ MAX_BYTES → taken + length piece ≤ MAX_BYTES
  pub rest : ReadsRest source now taken piece end

-- it is collected after these bytes
abbrev pub Collects : Shown → Shown → ℕ → List ℕ → Result (Vec ℕ Global) CheckEnd → Type 0
Collects source now taken before (Ok all) = (piece : List ℕ)
    × Exhausts source now taken piece None × (all.items ≡ before ++ piece)
Collects source now taken before (Err end) = (piece : List ℕ)
    × Exhausts source now taken piece (Some end)

-- it is thrown away
abbrev pub ThrowsAway : Shown → Shown → ℕ → Result (Unit {0}) CheckEnd → Type 0
ThrowsAway source now taken (Ok done) = (piece : List ℕ) × Exhausts source now taken piece None
ThrowsAway source now taken (Err end) = (piece : List ℕ)
    × Exhausts source now taken piece (Some end)

-- ---- a script so far

-- The bytes that the source gave so far, so many, begin with these frames, which were performed
-- well.
pub record IsSoFar (vault vault_now : Holding) (source source_now : Shown) (bytes : List ℕ)
    (frames : List Frame) (script : Script) : Type 0 where
  pub grows : Grows vault vault_now
  pub read : GivesBytes source source_now bytes
  pub fine : HasNoFault source source_now
  pub counted : script.taken ≡ length bytes
  pub few : script.taken ≤ MAX_BYTES
  pub replies : List ReplyData
  pub transcript : Transcript (PerformsWell vault_now.held) (opening vault) frames replies
      (session_over vault_now script.session).state

-- the framer is after the frames, or after the text of one more whose body is to come
pub record IsOn (vault vault_now : Holding) (source source_now : Shown) (script : Script)
    : Type 0 where
  pub bytes : List ℕ
  pub frames : List Frame
  pub here : IsSoFar vault vault_now source source_now bytes frames script
  pub before : Option (List ℕ)
  pub stands : Stands IsLoad bytes frames before script.framer
  pub waits : WaitsFor before script.waiting

-- the framer gave this text, and nothing was done with it yet
pub record IsFramed (vault vault_now : Holding) (source source_now : Shown) (words : List ℕ)
    (script : Script) : Type 0 where
  pub bytes : List ℕ
  pub frames : List Frame
  pub here : IsSoFar vault vault_now source source_now bytes frames script
  pub before : Input
  pub stands : Stands IsLoad bytes frames None before
  pub gives : IsNext before (statement words) script.framer
  pub free : script.waiting ≡ None

-- the framer gave the body of the statement that waits for it
pub record HasBody (vault vault_now : Holding) (source source_now : Shown) (content : Content)
    (script : Script) : Type 0 where
  pub bytes : List ℕ
  pub frames : List Frame
  pub here : IsSoFar vault vault_now source source_now bytes frames script
  pub before : Input
  pub words : List ℕ
  pub stands : Stands IsLoad bytes frames (Some words) before
  pub gives : IsNext before (given content) script.framer
  pub waits : WaitsFor (Some words) script.waiting

-- the framer is after this frame, which is still to be performed
pub record IsAfter (vault vault_now : Holding) (source source_now : Shown) (frame : Frame)
    (script : Script) : Type 0 where
  pub bytes : List ℕ
  pub frames : List Frame
  pub here : IsSoFar vault vault_now source source_now bytes frames script
  pub rest : List ℕ
  pub begins : Begins IsLoad bytes frames rest
  pub after : List ℕ
  pub first : IsFirst IsLoad rest frame after
  pub stands : Stands IsLoad bytes (frames ++ frame ∷ []) None script.framer
  pub free : script.waiting ≡ None

-- no further frame is whole, and none is too long
pub record IsNeeding (vault vault_now : Holding) (source source_now : Shown) (script : Script)
    : Type 0 where
  pub bytes : List ℕ
  pub frames : List Frame
  pub here : IsSoFar vault vault_now source source_now bytes frames script
  pub before : Option (List ℕ)
  pub stands : Stands IsLoad bytes frames before script.framer
  pub waits : WaitsFor before script.waiting
  pub rest : List ℕ
  pub begins : Begins IsLoad bytes frames rest
  pub none : ComesNone rest

-- ---- the end of a script

-- the bytes that the source gave begin with a script
pub record HasScript (vault vault_now : Holding) (source source_now : Shown) (bytes rest : List ℕ)
    (state : SessionState) : Type 0 where
  pub grows : Grows vault vault_now
  pub own : state.own ≡ vault_now.own
  pub read : GivesBytes source source_now bytes
  pub most : length bytes ≤ MAX_BYTES
  pub script : IsScript vault_now.held (opening vault) bytes rest state

-- the query, and these bytes after it; or the line of the frame that is refused
abbrev pub Comes : History → SessionState → List ℕ → List ℕ → Stop → Type 0
Comes history state rest after (stops.Query query) = ComesQuery rest query after
Comes history state rest after (stops.Refused line) = (reply : ReplyData)
    × ComesRefused history state rest reply × (line.items ≡ refused_line reply)

-- the script ends with what comes then, of which some may be still to be read
pub record IsStopped (vault vault_now : Holding) (source source_now : Shown) (script : Script)
    (stop : Stop) : Type 0 where
  pub bytes : List ℕ
  pub rest : List ℕ
  pub state : SessionState
  pub has : HasScript vault vault_now source source_now bytes rest state
  pub fine : HasNoFault source source_now
  pub counted : script.taken ≡ length bytes
  pub comes : Comes vault_now.held state rest script.framer.left stop

-- why a check ends without a line
abbrev pub Breaks : History → SessionState → List ℕ → ℕ → Shown → Shown → CheckEnd → Type 0
Breaks history state rest taken source now ends.Truncated =
    ComesNone rest × HasEnded now × HasNoFault source now
Breaks history state rest taken source now ends.ReadFault =
    ReadsOn history state rest × HasFailed source now
Breaks history state rest taken source now ends.Memory = HasNoFault source now
Breaks history state rest taken source now ends.TooLong =
    NoneWhole IsLoad rest × IsOverlong rest × HasNoFault source now
Breaks history state rest taken source now ends.SessionLimit =
    ReadsOn history state rest × (taken ≡ MAX_BYTES) × HasNoFault source now
Breaks history state rest taken source now end = ⊥

pub record IsBroken (vault vault_now : Holding) (source source_now : Shown) (end : CheckEnd)
    : Type 0 where
  pub bytes : List ℕ
  pub rest : List ℕ
  pub state : SessionState
  pub has : HasScript vault vault_now source source_now bytes rest state
  pub breaks : Breaks vault_now.held state rest (length bytes) source source_now end

-- how a script is after a turn, by its result
abbrev pub IsTurned : Holding → Holding → Shown → Shown → Script
    → Result (Option Stop) CheckEnd → Type 0
IsTurned vault vault_now source source_now script (Ok None) =
    IsOn vault vault_now source source_now script
IsTurned vault vault_now source source_now script (Ok (Some stop)) =
    IsStopped vault vault_now source source_now script stop
IsTurned vault vault_now source source_now script (Err end) =
    IsBroken vault vault_now source source_now end

-- how a script is after all its turns
abbrev pub IsRun : Holding → Holding → Shown → Shown → Script → Result Stop CheckEnd → Type 0
IsRun vault vault_now source source_now script (Ok stop) =
    IsStopped vault vault_now source source_now script stop
IsRun vault vault_now source source_now script (Err end) =
    IsBroken vault vault_now source source_now end

-- how much is left to do at most
abbrev pub left_to_do : Script → ℕ
left_to_do script = 3 * (MAX_BYTES - script.taken) + size script.framer

-- ---- what the parts of a turn do, wherever the script began

-- the frame that the script is after is performed with this statement
abbrev pub PerformsNext : Statement → Content → Holding → Script → Holding → Script
    → Result (Option Stop) CheckEnd → Type 0
PerformsNext t content before old after new result = (vault : Holding) (source now : Shown)
    (words : List ℕ)
    → IsAfter vault before source now (record { text = words; content = content }) old
    → IsStatement words t → IsNoQuery t → IsTurned vault after source now new result

-- the text of a frame is begun or performed
abbrev pub BeginsNext : List ℕ → Holding → Script → Holding → Script
    → Result (Option Stop) CheckEnd → Type 0
BeginsNext words before old after new result = (vault : Holding) (source now : Shown)
    → IsFramed vault before source now words old → IsTurned vault after source now new result

-- the text of this statement
abbrev pub StartsNext : Statement → Holding → Script → Holding → Script
    → Result (Option Stop) CheckEnd → Type 0
StartsNext t before old after new result = (vault : Holding) (source now : Shown)
    (words : List ℕ)
    → IsFramed vault before source now words old → IsStatement words t
    → IsTurned vault after source now new result

-- the statement that waits is performed with its body
abbrev pub FinishesNext : Content → Holding → Script → Holding → Script
    → Result (Option Stop) CheckEnd → Type 0
FinishesNext content before old after new result = (vault : Holding) (source now : Shown)
    → HasBody vault before source now content old → IsTurned vault after source now new result

-- one more piece was read
abbrev pub IsFed : Holding → Holding → Shown → Shown → Script → Result (Unit {0}) CheckEnd → Type 0
IsFed vault vault_now source source_now script (Ok done) =
    IsOn vault vault_now source source_now script
IsFed vault vault_now source source_now script (Err end) =
    IsBroken vault vault_now source source_now end

-- no frame is whole, and one more piece is read
abbrev pub ReadsNext : Shown → Script → Shown → Script → Result (Unit {0}) CheckEnd → Type 0
ReadsNext before old after new result = (vault vault_now : Holding) (source : Shown)
    → IsNeeding vault vault_now source before old
    → IsFed vault vault_now source after new result

-- all turns
abbrev pub Runs : Holding → Shown → Script → Holding → Shown → Script
    → Result Stop CheckEnd → Type 0
Runs before source_before old after source_after new result = (vault : Holding)
    (source : Shown) → IsOn vault before source source_before old
    → IsRun vault after source source_after new result

-- a turn
abbrev pub TurnsNext : Holding → Shown → Script → Holding → Shown → Script
    → Result (Option Stop) CheckEnd → Type 0
TurnsNext before source_before old after source_after new result = (vault : Holding)
    (source : Shown) → IsOn vault before source source_before old
    → IsTurned vault after source source_after new result

-- ---- the end of the input

-- the input is read to its end, and this line is due
pub record IsHeard (vault vault_now : Holding) (source source_now : Shown) (line : Line)
    : Type 0 where
  pub bytes : List ℕ
  pub rest : List ℕ
  pub state : SessionState
  pub has : HasScript vault vault_now source source_now bytes rest state
  pub fine : HasNoFault source source_now
  pub ended : HasEnded source_now
  pub due : IsLine vault_now.held state rest line.bytes.items line.end

abbrev pub Hears : Holding → Holding → Shown → Shown → Result Line CheckEnd → Type 0
Hears vault vault_now source source_now (Ok line) =
    IsHeard vault vault_now source source_now line
Hears vault vault_now source source_now (Err end) =
    IsBroken vault vault_now source source_now end
