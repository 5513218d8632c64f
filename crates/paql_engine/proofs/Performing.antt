-- What a machine does with the text of a frame, and with a body.
use Rattle.std.proofs.Common.{◌≡◌, ◌≢◌, ℕ, ◌+◌, ◌≤◌, min, Option, None, Some, Result, Ok, Err, List, [], ◌∷◌, ◌++◌, length, inr, IfOk, OnErr, refl, sym, ap, subst, ◌∙◌, arith, append-nil, length-drop}
use Rattle.std.specs.declared.alloc.AllocError.{AllocError}
use Rattle.paql_ast.specs.declared.statements.Statement.{Statement}
use Rattle.paql_ast.specs.declared.statements.Statement.TheVariants.{Load}
use Rattle.paql_grammar.specs.Texts.{IsStatement}
use Rattle.paql_lexer.specs.Tokens.{IsTokens}
use Rattle.session_proto.specs.Input.{Input, Content, awaiting, asked}
use Rattle.session_proto.specs.Refusals.{Refusal, refusal_of}
use Rattle.session_proto.specs.Replies.{ReplyData, reply_text}
use Rattle.session_proto.specs.Sessions.{Frame}
use Rattle.session_proto.proofs.SessionSteps.{stands_after_statement, stands_awaiting, stands_after_body}
use Rattle.paql_engine.specs.Conversation.{Stage, Conversation, MachineData, OwnMachine, over, WaitsFor, IsAtStage, IsServing, size, debt}
use Rattle.paql_engine.specs.Machine.{HasText}
use Rattle.paql_engine.specs.Replied.{reply_of}
use Rattle.version_store.specs.Histories.{History}
use Rattle.version_store.specs.Vaults.{Holding, IsPrefix, Sees}
use Rattle.paql_engine.specs.State.{SessionState, OwnSession, Grows, session_over}
use Rattle.paql_engine.specs.Steps.{Steps, Stays}
use Rattle.paql_engine.specs.Texts.{IsLoad, FaultOf}
use Rattle.paql_engine.specs.Transcript.{Transcript, Answers, refuses, performs, lacks}
use Rattle.paql_engine.specs.Turns.{IsFramedIn, IsAfter, HasBody, Owes, IsOwedNow, IsFewer, replied, bare, waiting_for}
use Rattle.paql_engine.specs.declared.machine.Wish.{Wish}
use Rattle.paql_engine.specs.declared.session.Answer.{Answer}
use Rattle.paql_engine.proofs.Blank.{blank_of_no_tokens}
use Rattle.paql_engine.proofs.Rows.{becomes_over, sees_same}
use Rattle.paql_engine.proofs.Serving.{account_of, with_talk}
use Rattle.paql_engine.proofs.TextOnce.{no_load, faulty_no_load}
use Rattle.paql_engine.proofs.Transcripts.{transcript_more, transcript_longer, texts_more}

-- the same machine with another session
abbrev pub with_session : OwnMachine → OwnSession → OwnMachine
with_session machine session = record { session = session; talk = machine.talk }

-- ---- the answer of a frame

stays_same : (before after : Holding) (old new : OwnSession) → Sees before after → new ≡ old → Stays after.held (session_over before old).state (session_over after new).state
stays_same before after old new sees same =
    subst (λ (session : OwnSession). Stays after.held (session_over before old).state (session_over after session).state) (sym same)
    (becomes_over before after old.queue old.queue old.kept old.kept sees)

-- a statement's answer is its frame's, and so is the refusal if memory runs out
pub performed : (before after : Holding) (old new : OwnSession) (frame : Frame) (t : Statement) (answered : Result Answer AllocError) → IsStatement frame.text t
    → IfOk answered (λ (a : Answer). Steps after.held (session_over before old).state t frame.content (reply_of a) (session_over after new).state)
    → OnErr answered (new ≡ old) → OnErr answered (Sees before after)
    → Answers after.held (session_over before old).state frame (replied answered) (session_over after new).state
performed before after old new frame t (Ok answer) is steps keeps sees = performs (record { statement = t; is = is; steps = steps })
performed before after old new frame t (Err fault) is steps keeps sees = lacks (record { shown = refl; stays = stays_same before after old new sees keeps })

pub refused : (vault : Holding) (session : OwnSession) (frame : Frame) (cause : Refusal) (answered : Result Answer AllocError) → FaultOf frame.text cause
    → IfOk answered (λ (a : Answer). reply_of a ≡ refusal_of cause)
    → Answers vault.held (session_over vault session).state frame (replied answered) (session_over vault session).state
refused vault session frame cause (Ok answer) fault shown = refuses (record { cause = cause; fault = fault; shown = shown; keeps = refl })
refused vault session frame cause (Err error) fault shown = lacks (record { shown = refl; stays = stays_same vault vault session session (sees_same vault) refl })

-- the transcript with one more frame, over the history that there is then
transcript_after : (first old new : SessionState) (history now : History) (frames : List Frame) (replies : List ReplyData) (frame : Frame) (reply : ReplyData) → IsPrefix history now
    → Transcript (Answers history) first frames replies old → Answers now old frame reply new
    → Transcript (Answers now) first (frames ++ frame ∷ []) (replies ++ reply ∷ []) new
transcript_after first old new history now frames replies frame reply more so_far answers =
    let longer = transcript_longer history more.0 first old frames replies so_far in
    let whole = subst (λ (h : History). Transcript (Answers h) first frames replies old) (sym more.1) longer in
    transcript_more (Answers now) first old new frames replies frame reply whole answers

-- ---- what is owed then

owed_or_ended : (first : SessionState) (bytes written : List ℕ) (frame : Frame) (before after : Holding) (machine : OwnMachine) (session : OwnSession) (answered : Result Answer AllocError) (owed : Option (List ℕ)) (wish : Wish) (new : OwnMachine)
    → IsPrefix before.held after.held → Answers after.held (session_over before machine.session).state frame (replied answered) (session_over after session).state
    → Owes answered owed → IsOwedNow owed (with_session machine session) wish new → IsAfter first bytes written frame (over before machine) → IsServing first bytes written (over after new)
owed_or_ended first bytes written frame before after machine session answered (Some owed) wish new more answers owes now is =
    rw now.1 (record {
      frames = is.frames ++ frame ∷ [];
      replies = is.replies ++ replied answered ∷ [];
      serves = record {
        counted = is.here.counted;
        few = is.here.few;
        transcript = transcript_after first (session_over before machine.session).state (session_over after session).state before.held after.held is.frames is.replies frame (replied answered) more is.here.transcript answers;
        stage = (
          texts_more is.replies (replied answered) ∙ ap (λ (l : List ℕ). l ++ reply_text (replied answered)) (sym is.here.paid) ∙ ap (λ (l : List ℕ). written ++ l) (sym owes),
          record { before = None; stands = is.stands; waits = subst (λ (w : Option Statement). WaitsFor None w) (sym is.free) tt },
        );
      };
    })
owed_or_ended first bytes written frame before after machine session answered None wish new more answers owes now is =
    rw now.1 (record {
      frames = is.frames ++ frame ∷ [];
      replies = is.replies ++ replied answered ∷ [];
      serves = record {
        counted = is.here.counted;
        few = is.here.few;
        transcript = transcript_after first (session_over before machine.session).state (session_over after session).state before.held after.held is.frames is.replies frame (replied answered) more is.here.transcript answers;
        stage = ((is.stands.rest, is.stands.begins), inr (is.replies, replied answered, refl, is.here.paid));
      };
    })

pub performs_frame : (first : SessionState) (bytes written words : List ℕ) (t : Statement) (content : Content) (before after : Holding) (machine : OwnMachine) (session : OwnSession) (answered : Result Answer AllocError) (owed : Option (List ℕ)) (wish : Wish) (new : OwnMachine)
    → IfOk answered (λ (a : Answer). Steps after.held (session_over before machine.session).state t content (reply_of a) (session_over after session).state)
    → Grows before after → OnErr answered (session ≡ machine.session) → OnErr answered (Sees before after)
    → Owes answered owed → IsOwedNow owed (with_session machine session) wish new
    → IsAfter first bytes written (record { text = words; content = content }) (over before machine) → IsStatement words t → IsServing first bytes written (over after new)
performs_frame first bytes written words t content before after machine session answered owed wish new steps more keeps sees owes now is_after is =
    let frame : Frame = record { text = words; content = content } in
    owed_or_ended first bytes written frame before after machine session answered owed wish new more.held (performed before after machine.session session frame t answered is steps keeps sees) owes now is_after

pub refuses_frame : (first : SessionState) (bytes written words : List ℕ) (cause : Refusal) (vault : Holding) (machine : OwnMachine) (answered : Result Answer AllocError) (owed : Option (List ℕ)) (wish : Wish) (new : OwnMachine)
    → IfOk answered (λ (a : Answer). reply_of a ≡ refusal_of cause) → Owes answered owed → IsOwedNow owed machine wish new
    → IsAfter first bytes written (bare words) (over vault machine) → FaultOf words cause → IsServing first bytes written (over vault new)
refuses_frame first bytes written words cause vault machine answered owed wish new shown owes now is_after fault =
    owed_or_ended first bytes written (bare words) vault vault machine machine.session answered owed wish new (sees_same vault).held (refused vault machine.session (bare words) cause answered fault shown) owes now is_after

-- ---- the frame of a text

after_text : (first : SessionState) (bytes written words : List ℕ) (machine : MachineData) → IsFramedIn first bytes written words machine → ((count : ℕ) → ¬ IsLoad words count) → IsAfter first bytes written (bare words) machine
after_text first bytes written words machine is unwanted = record {
  frames = is.frames;
  replies = is.replies;
  here = is.here;
  stands = stands_after_statement IsLoad bytes words is.frames is.framed.before machine.talk.input is.framed.stands is.framed.gives unwanted;
  free = is.framed.free;
}

-- another statement than a LOAD has no body
pub after_plain : (first : SessionState) (bytes written words : List ℕ) (t : Statement) (machine : MachineData) → IsFramedIn first bytes written words machine → IsStatement words t
    → ((table : List ℕ) (count : ℕ) → t ≢ Load table count) → IsAfter first bytes written (bare words) machine
after_plain first bytes written words t machine is spelled plain = after_text first bytes written words machine is (no_load words t spelled plain)

-- nor has a text with a fault
pub after_fault : (first : SessionState) (bytes written words : List ℕ) (cause : Refusal) (machine : MachineData) → IsFramedIn first bytes written words machine → FaultOf words cause → IsAfter first bytes written (bare words) machine
after_fault first bytes written words cause machine is fault = after_text first bytes written words machine is (faulty_no_load words cause fault)

-- a machine with a text to parse has framed it
pub framed_in : (first : SessionState) (bytes written words : List ℕ) (machine : MachineData) → HasText machine.talk words → IsServing first bytes written machine → IsFramedIn first bytes written words machine
framed_in first bytes written words machine has serving =
    let at = subst (λ (s : Stage). IsAtStage (account_of bytes serving.frames serving.replies written) machine.talk s) has serving.serves.stage in
    record {
      frames = serving.frames;
      replies = serving.replies;
      here = record { counted = serving.serves.counted; few = serving.serves.few; transcript = serving.serves.transcript; paid = at.0.0 };
      framed = at.1;
      quiet = at.0.1;
    }

-- a text without a token isn't framed
pub never_blank : (first : SessionState) (bytes written words : List ℕ) (machine : MachineData) → IsTokens words [] → ¬ IsFramedIn first bytes written words machine
never_blank first bytes written words machine empty is =
    let blank = blank_of_no_tokens words empty in
    let shown = is.framed.gives.is_statement.1 in
    cc

-- ---- bodies

pub waits_for : (first : SessionState) (bytes written words : List ℕ) (t : Statement) (count : ℕ) (machine : MachineData)
    → (table : List ℕ) × (t ≡ Load table count) → IsFramedIn first bytes written words machine → IsStatement words t → IsServing first bytes written (with_talk machine (waiting_for machine.talk t (awaiting machine.talk.input count)))
waits_for first bytes written words t count machine load is spelled =
    let wanted : IsLoad words count = (load.0, subst (λ (u : Statement). IsStatement words u) load.1 spelled) in
    let stands = stands_awaiting IsLoad bytes words is.frames is.framed.before machine.talk.input count is.framed.stands is.framed.gives wanted in
    record {
      frames = is.frames;
      replies = is.replies;
      serves = record {
        counted = is.here.counted;
        few = is.here.few;
        transcript = is.here.transcript;
        stage = (
          sym is.here.paid ∙ sym (append-nil written) ∙ ap (λ (l : List ℕ). written ++ l) (sym is.quiet),
          record { before = Some words; stands = stands; waits = spelled },
        );
      };
    }

size_awaiting : (count : ℕ) (old : Input) → size (awaiting old count) ≤ size old + 1
size_awaiting count old =
    let taken = min (asked count).owed (length old.left) in
    omega (arith, length-drop taken old.left)

debt_one : (owed : List ℕ) → debt owed ≤ 1
debt_one [] = omega arith
debt_one (byte ∷ owed) = omega arith

pub fewer_awaiting : (t : Statement) (count : ℕ) (talk : Conversation) → IsFewer talk (waiting_for talk t (awaiting talk.input count))
fewer_awaiting t count talk = omega (arith, debt_one talk.owed, size_awaiting count talk.input)

-- with its body the frame is whole
pub after_body : (first : SessionState) (bytes written : List ℕ) (content : Content) (machine : MachineData) (body : HasBody first bytes written content machine)
    → IsAfter first bytes written (record { text = body.words; content = content }) (record {
      session = machine.session;
      talk = record { input = machine.talk.input; waiting = None; owed = machine.talk.owed; taken = machine.talk.taken; stage = machine.talk.stage };
    })
after_body first bytes written content machine body = record {
  frames = body.frames;
  replies = body.replies;
  here = record { counted = body.here.counted; few = body.here.few; transcript = body.here.transcript; paid = body.here.paid };
  stands = stands_after_body IsLoad bytes body.words body.frames content body.before machine.talk.input body.stands body.gives;
  free = refl;
}

-- the statement that waits is that of the text
pub waiting_is : (words : List ℕ) (waiting : Option Statement) (t : Statement) → waiting ≡ Some t → WaitsFor (Some words) waiting → IsStatement words t
waiting_is words waiting t e waits = subst (λ (w : Option Statement). WaitsFor (Some words) w) e waits

-- some statement waits for the body
pub waiting_some : (words : List ℕ) (waiting : Option Statement) → waiting ≡ None → ¬ WaitsFor (Some words) waiting
waiting_some words waiting e waits = subst (λ (w : Option Statement). WaitsFor (Some words) w) e waits
