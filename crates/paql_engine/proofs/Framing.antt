-- What each answer of the framer makes of a machine.
use Rattle.std.proofs.Common.{◌≡◌, ℕ, ◌+◌, ◌-◌, ◌<◌, ◌≤◌, min, Option, None, Some, List, [], ◌∷◌, ◌++◌, length, inl, refl, ap, subst, ◌∙◌, append-nil, length-append, arith}
use Rattle.std.specs.List.{flat_map}
use Rattle.paql_ast.specs.declared.statements.Statement.{Statement}
use Rattle.session_proto.specs.Frames.{Skips, closed}
use Rattle.session_proto.specs.Input.{Input, Content, absent, held, skipped, IsContent, Needs as NeedsMore, IsNext, statement, content as given, need, too_long}
use Rattle.session_proto.specs.Replies.{ReplyData}
use Rattle.session_proto.specs.Sessions.{Frame, Stands, AreFrames}
use Rattle.session_proto.specs.declared.framer.Awaited.{Awaited}
use Rattle.session_proto.proofs.SessionSteps.{needs_at_end, too_long_at_end}
use Rattle.session_proto.proofs.CleanEnds.{clean_at_end}
use Rattle.version_store.specs.Vaults.{Holding}
use Rattle.paql_engine.specs.State.{SessionState}
use Rattle.paql_engine.specs.Conversation.{Conversation, MachineData, OwnMachine, over, talks, WaitsFor, IsBetween, HasNoFrame, IsFramed, IsServing, parsing, ended, size, body_awaited}
use Rattle.paql_engine.specs.Ends.{EndsSo}
use Rattle.paql_engine.specs.Texts.{IsLoad}
use Rattle.paql_engine.specs.Turns.{IsHere, HasBody, Needs, stops, reads}
use Rattle.paql_engine.specs.declared.ending.SessionEnd.TheVariants as ends
use Rattle.paql_engine.specs.declared.ending.TheConstants.{MAX_BYTES, MAX_READ}
use Rattle.paql_engine.specs.declared.machine.Wish.{Wish}
use Rattle.paql_engine.proofs.Serving.{IsOpen, account_of, begun, ends_at, with_talk, staged}
use Rattle.paql_engine.proofs.TextOnce.{load_once}

-- the same conversation with other bytes held
abbrev pub holds : Conversation → Input → Conversation
holds talk input = record {
  input = input;
  waiting = talk.waiting;
  owed = talk.owed;
  taken = talk.taken;
  stage = talk.stage;
}

abbrev pub with_input : MachineData → Input → MachineData
with_input machine input = with_talk machine (holds machine.talk input)

here_with : (first : SessionState) (bytes written : List ℕ) (frames : List Frame) (replies : List ReplyData) (machine : MachineData) (input : Input)
    → IsHere first bytes written frames replies machine → IsHere first bytes written frames replies (with_input machine input)
here_with first bytes written frames replies machine input here =
    record { counted = here.counted; few = here.few; transcript = here.transcript; paid = here.paid }

-- ---- the bytes that are left

skips_fewer : (bytes rest : List ℕ) → Skips bytes rest → length rest ≤ length bytes
skips_fewer bytes rest skips =
    omega (arith, ap (λ (w : List ℕ). length w) skips.2, length-append (flat_map closed skips.0) rest)

closed_longer : (text rest : List ℕ) → length rest + 1 ≤ length (closed text ++ rest)
closed_longer text rest = omega (arith, length-append (closed text) rest, length-append text (59 ∷ []))

none_awaited : (awaited : Option Awaited) → awaited ≡ None → body_awaited awaited ≡ 0
none_awaited awaited none = ap (λ (a : Option Awaited). body_awaited a) none

some_awaited : (awaited : Option Awaited) (body : Awaited) → awaited ≡ Some body → body_awaited awaited ≡ 1
some_awaited awaited body some = ap (λ (a : Option Awaited). body_awaited a) some

content_fewer : (body : Awaited) (old new : List ℕ) (given : Content) → IsContent body old given new → length new ≤ length old
content_fewer body old new absent is = absurd is
content_fewer body old new (held bytes) is = omega (arith, ap (λ (w : List ℕ). length w) is.2, length-append bytes new)
content_fewer body old new (skipped count) is = omega (arith, ap (λ (w : List ℕ). length w) is.3)

none_not_some : (awaited : Option Awaited) (body : Awaited) → awaited ≡ None → awaited ≡ Some body → ⊥
none_not_some awaited body none some = cc

pub size_framed : (words : List ℕ) (old new : Input) → IsNext old (statement words) new → size new + 2 ≤ size old
size_framed words old new next =
    omega (arith, skips_fewer old.left (closed words ++ new.left) next.first, closed_longer words new.left, none_awaited old.awaited next.before, none_awaited new.awaited next.behind)

pub size_body : (content : Content) (old new : Input) → IsNext old (given content) new → size new < size old
size_body content old new next =
    omega (arith, content_fewer next.body old.left new.left content next.is_content, some_awaited old.awaited next.body next.before, none_awaited new.awaited next.behind)

needs_fewer : (awaited : Option Awaited) (old new : Input) → old.awaited ≡ awaited → NeedsMore awaited old new → size new ≤ size old
needs_fewer None old new e needs = omega (arith, skips_fewer old.left new.left needs.1, none_awaited new.awaited needs.0)
needs_fewer (Some body) old new e needs = omega (arith, ap (λ (i : Input). length i.left) needs.0, ap (λ (i : Input). body_awaited i.awaited) needs.0)

pub size_needed : (old new : Input) → IsNext old need new → size new ≤ size old
size_needed old new next = needs_fewer old.awaited old new refl next

-- ---- a statement

nothing_waits : (waiting : Option Statement) → WaitsFor None waiting → waiting ≡ None
nothing_waits None waits = refl
nothing_waits (Some t) waits = absurd waits

framed_by : (before : Option (List ℕ)) (bytes written words : List ℕ) (frames : List Frame) (replies : List ReplyData) (machine : MachineData) (input : Input)
    → IsNext machine.talk.input (statement words) input → Stands IsLoad bytes frames before machine.talk.input → WaitsFor before machine.talk.waiting
    → IsFramed (account_of bytes frames replies written) words (staged (with_input machine input) (parsing words)).talk
framed_by None bytes written words frames replies machine input next stands waits =
    record { before = machine.talk.input; stands = stands; gives = next; free = nothing_waits machine.talk.waiting waits }
framed_by (Some text) bytes written words frames replies machine input next stands waits =
    absurd (none_not_some machine.talk.input.awaited stands.body next.before stands.awaits)

pub frames_text : (first : SessionState) (bytes written words : List ℕ) (machine : MachineData) (input : Input) → IsNext machine.talk.input (statement words) input → machine.talk.owed ≡ []
    → IsOpen first bytes written machine → IsServing first bytes written (staged (with_input machine input) (parsing words))
frames_text first bytes written words machine input next quiet is = record {
  frames = is.frames;
  replies = is.replies;
  serves = record {
    counted = is.here.counted;
    few = is.here.few;
    transcript = is.here.transcript;
    stage = (
      (is.here.paid, quiet),
      framed_by is.between.before bytes written words is.frames is.replies machine input next is.between.stands is.between.waits,
    );
  };
}

-- ---- a body

body_by : (before : Option (List ℕ)) (first : SessionState) (bytes written : List ℕ) (frames : List Frame) (replies : List ReplyData) (content : Content) (machine : MachineData) (input : Input)
    → IsHere first bytes written frames replies machine → IsNext machine.talk.input (given content) input → Stands IsLoad bytes frames before machine.talk.input → WaitsFor before machine.talk.waiting
    → HasBody first bytes written content (with_input machine input)
body_by None first bytes written frames replies content machine input here next stands waits =
    absurd (none_not_some machine.talk.input.awaited next.body stands.awaits next.before)
body_by (Some text) first bytes written frames replies content machine input here next stands waits = record {
  frames = frames;
  replies = replies;
  here = here_with first bytes written frames replies machine input here;
  before = machine.talk.input;
  words = text;
  stands = stands;
  gives = next;
  waits = waits;
}

pub has_body : (first : SessionState) (bytes written : List ℕ) (content : Content) (machine : MachineData) (input : Input) → IsNext machine.talk.input (given content) input
    → IsOpen first bytes written machine → HasBody first bytes written content (with_input machine input)
has_body first bytes written content machine input next is =
    body_by is.between.before first bytes written is.frames is.replies content machine input is.here next is.between.stands is.between.waits

-- ---- more bytes are needed

-- no whole frame is left
no_frame : (first : SessionState) (bytes written : List ℕ) (machine : MachineData) (input : Input) → IsNext machine.talk.input need input → (is : IsOpen first bytes written machine)
    → IsBetween (account_of bytes is.frames is.replies written) (with_input machine input).talk × HasNoFrame (account_of bytes is.frames is.replies written) (with_input machine input).talk
no_frame first bytes written machine input next is =
    let needs = needs_at_end IsLoad load_once bytes is.frames is.between.before machine.talk.input input is.between.stands next in
    let rest = needs.1.0 in
    let are : AreFrames IsLoad bytes is.frames rest = needs.1.1 in (
      record { before = is.between.before; stands = needs.0; waits = is.between.waits },
      record {
        rest = rest;
        are = are;
        not_long = needs.1.2;
        clean = clean_at_end IsLoad bytes is.frames is.between.before machine.talk.input input rest is.between.stands next are;
      },
    )

-- there is no room if the most bytes were taken
all_taken : (taken : ℕ) → min MAX_READ (MAX_BYTES - taken) ≡ 0 → taken ≤ MAX_BYTES → taken ≡ MAX_BYTES
all_taken taken none few = omega (arith, none, few)

pub needs_more : (first : SessionState) (bytes written : List ℕ) (vault : Holding) (machine : OwnMachine) (input : Input) (wish : Wish) (new : OwnMachine) → machine.talk.owed ≡ [] → IsNext machine.talk.input need input
    → Needs (talks machine (holds machine.talk input)) wish new → IsOpen first bytes written (over vault machine) → IsServing first bytes written (over vault new)
needs_more first bytes written vault machine input wish new quiet next (reads some wished is_new) is =
    let none = no_frame first bytes written (over vault machine) input next is in
    rw is_new (record {
      frames = is.frames;
      replies = is.replies;
      serves = record {
        counted = is.here.counted;
        few = is.here.few;
        transcript = is.here.transcript;
        stage = (
          (is.here.paid, quiet),
          record { before = none.0.before; stands = none.0.stands; waits = none.0.waits },
          record { rest = none.1.rest; are = none.1.are; not_long = none.1.not_long; clean = none.1.clean },
        );
      };
    })
needs_more first bytes written vault machine input wish new quiet next (stops none wished is_new) is =
    let open_frame = no_frame first bytes written (over vault machine) input next is in
    let so : EndsSo (account_of bytes is.frames is.replies written) ends.SessionLimit = (
      open_frame.1.rest,
      record { frames = open_frame.1.are; written = is.here.paid },
      open_frame.1.not_long,
      is.here.counted ∙ all_taken machine.talk.taken none is.here.few,
    ) in
    rw is_new (ends_at first bytes written is.frames is.replies (with_input (over vault machine) input) ends.SessionLimit (here_with first bytes written is.frames is.replies (over vault machine) input is.here) so)

-- ---- a frame is too long

long_by : (before : Option (List ℕ)) (first : SessionState) (bytes written : List ℕ) (frames : List Frame) (replies : List ReplyData) (machine : MachineData) (input : Input)
    → IsHere first bytes written frames replies machine → IsNext machine.talk.input too_long input → Stands IsLoad bytes frames before machine.talk.input
    → EndsSo (account_of bytes frames replies written) ends.TooLong
long_by None first bytes written frames replies machine input here next stands =
    let end = too_long_at_end IsLoad bytes [] frames machine.talk.input input stands next in
    (end.0 ++ [], record { frames = subst (λ (w : List ℕ). AreFrames IsLoad w frames (end.0 ++ [])) (append-nil bytes) end.1; written = here.paid }, end.2)
long_by (Some text) first bytes written frames replies machine input here next stands =
    absurd (none_not_some machine.talk.input.awaited stands.body next.before stands.awaits)

pub frames_too_long : (first : SessionState) (bytes written : List ℕ) (machine : MachineData) (input : Input) → IsNext machine.talk.input too_long input
    → IsOpen first bytes written machine → IsServing first bytes written (staged (with_input machine input) (ended ends.TooLong))
frames_too_long first bytes written machine input next is =
    ends_at first bytes written is.frames is.replies (with_input machine input) ends.TooLong (here_with first bytes written is.frames is.replies machine input is.here)
    (long_by is.between.before first bytes written is.frames is.replies machine input is.here next is.between.stands)

-- ---- memory runs out for a frame's text

pub frames_nothing : (first : SessionState) (bytes written : List ℕ) (machine : MachineData) → IsOpen first bytes written machine → IsServing first bytes written (staged machine (ended ends.Memory))
frames_nothing first bytes written machine is =
    ends_at first bytes written is.frames is.replies machine ends.Memory is.here (begun (account_of bytes is.frames is.replies written) machine.talk is.between, inl is.here.paid)
