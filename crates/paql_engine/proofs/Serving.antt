-- How a machine is at its beginning, and after each call of its driver.
use Rattle.std.proofs.Common.{◌≡◌, ℕ, zero, suc, ◌+◌, ◌*◌, ◌<◌, ◌≤◌, min, List, [], ◌∷◌, ◌++◌, length, take, drop, Option, None, Some, Result, Ok, Err, OnOk, inl, refl, sym, ap, subst, ◌∙◌, append-nil, append_assoc, length-append, length-drop, take-append-drop, arith}
use Rattle.std.specs.declared.alloc.AllocError.{AllocError}
use Rattle.paql_ast.specs.declared.statements.Statement.{Statement}
use Rattle.session_proto.specs.Input.{Input, fed, owed, paid}
use Rattle.session_proto.specs.Replies.{ReplyData}
use Rattle.session_proto.specs.Sessions.{Frame, Begins, Stands}
use Rattle.session_proto.specs.declared.framer.Awaited.{Awaited}
use Rattle.session_proto.proofs.SessionSteps.{stands_at_first, stands_fed}
use Rattle.version_store.specs.Vaults.{Holding}
use Rattle.paql_engine.specs.Conversation.{Stage, Conversation, MachineData, OwnMachine, over, IsBetween, IsAtStage, IsServing, framing, parsing, reading, ended, size, body_awaited, debt, turns_at, turns_left, told_at, none, input_ended}
use Rattle.paql_engine.specs.Ends.{Account, IsBegun, EndsSo}
use Rattle.paql_engine.specs.Machine.{room_of, without_owed}
use Rattle.paql_engine.specs.State.{SessionState, OwnSession, opening, nothing_done}
use Rattle.paql_engine.specs.Texts.{IsLoad}
use Rattle.paql_engine.specs.Transcript.{texts}
use Rattle.paql_engine.specs.Turns.{IsFree, IsHere, IsInputEnd, at_stage, stage_fed}
use Rattle.paql_engine.specs.declared.ending.SessionEnd.{SessionEnd}
use Rattle.paql_engine.specs.declared.ending.SessionEnd.TheVariants as ends
use Rattle.paql_engine.specs.declared.ending.TheConstants.{MAX_BYTES}

abbrev pub account_of : List ℕ → List Frame → List ReplyData → List ℕ → Account
account_of bytes frames replies written = record { bytes = bytes; frames = frames; replies = replies; written = written }

-- ---- the beginning

-- the same machine in another conversation
abbrev pub with_talk : MachineData → Conversation → MachineData
with_talk machine talk = record { session = machine.session; talk = talk }

abbrev pub staged : MachineData → Stage → MachineData
staged machine stage = with_talk machine (at_stage machine.talk stage)

abbrev pub wrote_some : MachineData → ℕ → MachineData
wrote_some machine count = with_talk machine (without_owed machine.talk count)

-- what a machine keeps, by its parts
abbrev pub own_machine : OwnSession → Input → Option Statement → List ℕ → ℕ → Stage → OwnMachine
own_machine session input waiting owed taken stage = record {
  session = session;
  talk = record { input = input; waiting = waiting; owed = owed; taken = taken; stage = stage };
}

abbrev pub silent : Conversation
silent = record { input = record { left = []; awaited = None }; waiting = None; owed = []; taken = 0; stage = framing }

pub begins : (vault : Holding) → IsServing (opening vault) [] [] (over vault (record { session = nothing_done; talk = silent }))
begins vault = record {
  frames = [];
  replies = [];
  serves = record {
    counted = refl;
    few = omega arith;
    transcript = refl;
    stage = (refl, record { before = None; stands = stands_at_first IsLoad; waits = tt });
  };
}

-- the frames of a framer are the first of the bytes
begins_at : (bytes : List ℕ) (frames : List Frame) (before : Option (List ℕ)) (input : Input) → Stands IsLoad bytes frames before input
    → (rest : List ℕ) × Begins IsLoad bytes frames rest
begins_at bytes frames None input stands = (stands.rest, stands.begins)
begins_at bytes frames (Some words) input stands = (stands.rest, stands.begins)

-- without memory for it
pub begun_without : EndsSo (account_of [] [] [] []) ends.Memory
begun_without = (begins_at [] [] None (record { left = []; awaited = None }) (stands_at_first IsLoad), inl refl)

-- ---- a machine that may frame

-- with nothing owed
pub record IsOpen (first : SessionState) (bytes written : List ℕ) (machine : MachineData) : Type 0 where
  pub frames : List Frame
  pub replies : List ReplyData
  pub here : IsHere first bytes written frames replies machine
  pub between : IsBetween (account_of bytes frames replies written) machine.talk

paid_all : (bytes written : List ℕ) (frames : List Frame) (replies : List ReplyData) (owed : List ℕ) → owed ≡ [] → texts replies ≡ written ++ owed → written ≡ texts replies
paid_all bytes written frames replies owed nothing owing = sym (owing ∙ ap (λ (l : List ℕ). written ++ l) nothing ∙ append-nil written)

open_at : (stage : Stage) (bytes written : List ℕ) (frames : List Frame) (replies : List ReplyData) (talk : Conversation) → IsFree stage → talk.owed ≡ []
    → IsAtStage (account_of bytes frames replies written) talk stage → (written ≡ texts replies) × IsBetween (account_of bytes frames replies written) talk
open_at framing bytes written frames replies talk free quiet (owing, between) = (paid_all bytes written frames replies talk.owed quiet owing, between)
open_at reading bytes written frames replies talk free quiet (paid, between, no_frame) = (paid.0, between)
open_at (parsing words) bytes written frames replies talk free quiet at = absurd free
open_at (ended end) bytes written frames replies talk free quiet at = absurd free

pub opens : (first : SessionState) (bytes written : List ℕ) (machine : MachineData) → IsFree machine.talk.stage → machine.talk.owed ≡ [] → IsServing first bytes written machine → IsOpen first bytes written machine
opens first bytes written machine free quiet serving =
    let at = open_at machine.talk.stage bytes written serving.frames serving.replies machine.talk free quiet serving.serves.stage in
    record {
      frames = serving.frames;
      replies = serving.replies;
      here = record { counted = serving.serves.counted; few = serving.serves.few; transcript = serving.serves.transcript; paid = at.0 };
      between = at.1;
    }

-- ---- ends

pub begun : (account : Account) (talk : Conversation) → IsBetween account talk → IsBegun account
begun account talk between = begins_at account.bytes account.frames between.before talk.input between.stands

pub ends_at : (first : SessionState) (bytes written : List ℕ) (frames : List Frame) (replies : List ReplyData) (machine : MachineData) (end : SessionEnd)
    → IsHere first bytes written frames replies machine → EndsSo (account_of bytes frames replies written) end → IsServing first bytes written (staged machine (ended end))
ends_at first bytes written frames replies machine end here so = record {
  frames = frames;
  replies = replies;
  serves = record { counted = here.counted; few = here.few; transcript = here.transcript; stage = so };
}

-- what is said at the stage of a machine
at_its_stage : (first : SessionState) (bytes written : List ℕ) (machine : MachineData) (stage : Stage) → machine.talk.stage ≡ stage → (serving : IsServing first bytes written machine)
    → IsAtStage (account_of bytes serving.frames serving.replies written) machine.talk stage
at_its_stage first bytes written machine stage is serving =
    subst (λ (s : Stage). IsAtStage (account_of bytes serving.frames serving.replies written) machine.talk s) is serving.serves.stage

-- what is said of a stage is so of the same conversation at another one
stage_moved : (account : Account) (machine : MachineData) (stage at : Stage) → IsAtStage account machine.talk at → IsAtStage account (staged machine stage).talk at
stage_moved account machine stage framing is = (is.0, record { before = is.1.before; stands = is.1.stands; waits = is.1.waits })
stage_moved account machine stage (parsing words) is = (is.0, record { before = is.1.before; stands = is.1.stands; gives = is.1.gives; free = is.1.free })
stage_moved account machine stage reading is =
    (is.0, record { before = is.1.before; stands = is.1.stands; waits = is.1.waits }, record { rest = is.2.rest; are = is.2.are; not_long = is.2.not_long; clean = is.2.clean })
stage_moved account machine stage (ended end) is = is

-- the same machine at another stage
restaged : (first : SessionState) (bytes written : List ℕ) (machine : MachineData) (stage : Stage) (serving : IsServing first bytes written machine)
    → IsAtStage (account_of bytes serving.frames serving.replies written) machine.talk stage → IsServing first bytes written (staged machine stage)
restaged first bytes written machine stage serving at = record {
  frames = serving.frames;
  replies = serving.replies;
  serves = record {
    counted = serving.serves.counted;
    few = serving.serves.few;
    transcript = serving.serves.transcript;
    stage = stage_moved (account_of bytes serving.frames serving.replies written) machine stage stage at;
  };
}

-- the source or the sink failed, or the input ended
pub read_fails : (first : SessionState) (bytes written : List ℕ) (machine : MachineData) → machine.talk.stage ≡ reading → IsServing first bytes written machine → IsServing first bytes written (staged machine (ended ends.ReadFault))
read_fails first bytes written machine is serving =
    let at = at_its_stage first bytes written machine reading is serving in
    restaged first bytes written machine (ended ends.ReadFault) serving (at.2.rest, record { frames = at.2.are; written = at.0.0 }, at.2.not_long)

pub write_fails : (first : SessionState) (bytes written : List ℕ) (machine : MachineData) → machine.talk.stage ≡ framing → IsServing first bytes written machine → IsServing first bytes written (staged machine (ended ends.WriteFault))
write_fails first bytes written machine is serving =
    let at = at_its_stage first bytes written machine framing is serving in
    restaged first bytes written machine (ended ends.WriteFault) serving (begun (account_of bytes serving.frames serving.replies written) machine.talk at.1, (machine.talk.owed, at.0))

pub input_ends : (end : SessionEnd) (first : SessionState) (bytes written : List ℕ) (machine : MachineData) → machine.talk.stage ≡ reading → IsInputEnd machine.talk.input end
    → IsServing first bytes written machine → IsServing first bytes written (staged machine (ended end))
input_ends ends.Done first bytes written machine is clean serving =
    let at = at_its_stage first bytes written machine reading is serving in
    restaged first bytes written machine (ended ends.Done) serving (at.2.rest, record { frames = at.2.are; written = at.0.0 }, at.2.not_long, at.2.clean.0 clean)
input_ends ends.Truncated first bytes written machine is unclean serving =
    let at = at_its_stage first bytes written machine reading is serving in
    restaged first bytes written machine (ended ends.Truncated) serving (at.2.rest, record { frames = at.2.are; written = at.0.0 }, at.2.not_long, λ clean. unclean (at.2.clean.1 clean))
input_ends ends.ReadFault first bytes written machine is never serving = absurd never
input_ends ends.WriteFault first bytes written machine is never serving = absurd never
input_ends ends.Memory first bytes written machine is never serving = absurd never
input_ends ends.TooLong first bytes written machine is never serving = absurd never
input_ends ends.SessionLimit first bytes written machine is never serving = absurd never

-- the input ended
pub told_ended : (end : SessionEnd) (input : Input) → IsInputEnd input end → told_at (ended end) ≡ input_ended
told_ended ends.Done input is = refl
told_ended ends.Truncated input is = refl
told_ended ends.ReadFault input never = absurd never
told_ended ends.WriteFault input never = absurd never
told_ended ends.Memory input never = absurd never
told_ended ends.TooLong input never = absurd never
told_ended ends.SessionLimit input never = absurd never

-- ---- bytes are written

pub writes_some : (count : ℕ) (first : SessionState) (bytes written : List ℕ) (machine : MachineData) → machine.talk.stage ≡ framing → IsServing first bytes written machine
    → IsServing first bytes (written ++ take count machine.talk.owed) (wrote_some machine count)
writes_some count first bytes written machine is serving =
    let at = at_its_stage first bytes written machine framing is serving in
    let parts = sym (take-append-drop count machine.talk.owed) in
    let account = account_of bytes serving.frames serving.replies (written ++ take count machine.talk.owed) in
    let now : IsAtStage account (wrote_some machine count).talk framing = (
      at.0 ∙ ap (λ (l : List ℕ). written ++ l) parts ∙ sym (append_assoc written (take count machine.talk.owed) (drop count machine.talk.owed)),
      record { before = at.1.before; stands = at.1.stands; waits = at.1.waits },
    ) in
    record {
      frames = serving.frames;
      replies = serving.replies;
      serves = record {
        counted = serving.serves.counted;
        few = serving.serves.few;
        transcript = serving.serves.transcript;
        stage = subst (λ (s : Stage). IsAtStage account (wrote_some machine count).talk s) (sym is) now;
      };
    }

debt_less : (count : ℕ) (owed : List ℕ) → debt (drop count owed) ≤ debt owed
debt_less count [] = debt_none count
  where
    debt_none : (n : ℕ) → debt (drop n []) ≤ 0
    debt_none n = omega (arith, simp_none n)
      where
        simp_none : (n : ℕ) → debt (drop n []) ≡ 0
        simp_none zero = refl
        simp_none (suc n) = refl
debt_less count (byte ∷ owed) = debt_one (drop count (byte ∷ owed))
  where
    debt_one : (l : List ℕ) → debt l ≤ 1
    debt_one [] = omega arith
    debt_one (b ∷ l) = omega arith

-- with all of it written, fewer turns are left
pub turns_written : (count : ℕ) (machine : MachineData) → machine.talk.stage ≡ framing → turns_left (wrote_some machine count).talk ≤ turns_left machine.talk
turns_written count machine is =
    let less : turns_at (wrote_some machine count).talk framing ≤ turns_at machine.talk framing = omega (arith, debt_less count machine.talk.owed) in
    subst (λ (s : Stage). turns_at (wrote_some machine count).talk s ≤ turns_at machine.talk s) (sym is) less

-- ---- bytes come

paid_awaited : (awaited : Option Awaited) (count : ℕ) → body_awaited (paid awaited count) ≡ body_awaited awaited
paid_awaited None count = refl
paid_awaited (Some body) count = refl

pub size_fed : (input : Input) (piece : List ℕ) → size (fed input piece) ≤ size input + 2 * length piece
size_fed input piece =
    let left = input.left ++ piece in
    let count = min (owed input.awaited) (length left) in
    omega (arith, length-drop count left, length-append input.left piece, paid_awaited input.awaited count)

-- the machine takes these bytes too
abbrev pub fed_talk : Conversation → List ℕ → Input → Stage → Conversation
fed_talk talk piece input stage = record {
  input = input;
  waiting = talk.waiting;
  owed = talk.owed;
  taken = talk.taken + length piece;
  stage = stage;
}

abbrev pub fed_with : MachineData → List ℕ → Input → Stage → MachineData
fed_with machine piece input stage = with_talk machine (fed_talk machine.talk piece input stage)

few_more : (machine : MachineData) (piece : List ℕ) → length piece ≤ room_of machine.talk → machine.talk.taken ≤ MAX_BYTES → machine.talk.taken + length piece ≤ MAX_BYTES
few_more machine piece room few = omega (arith, room, few)

fed_ok : (first : SessionState) (bytes written piece : List ℕ) (machine : MachineData) (input : Input) → machine.talk.stage ≡ reading → length piece ≤ room_of machine.talk → input ≡ fed machine.talk.input piece
    → IsServing first bytes written machine → IsServing first (bytes ++ piece) written (fed_with machine piece input framing)
fed_ok first bytes written piece machine input is room comes serving =
    let at = at_its_stage first bytes written machine reading is serving in
    record {
      frames = serving.frames;
      replies = serving.replies;
      serves = record {
        counted = length-append bytes piece ∙ ap (λ (n : ℕ). n + length piece) serving.serves.counted;
        few = few_more machine piece room serving.serves.few;
        transcript = serving.serves.transcript;
        stage = (
          sym (append-nil (texts serving.replies)) ∙ ap (λ (l : List ℕ). l ++ []) (sym at.0.0) ∙ ap (λ (l : List ℕ). written ++ l) (sym at.0.1),
          record {
            before = at.1.before;
            stands = subst (λ (i : Input). Stands IsLoad (bytes ++ piece) serving.frames at.1.before i) (sym comes) (stands_fed IsLoad bytes piece serving.frames at.1.before machine.talk.input at.1.stands);
            waits = at.1.waits;
          },
        );
      };
    }

fed_nothing : (first : SessionState) (bytes written piece : List ℕ) (machine : MachineData) (input : Input) → machine.talk.stage ≡ reading → length piece ≤ room_of machine.talk
    → IsServing first bytes written machine → IsServing first (bytes ++ piece) written (fed_with machine piece input (ended ends.Memory))
fed_nothing first bytes written piece machine input is room serving =
    let at = at_its_stage first bytes written machine reading is serving in
    let stands = stands_fed IsLoad bytes piece serving.frames at.1.before machine.talk.input at.1.stands in
    record {
      frames = serving.frames;
      replies = serving.replies;
      serves = record {
        counted = length-append bytes piece ∙ ap (λ (n : ℕ). n + length piece) serving.serves.counted;
        few = few_more machine piece room serving.serves.few;
        transcript = serving.serves.transcript;
        stage = (begins_at (bytes ++ piece) serving.frames at.1.before (fed machine.talk.input piece) stands, inl at.0.0);
      };
    }

pub feeds : (first : SessionState) (bytes written piece : List ℕ) (machine : MachineData) (input : Input) (done : Result (Unit {0}) AllocError) → machine.talk.stage ≡ reading → length piece ≤ room_of machine.talk
    → OnOk done (input ≡ fed machine.talk.input piece) → IsServing first bytes written machine → IsServing first (bytes ++ piece) written (fed_with machine piece input (stage_fed done))
feeds first bytes written piece machine input (Ok done) is room comes serving = fed_ok first bytes written piece machine input is room comes serving
feeds first bytes written piece machine input (Err fault) is room comes serving = fed_nothing first bytes written piece machine input is room serving

-- the number of turns that are left falls
turns_less : (piece : List ℕ) (talk : Conversation) (input : Input) (done : Result (Unit {0}) AllocError) → talk.stage ≡ reading → length piece ≤ room_of talk → 0 < length piece
    → OnOk done (input ≡ fed talk.input piece) → turns_left (fed_talk talk piece input (stage_fed done)) < turns_left talk
turns_less piece talk input (Ok done) is room some comes =
    let fewer : turns_at (fed_talk talk piece (fed talk.input piece) framing) framing < turns_at talk reading = omega (arith, size_fed talk.input piece, room, some) in
    let all = subst (λ (i : Input). turns_at (fed_talk talk piece i framing) framing < turns_at talk reading) (sym comes) fewer in
    subst (λ (s : Stage). turns_at (fed_talk talk piece input framing) framing < turns_at talk s) (sym is) all
turns_less piece talk input (Err fault) is room some comes =
    let fewer : 0 < turns_at talk reading = omega arith in
    subst (λ (s : Stage). 0 < turns_at talk s) (sym is) fewer

pub turns_fed : (piece : List ℕ) (machine same : OwnMachine) (input : Input) (done : Result (Unit {0}) AllocError) → machine ≡ same → same.talk.stage ≡ reading → length piece ≤ room_of same.talk → 0 < length piece
    → OnOk done (input ≡ fed machine.talk.input piece) → turns_left (fed_talk machine.talk piece input (stage_fed done)) < turns_left same.talk
turns_fed piece machine same input done e is room some comes =
    subst (λ (m : OwnMachine). turns_left (fed_talk machine.talk piece input (stage_fed done)) < turns_left m.talk) e
    (turns_less piece machine.talk input done (subst (λ (m : OwnMachine). m.talk.stage ≡ reading) (sym e) is) (subst (λ (m : OwnMachine). length piece ≤ room_of m.talk) (sym e) room) some comes)

pub told_fed : (done : Result (Unit {0}) AllocError) → told_at (stage_fed done) ≡ none
told_fed (Ok done) = refl
told_fed (Err fault) = refl

-- ---- a stage that may frame

-- what is owed is written first
pub stays_framing : (first : SessionState) (bytes written : List ℕ) (machine : MachineData) → IsFree machine.talk.stage → IsServing first bytes written machine → IsServing first bytes written (staged machine framing)
stays_framing first bytes written machine free serving =
    restaged first bytes written machine framing serving (framing_at machine.talk.stage bytes written serving.frames serving.replies machine.talk free serving.serves.stage)
  where
    framing_at : (stage : Stage) (bytes written : List ℕ) (frames : List Frame) (replies : List ReplyData) (talk : Conversation) → IsFree stage
        → IsAtStage (account_of bytes frames replies written) talk stage → IsAtStage (account_of bytes frames replies written) talk framing
    framing_at framing bytes written frames replies talk free at = at
    framing_at reading bytes written frames replies talk free at =
        (sym (append-nil (texts replies)) ∙ ap (λ (l : List ℕ). l ++ []) (sym at.0.0) ∙ ap (λ (l : List ℕ). written ++ l) (sym at.0.1), at.1)
    framing_at (parsing words) bytes written frames replies talk free at = absurd free
    framing_at (ended end) bytes written frames replies talk free at = absurd free

-- memory ran out for the tree of a text
pub parse_fails : (first : SessionState) (bytes written words : List ℕ) (machine : MachineData) → machine.talk.stage ≡ parsing words → IsServing first bytes written machine → IsServing first bytes written (staged machine (ended ends.Memory))
parse_fails first bytes written words machine is serving =
    let at = at_its_stage first bytes written machine (parsing words) is serving in
    restaged first bytes written machine (ended ends.Memory) serving ((at.1.stands.rest, at.1.stands.begins), inl at.0.0)
