-- What a script is after each step of a turn.
use Rattle.std.proofs.Common.{◌≡◌, ◌≢◌, ℕ, ◌+◌, ◌≤◌, Option, None, Some, Result, Ok, Err, List, [], ◌∷◌, ◌++◌, length, take, inl, inr, refl, sym, ap, subst, ◌∙◌, append-nil, length-append, length-take-le, arith}
use Rattle.std.specs.declared.vec.Vec.{Vec}
use Rattle.std.specs.declared.alloc.Global.{Global}
use Rattle.std.proofs.KnownBytes.{Consumes-trans, Consumes-nil}
use Rattle.paql_ast.specs.declared.queries.Query.{Query}
use Rattle.paql_ast.specs.declared.statements.Statement.{Statement}
use Rattle.paql_ast.specs.declared.statements.Statement.TheVariants as statements
use Rattle.paql_engine.specs.Conversation.{WaitsFor}
use Rattle.paql_engine.specs.State.{SessionState, OwnSession, Grows, opening, nothing_done, session_over}
use Rattle.paql_engine.specs.Steps.{Steps}
use Rattle.paql_engine.specs.Texts.{IsLoad, FaultOf}
use Rattle.paql_engine.specs.Transcript.{Transcript}
use Rattle.paql_engine.specs.declared.ending.TheConstants.{MAX_BYTES}
use Rattle.paql_engine.proofs.Blank.{blank_of_no_tokens}
use Rattle.paql_engine.proofs.Histories.{longer}
use Rattle.paql_engine.proofs.Rows.{grows_seen}
use Rattle.paql_engine.proofs.TextOnce.{load_once, statement_once, no_load, faulty_no_load}
use Rattle.paql_engine.proofs.Transcripts.{transcript_more, transcript_weaker}
use Rattle.paql_grammar.specs.Texts.{IsStatement}
use Rattle.paql_lexer.specs.Tokens.{IsTokens}
use Rattle.pq_base.specs.Shown.{Shown, GivesBytes, HasEnded, HasNoFault}
use Rattle.session_proto.specs.Frames.{closed}
use Rattle.session_proto.specs.Input.{Input, Content, absent, IsNext, statement, content as given, need, too_long, fed, awaiting}
use Rattle.session_proto.specs.Refusals.{Refusal, refusal_of}
use Rattle.session_proto.specs.Replies.{ReplyData}
use Rattle.session_proto.specs.Sessions.{Frame, Begins, IsFirst, AreFrames, Stands}
use Rattle.session_proto.specs.declared.framer.Awaited.{Awaited}
use Rattle.session_proto.proofs.FrameSteps.{skips_more}
use Rattle.session_proto.proofs.SessionSteps.{begins_append, begins_snoc, stands_at_first, stands_fed, stands_after_statement, stands_awaiting, stands_after_body, needs_at_end, too_long_at_end}
use Rattle.version_store.specs.Histories.{History}
use Rattle.version_store.specs.Vaults.{Holding, IsPrefix, Sees}
use Rattle.session_server.specs.Checks.{PerformsWell, IsNoQuery, IsRefusal, IsScript, ComesNone, ComesQuery, ComesRefused, IsRefusedBy, no_statement, ReadsOn, more as none_came, refused_line}
use Rattle.session_server.specs.Checks.{statement as by_statement}
use Rattle.session_server.specs.Checking.{StopsReading, ReadsPiece, IsSoFar, IsOn, IsFramed, HasBody, IsAfter, IsNeeding, HasScript, Comes, IsStopped, Breaks, IsBroken, IsTurned, IsFed}
use Rattle.session_server.specs.declared.checking.CheckEnd.{CheckEnd}
use Rattle.session_server.specs.declared.checking.CheckEnd.TheVariants as ends
use Rattle.session_server.specs.declared.checking.script.Script.{Script}
use Rattle.session_server.specs.declared.checking.script.Stop.{Stop}
use Rattle.session_server.specs.declared.checking.script.Stop.TheVariants as stops
use Rattle.session_server.proofs.Refusing.{refused_alone}
use Rattle.session_server.proofs.Running.{fails_later, fine_later, grows_on, grows_none}

-- a script by its parts
abbrev pub script_of : Input → OwnSession → Option Statement → ℕ → Script
script_of framer session waiting taken = record { framer = framer; session = session; waiting = waiting; taken = taken }

-- ---- longer histories, and more bytes

well_longer : (history more : History) (old : SessionState) (frame : Frame) (reply : ReplyData) (new : SessionState) → PerformsWell history old frame reply new → PerformsWell (history ++ more) old frame reply new
well_longer history more old frame reply new row = record {
  statement = row.statement;
  is = row.is;
  other = row.other;
  steps = longer history more old new row.statement frame.content reply row.steps;
  well = row.well;
}

pub transcript_longer : (history later : History) (old new : SessionState) (frames : List Frame) (replies : List ReplyData) → IsPrefix history later
    → Transcript (PerformsWell history) old frames replies new → Transcript (PerformsWell later) old frames replies new
transcript_longer history later old new frames replies (more, is) transcript =
    subst (λ (h : History). Transcript (PerformsWell h) old frames replies new) (sym is)
    (transcript_weaker (PerformsWell history) (PerformsWell (history ++ more)) (well_longer history more) old new frames replies transcript)

pub first_append : (rest : List ℕ) (frame : Frame) (after more : List ℕ) → IsFirst IsLoad rest frame after → IsFirst IsLoad (rest ++ more) frame (after ++ more)
first_append rest frame after more first =
    let two = begins_append IsLoad rest (frame ∷ []) after more (after, first, refl) in
    subst (λ (l : List ℕ). IsFirst IsLoad (rest ++ more) frame l) (sym two.2) two.1

-- the same bytes and frames, over a vault that grew
pub script_later : (vault between now : Holding) (source source_now : Shown) (bytes rest : List ℕ) (state : SessionState) → HasScript vault between source source_now bytes rest state → Sees between now
    → HasScript vault now source source_now bytes rest state
script_later vault between now source source_now bytes rest state has sees = record {
  grows = grows_on vault between now has.grows (grows_seen between now sees);
  own = has.own ∙ sym sees.own;
  read = has.read;
  most = has.most;
  script = record {
    frames = has.script.frames;
    begins = has.script.begins;
    replies = has.script.replies;
    transcript = transcript_longer between.held now.held (opening vault) state has.script.frames has.script.replies sees.held has.script.transcript;
  };
}

-- more bytes come
pub script_more : (vault vault_now : Holding) (source now next : Shown) (bytes rest piece : List ℕ) (state : SessionState) → HasScript vault vault_now source now bytes rest state → GivesBytes now next piece
    → length bytes + length piece ≤ MAX_BYTES → HasScript vault vault_now source next (bytes ++ piece) (rest ++ piece) state
script_more vault vault_now source now next bytes rest piece state has gave few = record {
  grows = has.grows;
  own = has.own;
  read = Consumes-trans source.bytes now.bytes next.bytes bytes piece has.read gave;
  most = omega (arith, length-append bytes piece, few);
  script = record {
    frames = has.script.frames;
    begins = begins_append IsLoad bytes has.script.frames rest piece has.script.begins;
    replies = has.script.replies;
    transcript = has.script.transcript;
  };
}

pub script_same : (vault vault_now : Holding) (source now next : Shown) (bytes rest : List ℕ) (state : SessionState) → HasScript vault vault_now source now bytes rest state → GivesBytes now next []
    → HasScript vault vault_now source next bytes rest state
script_same vault vault_now source now next bytes rest state has gave = record {
  grows = has.grows;
  own = has.own;
  read = subst (λ (l : List ℕ). GivesBytes source next l) (append-nil bytes) (Consumes-trans source.bytes now.bytes next.bytes bytes [] has.read gave);
  most = has.most;
  script = has.script;
}

-- ---- the beginning

pub starts : (vault : Holding) (source : Shown) → IsOn vault vault source source (script_of (record { left = []; awaited = None }) nothing_done None 0)
starts vault source = record {
  bytes = [];
  frames = [];
  here = record {
    grows = grows_none vault;
    read = Consumes-nil source.bytes;
    fine = refl;
    counted = refl;
    few = omega arith;
    replies = [];
    transcript = refl;
  };
  before = None;
  stands = stands_at_first IsLoad;
  waits = tt;
}

-- ---- what a script so far is

pub has_script : (vault vault_now : Holding) (source source_now : Shown) (bytes rest : List ℕ) (frames : List Frame) (script : Script) → IsSoFar vault vault_now source source_now bytes frames script
    → Begins IsLoad bytes frames rest → HasScript vault vault_now source source_now bytes rest (session_over vault_now script.session).state
has_script vault vault_now source source_now bytes rest frames script here begins = record {
  grows = here.grows;
  own = refl;
  read = here.read;
  most = omega (arith, here.counted, here.few);
  script = record { frames = frames; begins = begins; replies = here.replies; transcript = here.transcript };
}

pub so_far_with : (vault vault_now : Holding) (source source_now : Shown) (bytes : List ℕ) (frames : List Frame) (script : Script) (framer : Input) (waiting : Option Statement)
    → IsSoFar vault vault_now source source_now bytes frames script → IsSoFar vault vault_now source source_now bytes frames (script_of framer script.session waiting script.taken)
so_far_with vault vault_now source source_now bytes frames script framer waiting here = record {
  grows = here.grows;
  read = here.read;
  fine = here.fine;
  counted = here.counted;
  few = here.few;
  replies = here.replies;
  transcript = here.transcript;
}

begins_at : (bytes : List ℕ) (frames : List Frame) (before : Option (List ℕ)) (input : Input) → Stands IsLoad bytes frames before input → (rest : List ℕ) × Begins IsLoad bytes frames rest
begins_at bytes frames None input stands = (stands.rest, stands.begins)
begins_at bytes frames (Some words) input stands = (stands.rest, stands.begins)

broken_so_far : (vault vault_now : Holding) (source source_now : Shown) (bytes rest : List ℕ) (frames : List Frame) (script : Script) → IsSoFar vault vault_now source source_now bytes frames script
    → Begins IsLoad bytes frames rest → IsBroken vault vault_now source source_now ends.Memory
broken_so_far vault vault_now source source_now bytes rest frames script here begins = record {
  bytes = bytes;
  rest = rest;
  state = (session_over vault_now script.session).state;
  has = has_script vault vault_now source source_now bytes rest frames script here begins;
  breaks = here.fine;
}

-- memory runs out
pub on_memory : (vault vault_now : Holding) (source source_now : Shown) (script : Script) → IsOn vault vault_now source source_now script → IsBroken vault vault_now source source_now ends.Memory
on_memory vault vault_now source source_now script on =
    let begins = begins_at on.bytes on.frames on.before script.framer on.stands in
    broken_so_far vault vault_now source source_now on.bytes begins.0 on.frames script on.here begins.1

pub framed_memory : (vault vault_now : Holding) (source source_now : Shown) (words : List ℕ) (script : Script) → IsFramed vault vault_now source source_now words script → IsBroken vault vault_now source source_now ends.Memory
framed_memory vault vault_now source source_now words script is =
    broken_so_far vault vault_now source source_now is.bytes is.stands.rest is.frames script is.here is.stands.begins

-- ---- what the framer gives

none_not_some : (awaited : Option Awaited) (body : Awaited) → awaited ≡ None → awaited ≡ Some body → ⊥
none_not_some awaited body none some = cc

nothing_waits : (waiting : Option Statement) → WaitsFor None waiting → waiting ≡ None
nothing_waits None waits = refl
nothing_waits (Some t) waits = absurd waits

framed_by : (before : Option (List ℕ)) (vault vault_now : Holding) (source source_now : Shown) (bytes words : List ℕ) (frames : List Frame) (script : Script) (framer : Input)
    → IsSoFar vault vault_now source source_now bytes frames script → Stands IsLoad bytes frames before script.framer → WaitsFor before script.waiting → IsNext script.framer (statement words) framer
    → IsFramed vault vault_now source source_now words (script_of framer script.session script.waiting script.taken)
framed_by None vault vault_now source source_now bytes words frames script framer here stands waits next = record {
  bytes = bytes;
  frames = frames;
  here = so_far_with vault vault_now source source_now bytes frames script framer script.waiting here;
  before = script.framer;
  stands = stands;
  gives = next;
  free = nothing_waits script.waiting waits;
}
framed_by (Some text) vault vault_now source source_now bytes words frames script framer here stands waits next =
    absurd (none_not_some script.framer.awaited stands.body next.before stands.awaits)

pub frames_text : (vault vault_now : Holding) (source source_now : Shown) (words : List ℕ) (script : Script) (framer : Input) → IsNext script.framer (statement words) framer
    → IsOn vault vault_now source source_now script → IsFramed vault vault_now source source_now words (script_of framer script.session script.waiting script.taken)
frames_text vault vault_now source source_now words script framer next on =
    framed_by on.before vault vault_now source source_now on.bytes words on.frames script framer on.here on.stands on.waits next

body_by : (before : Option (List ℕ)) (vault vault_now : Holding) (source source_now : Shown) (bytes : List ℕ) (frames : List Frame) (content : Content) (script : Script) (framer : Input)
    → IsSoFar vault vault_now source source_now bytes frames script → Stands IsLoad bytes frames before script.framer → WaitsFor before script.waiting → IsNext script.framer (given content) framer
    → HasBody vault vault_now source source_now content (script_of framer script.session script.waiting script.taken)
body_by None vault vault_now source source_now bytes frames content script framer here stands waits next =
    absurd (none_not_some script.framer.awaited next.body stands.awaits next.before)
body_by (Some text) vault vault_now source source_now bytes frames content script framer here stands waits next = record {
  bytes = bytes;
  frames = frames;
  here = so_far_with vault vault_now source source_now bytes frames script framer script.waiting here;
  before = script.framer;
  words = text;
  stands = stands;
  gives = next;
  waits = waits;
}

pub gives_body : (vault vault_now : Holding) (source source_now : Shown) (content : Content) (script : Script) (framer : Input) → IsNext script.framer (given content) framer
    → IsOn vault vault_now source source_now script → HasBody vault vault_now source source_now content (script_of framer script.session script.waiting script.taken)
gives_body vault vault_now source source_now content script framer next on =
    body_by on.before vault vault_now source source_now on.bytes on.frames content script framer on.here on.stands on.waits next

pub needs_more : (vault vault_now : Holding) (source source_now : Shown) (script : Script) (framer : Input) → IsNext script.framer need framer
    → IsOn vault vault_now source source_now script → IsNeeding vault vault_now source source_now (script_of framer script.session script.waiting script.taken)
needs_more vault vault_now source source_now script framer next on =
    let needs = needs_at_end IsLoad load_once on.bytes on.frames on.before script.framer framer on.stands next in
    let rest = needs.1.0 in
    let are : AreFrames IsLoad on.bytes on.frames rest = needs.1.1 in
    record {
      bytes = on.bytes;
      frames = on.frames;
      here = so_far_with vault vault_now source source_now on.bytes on.frames script framer script.waiting on.here;
      before = on.before;
      stands = needs.0;
      waits = on.waits;
      rest = rest;
      begins = are.begins;
      none = record { none = are.none; not_long = needs.1.2 };
    }

long_by : (before : Option (List ℕ)) (vault vault_now : Holding) (source source_now : Shown) (bytes : List ℕ) (frames : List Frame) (script : Script) (framer : Input)
    → IsSoFar vault vault_now source source_now bytes frames script → Stands IsLoad bytes frames before script.framer → IsNext script.framer too_long framer → IsBroken vault vault_now source source_now ends.TooLong
long_by None vault vault_now source source_now bytes frames script framer here stands next =
    let end = too_long_at_end IsLoad bytes [] frames script.framer framer stands next in
    let are = subst (λ (w : List ℕ). AreFrames IsLoad w frames (end.0 ++ [])) (append-nil bytes) end.1 in
    record {
      bytes = bytes;
      rest = end.0 ++ [];
      state = (session_over vault_now script.session).state;
      has = has_script vault vault_now source source_now bytes (end.0 ++ []) frames script here are.begins;
      breaks = (are.none, end.2, here.fine);
    }
long_by (Some text) vault vault_now source source_now bytes frames script framer here stands next =
    absurd (none_not_some script.framer.awaited stands.body next.before stands.awaits)

pub is_too_long : (vault vault_now : Holding) (source source_now : Shown) (script : Script) (framer : Input) → IsNext script.framer too_long framer
    → IsOn vault vault_now source source_now script → IsBroken vault vault_now source source_now ends.TooLong
is_too_long vault vault_now source source_now script framer next on =
    long_by on.before vault vault_now source source_now on.bytes on.frames script framer on.here on.stands next

-- ---- more bytes are read

pub is_fed : (vault vault_now : Holding) (source now next : Shown) (script : Script) (count : ℕ) (buf : List ℕ) (framer : Input) → IsNeeding vault vault_now source now script
    → ReadsPiece now next script.taken buf (Ok count) → framer ≡ fed script.framer (take count buf)
    → IsOn vault vault_now source next (script_of framer script.session script.waiting (script.taken + count))
is_fed vault vault_now source now next script count buf framer is (within, few, gave, fine, out) comes = record {
  bytes = is.bytes ++ take count buf;
  frames = is.frames;
  here = record {
    grows = is.here.grows;
    read = Consumes-trans source.bytes now.bytes next.bytes is.bytes (take count buf) is.here.read gave;
    fine = fine_later source now next is.here.fine fine;
    counted = omega (arith, is.here.counted, length-append is.bytes (take count buf), length-take-le count buf within);
    few = few;
    replies = is.here.replies;
    transcript = is.here.transcript;
  };
  before = is.before;
  stands = subst (λ (i : Input). Stands IsLoad (is.bytes ++ take count buf) is.frames is.before i) (sym comes) (stands_fed IsLoad is.bytes (take count buf) is.frames is.before script.framer is.stands);
  waits = is.waits;
}

-- memory runs out for the piece
pub fed_in_vain : (vault vault_now : Holding) (source now next : Shown) (script : Script) (count : ℕ) (buf : List ℕ) → IsNeeding vault vault_now source now script
    → ReadsPiece now next script.taken buf (Ok count) → IsBroken vault vault_now source next ends.Memory
fed_in_vain vault vault_now source now next script count buf is reads =
    on_memory vault vault_now source next (script_of (fed script.framer (take count buf)) script.session script.waiting (script.taken + count))
    (is_fed vault vault_now source now next script count buf (fed script.framer (take count buf)) is reads refl)

-- the input ended
pub is_cut_off : (vault vault_now : Holding) (source now next : Shown) (script : Script) (count : ℕ) (buf : List ℕ) → IsNeeding vault vault_now source now script
    → ReadsPiece now next script.taken buf (Ok count) → count ≡ 0 → IsBroken vault vault_now source next ends.Truncated
is_cut_off vault vault_now source now next script count buf is (within, few, gave, fine, out) none = record {
  bytes = is.bytes;
  rest = is.rest;
  state = (session_over vault_now script.session).state;
  has = script_same vault vault_now source now next is.bytes is.rest (session_over vault_now script.session).state
      (has_script vault vault_now source now is.bytes is.rest is.frames script is.here is.begins) (subst (λ (n : ℕ). GivesBytes now next (take n buf)) none gave);
  breaks = (is.none, out none, fine_later source now next is.here.fine fine);
}

all_taken : (n taken : ℕ) → taken ≡ n → taken ≤ MAX_BYTES → MAX_BYTES ≤ taken → n ≡ MAX_BYTES
all_taken n taken counted few full = omega (arith, counted, few, full)

reading_breaks : (history : History) (state : SessionState) (rest : List ℕ) (n taken : ℕ) (source now next : Shown) (end : CheckEnd) → ReadsOn history state rest → taken ≡ n → taken ≤ MAX_BYTES → HasNoFault source now
    → StopsReading now next taken end → Breaks history state rest n source next end
reading_breaks history state rest n taken source now next ends.ReadFault on counted few fine stops = (on, fails_later source now next fine stops)
reading_breaks history state rest n taken source now next ends.SessionLimit on counted few fine stops =
    (on, all_taken n taken counted few stops.1, fine_later source now next fine stops.0)
reading_breaks history state rest n taken source now next ends.Memory on counted few fine stops = fine_later source now next fine stops
reading_breaks history state rest n taken source now next ends.Valid on counted few fine stops = absurd stops
reading_breaks history state rest n taken source now next ends.Invalid on counted few fine stops = absurd stops
reading_breaks history state rest n taken source now next ends.Unjudged on counted few fine stops = absurd stops
reading_breaks history state rest n taken source now next ends.Truncated on counted few fine stops = absurd stops
reading_breaks history state rest n taken source now next ends.WriteFault on counted few fine stops = absurd stops
reading_breaks history state rest n taken source now next ends.TooLong on counted few fine stops = absurd stops

-- the rest isn't read to its end, with the script before it
pub breaks_off : (vault vault_now : Holding) (source now next : Shown) (bytes rest : List ℕ) (state : SessionState) (taken : ℕ) (end : CheckEnd) → HasScript vault vault_now source next bytes rest state
    → ReadsOn vault_now.held state rest → taken ≡ length bytes → HasNoFault source now → StopsReading now next taken end → IsBroken vault vault_now source next end
breaks_off vault vault_now source now next bytes rest state taken end has on counted fine stops = record {
  bytes = bytes;
  rest = rest;
  state = state;
  has = has;
  breaks = reading_breaks vault_now.held state rest (length bytes) taken source now next end on counted (subst (λ (n : ℕ). n ≤ MAX_BYTES) (sym counted) has.most) fine stops;
}

pub is_not_read : (vault vault_now : Holding) (source now next : Shown) (script : Script) (buf : List ℕ) (end : CheckEnd) → IsNeeding vault vault_now source now script
    → ReadsPiece now next script.taken buf (Err end) → IsBroken vault vault_now source next end
is_not_read vault vault_now source now next script buf end is (gave, stops) =
    let state = (session_over vault_now script.session).state in
    let has = script_same vault vault_now source now next is.bytes is.rest state (has_script vault vault_now source now is.bytes is.rest is.frames script is.here is.begins) gave in
    breaks_off vault vault_now source now next is.bytes is.rest state script.taken end has (none_came is.none) is.here.counted is.here.fine stops

-- ---- a text

-- it is the first frame of the rest, if it has no body
text_first : (vault vault_now : Holding) (source source_now : Shown) (words : List ℕ) (script : Script) (is : IsFramed vault vault_now source source_now words script) → ((count : ℕ) → ¬ IsLoad words count)
    → IsFirst IsLoad is.stands.rest (record { text = words; content = absent }) script.framer.left
text_first vault vault_now source source_now words script is unwanted = record {
  behind = script.framer.left;
  is_statement = is.gives.is_statement;
  first = skips_more is.stands.rest is.before.left (closed words ++ script.framer.left) is.stands.skips is.gives.first;
  takes = inl (record { unwanted = unwanted; nothing = refl; all = refl });
}

no_query_load : (query : Query) (table : List ℕ) (count : ℕ) → statements.Query query ≢ statements.Load table count
no_query_load query table count same = cc

-- it is a query
pub stops_query : (vault vault_now : Holding) (source source_now : Shown) (words : List ℕ) (script : Script) (query : Query) → IsFramed vault vault_now source source_now words script
    → IsStatement words (statements.Query query) → IsStopped vault vault_now source source_now script (stops.Query query)
stops_query vault vault_now source source_now words script query is spelled = record {
  bytes = is.bytes;
  rest = is.stands.rest;
  state = (session_over vault_now script.session).state;
  has = has_script vault vault_now source source_now is.bytes is.stands.rest is.frames script is.here is.stands.begins;
  fine = is.here.fine;
  counted = is.here.counted;
  comes = record {
    words = words;
    first = text_first vault vault_now source source_now words script is (no_load words (statements.Query query) spelled (no_query_load query));
    is = spelled;
  };
}

-- it is no statement
pub stops_fault : (vault vault_now : Holding) (source source_now : Shown) (words : List ℕ) (script : Script) (cause : Refusal) (reply : ReplyData) (line : Vec ℕ Global) → IsFramed vault vault_now source source_now words script
    → FaultOf words cause → reply ≡ refusal_of cause → line.items ≡ refused_line reply → IsStopped vault vault_now source source_now script (stops.Refused line)
stops_fault vault vault_now source source_now words script cause reply line is fault shown told =
    let state = (session_over vault_now script.session).state in
    record {
      bytes = is.bytes;
      rest = is.stands.rest;
      state = state;
      has = has_script vault vault_now source source_now is.bytes is.stands.rest is.frames script is.here is.stands.begins;
      fine = is.here.fine;
      counted = is.here.counted;
      comes = (
        reply,
        record {
          frame = record { text = words; content = absent };
          after = script.framer.left;
          first = text_first vault vault_now source source_now words script is (faulty_no_load words cause fault);
          why = no_statement state (record { cause = cause; fault = fault; shown = shown; keeps = refl });
        },
        told,
      );
    }

-- a text without a token isn't framed
pub never_blank : (vault vault_now : Holding) (source source_now : Shown) (words : List ℕ) (script : Script) → IsTokens words [] → ¬ IsFramed vault vault_now source source_now words script
never_blank vault vault_now source source_now words script empty is =
    let blank = blank_of_no_tokens words empty in
    let shown = is.gives.is_statement.1 in
    cc

-- another statement than a LOAD is to be performed
pub after_text : (vault vault_now : Holding) (source source_now : Shown) (words : List ℕ) (script : Script) (t : Statement) → IsFramed vault vault_now source source_now words script → IsStatement words t
    → ((table : List ℕ) (count : ℕ) → t ≢ statements.Load table count) → IsAfter vault vault_now source source_now (record { text = words; content = absent }) script
after_text vault vault_now source source_now words script t is spelled plain =
    let unwanted = no_load words t spelled plain in
    record {
      bytes = is.bytes;
      frames = is.frames;
      here = is.here;
      rest = is.stands.rest;
      begins = is.stands.begins;
      after = script.framer.left;
      first = text_first vault vault_now source source_now words script is unwanted;
      stands = stands_after_statement IsLoad is.bytes words is.frames is.before script.framer is.stands is.gives unwanted;
      free = is.free;
    }

-- a LOAD waits for its body
pub waits_for : (vault vault_now : Holding) (source source_now : Shown) (words table : List ℕ) (count : ℕ) (script : Script) → IsFramed vault vault_now source source_now words script → IsStatement words (statements.Load table count)
    → IsOn vault vault_now source source_now (script_of (awaiting script.framer count) script.session (Some (statements.Load table count)) script.taken)
waits_for vault vault_now source source_now words table count script is spelled = record {
  bytes = is.bytes;
  frames = is.frames;
  here = so_far_with vault vault_now source source_now is.bytes is.frames script (awaiting script.framer count) (Some (statements.Load table count)) is.here;
  before = Some words;
  stands = stands_awaiting IsLoad is.bytes words is.frames is.before script.framer count is.stands is.gives (table, spelled);
  waits = spelled;
}

-- ---- a body

begins_split : (bytes : List ℕ) (frames : List Frame) (frame : Frame) (after : List ℕ) → Begins IsLoad bytes (frames ++ frame ∷ []) after
    → (rest : List ℕ) × Begins IsLoad bytes frames rest × IsFirst IsLoad rest frame after
begins_split bytes [] frame after begins = (bytes, refl, subst (λ (l : List ℕ). IsFirst IsLoad bytes frame l) (sym begins.2) begins.1)
begins_split bytes (one ∷ frames) frame after begins =
    let split = begins_split begins.0 frames frame after begins.2 in
    (split.0, (begins.0, begins.1, split.1), split.2)

-- with its body the frame of the statement that waits is to be performed
pub after_body : (vault vault_now : Holding) (source source_now : Shown) (content : Content) (script : Script) (body : HasBody vault vault_now source source_now content script)
    → IsAfter vault vault_now source source_now (record { text = body.words; content = content }) (script_of script.framer script.session None script.taken)
after_body vault vault_now source source_now content script body =
    let frame : Frame = record { text = body.words; content = content } in
    let stands = stands_after_body IsLoad body.bytes body.words body.frames content body.before script.framer body.stands body.gives in
    let split = begins_split body.bytes body.frames frame stands.rest stands.begins in
    record {
      bytes = body.bytes;
      frames = body.frames;
      here = so_far_with vault vault_now source source_now body.bytes body.frames script script.framer None body.here;
      rest = split.0;
      begins = split.1;
      after = stands.rest;
      first = split.2;
      stands = stands;
      free = refl;
    }

-- a LOAD is no query
pub load_no_query : (words : List ℕ) (count : ℕ) (t : Statement) → IsLoad words count → IsStatement words t → IsNoQuery t
load_no_query words count t load is = λ (query : Query). λ same.
    no_query_load query load.0 count (sym same ∙ statement_once words t (statements.Load load.0 count) is load.1)

-- the statement that waits is that of the text
pub waiting_is : (words : List ℕ) (waiting : Option Statement) (t : Statement) → waiting ≡ Some t → WaitsFor (Some words) waiting → IsStatement words t
waiting_is words waiting t e waits = subst (λ (w : Option Statement). WaitsFor (Some words) w) e waits

pub waiting_some : (words : List ℕ) (waiting : Option Statement) → waiting ≡ None → ¬ WaitsFor (Some words) waiting
waiting_some words waiting e waits = subst (λ (w : Option Statement). WaitsFor (Some words) w) e waits

-- ---- a statement is performed

-- the bytes and the frames so far, over the vault after it
state_before : (vault before after : Holding) (source now : Shown) (frame : Frame) (script : Script) → Grows before after → after.own ≡ before.own
    → (is : IsAfter vault before source now frame script) → HasScript vault after source now is.bytes is.rest (session_over before script.session).state
state_before vault before after source now frame script grows own is = record {
  grows = grows_on vault before after is.here.grows grows;
  own = sym own;
  read = is.here.read;
  most = omega (arith, is.here.counted, is.here.few);
  script = record {
    frames = is.frames;
    begins = is.begins;
    replies = is.here.replies;
    transcript = transcript_longer before.held after.held (opening vault) (session_over before script.session).state is.frames is.here.replies grows.held is.here.transcript;
  };
}

-- memory runs out, and nothing was committed
pub performs_nothing : (vault before after : Holding) (source now : Shown) (frame : Frame) (script : Script) → Grows before after → after.own ≡ before.own → IsAfter vault before source now frame script
    → IsBroken vault after source now ends.Memory
performs_nothing vault before after source now frame script grows own is = record {
  bytes = is.bytes;
  rest = is.rest;
  state = (session_over before script.session).state;
  has = state_before vault before after source now frame script grows own is;
  breaks = is.here.fine;
}

pub performs_well : (vault before after : Holding) (source now : Shown) (frame : Frame) (t : Statement) (reply : ReplyData) (script : Script) (session : OwnSession)
    → IsStatement frame.text t → IsNoQuery t → Steps after.held (session_over before script.session).state t frame.content reply (session_over after session).state → Grows before after → ¬ IsRefusal reply
    → IsAfter vault before source now frame script → IsOn vault after source now (script_of script.framer session script.waiting script.taken)
performs_well vault before after source now frame t reply script session spelled other steps grows well is =
    let old = (session_over before script.session).state in
    let new = (session_over after session).state in
    let whole = transcript_longer before.held after.held (opening vault) old is.frames is.here.replies grows.held is.here.transcript in
    record {
      bytes = is.bytes;
      frames = is.frames ++ frame ∷ [];
      here = record {
        grows = grows_on vault before after is.here.grows grows;
        read = is.here.read;
        fine = is.here.fine;
        counted = is.here.counted;
        few = is.here.few;
        replies = is.here.replies ++ reply ∷ [];
        transcript = transcript_more (PerformsWell after.held) (opening vault) old new is.frames is.here.replies frame reply whole
            (record { statement = t; is = spelled; other = other; steps = steps; well = well });
      };
      before = None;
      stands = is.stands;
      waits = subst (λ (w : Option Statement). WaitsFor None w) (sym is.free) tt;
    }

pub performs_refused : (vault before after : Holding) (source now : Shown) (frame : Frame) (t : Statement) (reply : ReplyData) (script : Script) (session : OwnSession) (line : Vec ℕ Global)
    → IsStatement frame.text t → IsNoQuery t → Steps after.held (session_over before script.session).state t frame.content reply (session_over after session).state → Grows before after → IsRefusal reply → line.items ≡ refused_line reply
    → IsAfter vault before source now frame script → IsStopped vault after source now (script_of script.framer session script.waiting script.taken) (stops.Refused line)
performs_refused vault before after source now frame t reply script session line spelled other steps grows refusal told is =
    let old = (session_over before script.session).state in
    let own = refused_alone after.held old t frame.content reply (session_over after session).state steps refusal in
    record {
      bytes = is.bytes;
      rest = is.rest;
      state = old;
      has = state_before vault before after source now frame script grows own is;
      fine = is.here.fine;
      counted = is.here.counted;
      comes = (
        reply,
        record { frame = frame; after = is.after; first = is.first; why = by_statement (session_over after session).state t spelled other steps refusal },
        told,
      );
    }

-- memory runs out for the line of a refusal
pub performs_untold : (vault before after : Holding) (source now : Shown) (frame : Frame) (t : Statement) (reply : ReplyData) (script : Script) (session : OwnSession)
    → Steps after.held (session_over before script.session).state t frame.content reply (session_over after session).state → Grows before after → IsRefusal reply
    → IsAfter vault before source now frame script → IsBroken vault after source now ends.Memory
performs_untold vault before after source now frame t reply script session steps grows refusal is =
    performs_nothing vault before after source now frame script grows (refused_alone after.held (session_over before script.session).state t frame.content reply (session_over after session).state steps refusal) is
