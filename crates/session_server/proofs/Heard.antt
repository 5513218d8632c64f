-- How a check ends, by what was read and the line that is due.
use Rattle.std.proofs.Common.{◌≡◌, ℕ, ◌+◌, ◌≤◌, Result, Ok, Err, Option, None, Some, List, [], ◌++◌, length, take, drop, refl, sym, ap, subst, ◌∙◌, length-append, take-append-drop, arith}
use Rattle.std.specs.declared.vec.Vec.{Vec}
use Rattle.std.specs.declared.alloc.Global.{Global}
use Rattle.std.proofs.KnownBytes.{Appends-nil, Consumes-nil}
use Rattle.answer_check.specs.declared.verdict.BadText.{BadText}
use Rattle.answer_check.specs.declared.verdict.Verdict.{Verdict}
use Rattle.answer_check.specs.declared.verdict.Verdict.TheVariants as verdicts
use Rattle.paql_ast.specs.declared.queries.Query.{Query}
use Rattle.paql_engine.specs.State.{SessionState, opening}
use Rattle.paql_engine.specs.declared.ending.TheConstants.{MAX_BYTES}
use Rattle.pq_base.specs.Shown.{Shown, TakesBytes, HasEnded, HasFailed, HasNoFault}
use Rattle.session_proto.specs.Replies.{ReplyData}
use Rattle.version_store.specs.Histories.{History}
use Rattle.version_store.specs.Vaults.{Holding, Sees}
use Rattle.session_server.specs.Checks.{ChecksWith, EndsCheck, IsCheckedOut, HasCheckCause, ComesQuery, ComesRefused, ReadsOn, refused, query, IsLine, at_statement, at_query, at_certificate, end_of, refused_line}
use Rattle.session_server.specs.Checking.{Exhausts, HasScript, Comes, IsStopped, Breaks, IsBroken, IsHeard}
use Rattle.session_server.specs.Streams.{IsPut}
use Rattle.session_server.specs.Telling.{TellsQuery}
use Rattle.session_server.specs.declared.checking.CheckEnd.{CheckEnd}
use Rattle.session_server.specs.declared.checking.CheckEnd.TheVariants as ends
use Rattle.session_server.specs.declared.checking.line.Line.{Line}
use Rattle.session_server.specs.declared.checking.script.Script.{Script}
use Rattle.session_server.specs.declared.checking.script.Stop.{Stop}
use Rattle.session_server.specs.declared.checking.script.Stop.TheVariants as stops
use Rattle.session_server.specs.declared.streams.Put.TheVariants as puts
use Rattle.session_server.proofs.Running.{fine_later, grows_none}
use Rattle.session_server.proofs.Scripts.{first_append, script_later, script_more, breaks_off}

-- ---- the end of the input

refused_more : (history : History) (state : SessionState) (rest piece : List ℕ) (reply : ReplyData) → ComesRefused history state rest reply → ComesRefused history state (rest ++ piece) reply
refused_more history state rest piece reply comes = record {
  frame = comes.frame;
  after = comes.after ++ piece;
  first = first_append rest comes.frame comes.after piece comes.first;
  why = comes.why;
}

query_more : (rest piece : List ℕ) (asked : Query) (after : List ℕ) → ComesQuery rest asked after → ComesQuery (rest ++ piece) asked (after ++ piece)
query_more rest piece asked after comes = record {
  words = comes.words;
  first = first_append rest _ after piece comes.first;
  is = comes.is;
}

few_bytes : (bytes : List ℕ) (taken : ℕ) (piece : List ℕ) → taken ≡ length bytes → length bytes ≤ MAX_BYTES → (taken ≤ MAX_BYTES → taken + length piece ≤ MAX_BYTES) → length bytes + length piece ≤ MAX_BYTES
few_bytes bytes taken piece same most few = subst (λ (n : ℕ). n + length piece ≤ MAX_BYTES) same (few (subst (λ (n : ℕ). n ≤ MAX_BYTES) (sym same) most))

all_bytes : (bytes piece : List ℕ) (taken : ℕ) → taken ≡ length bytes → taken + length piece ≡ length (bytes ++ piece)
all_bytes bytes piece taken same = ap (λ (n : ℕ). n + length piece) same ∙ sym (length-append bytes piece)

-- what the script ends with is still next when more is read
comes_on : (history : History) (state : SessionState) (rest piece after : List ℕ) (stop : Stop) → Comes history state rest after stop → ReadsOn history state (rest ++ piece)
comes_on history state rest piece after (stops.Query asked) comes = query asked (after ++ piece) (query_more rest piece asked after comes)
comes_on history state rest piece after (stops.Refused line) comes = refused comes.0 (refused_more history state rest piece comes.0 comes.1)

-- the rest isn't read to its end
pub rest_breaks : (vault vault_now : Holding) (source now next : Shown) (script : Script) (stop : Stop) (piece : List ℕ) (end : CheckEnd) → IsStopped vault vault_now source now script stop
    → Exhausts now next script.taken piece (Some end) → IsBroken vault vault_now source next end
rest_breaks vault vault_now source now next script stop piece end is out =
    let few = few_bytes is.bytes script.taken piece is.counted is.has.most out.few in
    breaks_off vault vault_now source now next (is.bytes ++ piece) (is.rest ++ piece) is.state (script.taken + length piece) end
    (script_more vault vault_now source now next is.bytes is.rest piece is.state is.has out.read few)
    (comes_on vault_now.held is.state is.rest piece script.framer.left stop is.comes) (all_bytes is.bytes piece script.taken is.counted) is.fine out.rest

-- memory runs out before more is read
pub stopped_memory : (vault vault_now : Holding) (source now : Shown) (script : Script) (stop : Stop) → IsStopped vault vault_now source now script stop → IsBroken vault vault_now source now ends.Memory
stopped_memory vault vault_now source now script stop is = record { bytes = is.bytes; rest = is.rest; state = is.state; has = is.has; breaks = is.fine }

-- a frame is refused
pub hears_refused : (vault vault_now : Holding) (source now next : Shown) (script : Script) (line : Vec ℕ Global) (piece : List ℕ) → IsStopped vault vault_now source now script (stops.Refused line)
    → Exhausts now next script.taken piece None → IsHeard vault vault_now source next (record { bytes = line; end = ends.Unjudged })
hears_refused vault vault_now source now next script line piece is out = record {
  bytes = is.bytes ++ piece;
  rest = is.rest ++ piece;
  state = is.state;
  has = script_more vault vault_now source now next is.bytes is.rest piece is.state is.has out.read (few_bytes is.bytes script.taken piece is.counted is.has.most out.few);
  fine = fine_later source now next is.fine out.rest.0;
  ended = out.rest.1;
  due = subst (λ (l : List ℕ). IsLine vault_now.held is.state (is.rest ++ piece) l ends.Unjudged) (sym is.comes.2)
      (at_statement is.comes.0 (refused_more vault_now.held is.state is.rest piece is.comes.0 is.comes.1));
}

-- a query comes, and what comes after it is told of
pub hears_query : (vault before after : Holding) (source now next : Shown) (script : Script) (asked : Query) (piece all : List ℕ) (line : Line) → IsStopped vault before source now script (stops.Query asked)
    → Exhausts now next script.taken piece None → all ≡ script.framer.left ++ piece → Sees before after → TellsQuery after.held asked all line → IsHeard vault after source next line
hears_query vault before after source now next script asked piece all line is out whole sees tells =
    let comes = subst (λ (l : List ℕ). ComesQuery (is.rest ++ piece) asked l) (sym whole) (query_more is.rest piece asked script.framer.left is.comes) in
    record {
      bytes = is.bytes ++ piece;
      rest = is.rest ++ piece;
      state = is.state;
      has = script_later vault before after source next (is.bytes ++ piece) (is.rest ++ piece) is.state
          (script_more vault before source now next is.bytes is.rest piece is.state is.has out.read (few_bytes is.bytes script.taken piece is.counted is.has.most out.few)) sees;
      fine = fine_later source now next is.fine out.rest.0;
      ended = out.rest.1;
      due = tells is.state (is.rest ++ piece) comes;
    }

-- memory runs out for the line of the query
pub query_memory : (vault before after : Holding) (source now next : Shown) (script : Script) (asked : Query) (piece : List ℕ) → IsStopped vault before source now script (stops.Query asked)
    → Exhausts now next script.taken piece None → Sees before after → IsBroken vault after source next ends.Memory
query_memory vault before after source now next script asked piece is out sees = record {
  bytes = is.bytes ++ piece;
  rest = is.rest ++ piece;
  state = is.state;
  has = script_later vault before after source next (is.bytes ++ piece) (is.rest ++ piece) is.state
      (script_more vault before source now next is.bytes is.rest piece is.state is.has out.read (few_bytes is.bytes script.taken piece is.counted is.has.most out.few)) sees;
  breaks = fine_later source now next is.fine out.rest.0;
}

-- ---- the ends

-- nothing is written
ends_so : (history : History) (state : SessionState) (rest : List ℕ) (taken : ℕ) (source now : Shown) (end : CheckEnd) → Breaks history state rest taken source now end
    → EndsCheck history state rest [] taken end × (IsCheckedOut end → HasEnded now)
ends_so history state rest taken source now ends.Truncated breaks = ((refl, breaks.0), λ out. breaks.1)
ends_so history state rest taken source now ends.ReadFault breaks = ((refl, breaks.0), λ out. absurd out)
ends_so history state rest taken source now ends.Memory breaks = (refl, λ out. absurd out)
ends_so history state rest taken source now ends.TooLong breaks = ((refl, breaks.0, breaks.1), λ out. absurd out)
ends_so history state rest taken source now ends.SessionLimit breaks = ((refl, breaks.0, breaks.1), λ out. absurd out)
ends_so history state rest taken source now ends.Valid breaks = absurd breaks
ends_so history state rest taken source now ends.Invalid breaks = absurd breaks
ends_so history state rest taken source now ends.Unjudged breaks = absurd breaks
ends_so history state rest taken source now ends.WriteFault breaks = absurd breaks

pub broken_ends : (vault vault_now : Holding) (source source_now sink : Shown) (end : CheckEnd) → IsBroken vault vault_now source source_now end → ChecksWith vault vault_now source source_now sink sink end
broken_ends vault vault_now source source_now sink end is =
    let so = ends_so vault_now.held is.state is.rest (length is.bytes) source source_now end is.breaks in
    record {
      bytes = is.bytes;
      rest = is.rest;
      written = [];
      state = is.state;
      grows = is.has.grows;
      own = is.has.own;
      read = is.has.read;
      most = is.has.most;
      script = is.has.script;
      wrote = Appends-nil sink.bytes;
      ends = so.0;
      read_out = so.1;
    }

cause_so : (history : History) (state : SessionState) (rest : List ℕ) (taken : ℕ) (source now sink : Shown) (end : CheckEnd) → Breaks history state rest taken source now end → HasCheckCause source now sink sink end
cause_so history state rest taken source now sink ends.Truncated breaks = (breaks.2, refl)
cause_so history state rest taken source now sink ends.ReadFault breaks = (breaks.1, refl)
cause_so history state rest taken source now sink ends.Memory breaks = (breaks, refl)
cause_so history state rest taken source now sink ends.TooLong breaks = (breaks.2, refl)
cause_so history state rest taken source now sink ends.SessionLimit breaks = (breaks.2, refl)
cause_so history state rest taken source now sink ends.Valid breaks = absurd breaks
cause_so history state rest taken source now sink ends.Invalid breaks = absurd breaks
cause_so history state rest taken source now sink ends.Unjudged breaks = absurd breaks
cause_so history state rest taken source now sink ends.WriteFault breaks = absurd breaks

pub broken_cause : (vault vault_now : Holding) (source source_now sink : Shown) (end : CheckEnd) → IsBroken vault vault_now source source_now end → HasCheckCause source source_now sink sink end
broken_cause vault vault_now source source_now sink end is = cause_so vault_now.held is.state is.rest (length is.bytes) source source_now sink end is.breaks

-- the line is written
abbrev IsWritten : Shown → Shown → Shown → Shown → History → SessionState → List ℕ → List ℕ → ℕ → CheckEnd → Type 0
IsWritten source source_now sink sink_now history state rest written taken end =
    EndsCheck history state rest written taken end × (HasNoFault source source_now → HasNoFault sink sink_now → HasCheckCause source source_now sink sink_now end)

by_verdict : (source source_now sink sink_now : Shown) (history : History) (state : SessionState) (rest : List ℕ) (taken : ℕ) (verdict : Verdict) (written : List ℕ) → IsLine history state rest written (end_of verdict)
    → IsWritten source source_now sink sink_now history state rest written taken (end_of verdict)
by_verdict source source_now sink sink_now history state rest taken (verdicts.BadCert bad) written line = (line, λ fine. λ good. (fine, good))
by_verdict source source_now sink sink_now history state rest taken verdicts.Shape written line = (line, λ fine. λ good. (fine, good))
by_verdict source source_now sink sink_now history state rest taken (verdicts.Package place) written line = (line, λ fine. λ good. (fine, good))
by_verdict source source_now sink sink_now history state rest taken (verdicts.Value said other) written line = (line, λ fine. λ good. (fine, good))
by_verdict source source_now sink sink_now history state rest taken (verdicts.Fault path reason) written line = (line, λ fine. λ good. (fine, good))
by_verdict source source_now sink sink_now history state rest taken verdicts.Valid written line = (line, λ fine. λ good. (fine, good))

line_written : (source source_now sink sink_now : Shown) (history : History) (state : SessionState) (rest : List ℕ) (taken : ℕ) (written : List ℕ) (end : CheckEnd) → IsLine history state rest written end
    → IsWritten source source_now sink sink_now history state rest written taken end
line_written source source_now sink sink_now history state rest taken _ _ (at_statement reply comes) = (at_statement reply comes, λ fine. λ good. (fine, good))
line_written source source_now sink sink_now history state rest taken _ _ (at_query asked after comes reply refuses) = (at_query asked after comes reply refuses, λ fine. λ good. (fine, good))
line_written source source_now sink sink_now history state rest taken _ _ (at_certificate asked after comes exact prepared is verdict judged) =
    by_verdict source source_now sink sink_now history state rest taken verdict _ (at_certificate asked after comes exact prepared is verdict judged)

pub heard_ends : (vault vault_now : Holding) (source source_now sink sink_now : Shown) (line : Line) → IsHeard vault vault_now source source_now line → IsPut sink sink_now line.bytes.items puts.All
    → ChecksWith vault vault_now source source_now sink sink_now line.end
heard_ends vault vault_now source source_now sink sink_now line is put = record {
  bytes = is.bytes;
  rest = is.rest;
  written = line.bytes.items;
  state = is.state;
  grows = is.has.grows;
  own = is.has.own;
  read = is.has.read;
  most = is.has.most;
  script = is.has.script;
  wrote = put.0;
  ends = (line_written source source_now sink sink_now vault_now.held is.state is.rest (length is.bytes) line.bytes.items line.end is.due).0;
  read_out = λ out. is.ended;
}

pub heard_cause : (vault vault_now : Holding) (source source_now sink sink_now : Shown) (line : Line) → IsHeard vault vault_now source source_now line → IsPut sink sink_now line.bytes.items puts.All
    → HasCheckCause source source_now sink sink_now line.end
heard_cause vault vault_now source source_now sink sink_now line is put =
    (line_written source source_now sink sink_now vault_now.held is.state is.rest (length is.bytes) line.bytes.items line.end is.due).1 is.fine put.1

-- the sink fails
pub unwritten_ends : (vault vault_now : Holding) (source source_now sink sink_now : Shown) (line : Line) (count : ℕ) → IsHeard vault vault_now source source_now line → IsPut sink sink_now line.bytes.items (puts.Failed count)
    → ChecksWith vault vault_now source source_now sink sink_now ends.WriteFault
unwritten_ends vault vault_now source source_now sink sink_now line count is put = record {
  bytes = is.bytes;
  rest = is.rest;
  written = take count line.bytes.items;
  state = is.state;
  grows = is.has.grows;
  own = is.has.own;
  read = is.has.read;
  most = is.has.most;
  script = is.has.script;
  wrote = put.1;
  ends = (
    drop count line.bytes.items,
    line.end,
    subst (λ (l : List ℕ). IsLine vault_now.held is.state is.rest l line.end) (sym (take-append-drop count line.bytes.items)) is.due,
  );
  read_out = λ out. is.ended;
}

pub unwritten_cause : (vault vault_now : Holding) (source source_now sink sink_now : Shown) (line : Line) (count : ℕ) → IsHeard vault vault_now source source_now line → IsPut sink sink_now line.bytes.items (puts.Failed count)
    → HasCheckCause source source_now sink sink_now ends.WriteFault
unwritten_cause vault vault_now source source_now sink sink_now line count is put = (is.fine, put.2)

-- memory is out before anything is read
pub checks_without : (vault : Holding) (source sink : Shown) → ChecksWith vault vault source source sink sink ends.Memory
checks_without vault source sink = record {
  bytes = [];
  rest = [];
  written = [];
  state = opening vault;
  grows = grows_none vault;
  own = refl;
  read = Consumes-nil source.bytes;
  most = omega arith;
  script = record { frames = []; begins = refl; replies = []; transcript = refl };
  wrote = Appends-nil sink.bytes;
  ends = refl;
  read_out = λ out. absurd out;
}
