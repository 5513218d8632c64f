-- How a check of a certificate ends, and the line that it writes.
use Rattle.std.specs.Prelude.{◌≡◌, ◌≢◌, ◌⊎◌, ℕ, ◌<◌, ◌≤◌, false, List, [], ◌∷◌, ◌++◌, length}
use Rattle.std.specs.Prelude.{◌==◌, if◌then◌else◌, codes, IsTrue, Option, Some}
use Rattle.std.specs.Str.{IsUtf8}
use Rattle.answer_check.specs.Lines.{line_of}
use Rattle.answer_check.specs.Verdicts.{Says, Shows}
use Rattle.answer_check.specs.declared.verdict.Verdict.{Verdict}
use Rattle.answer_check.specs.declared.verdict.Verdict.TheVariants as verdicts
use Rattle.bound_query.specs.declared.queries.BoundQuery.{BoundQuery}
use Rattle.paql_ast.specs.declared.queries.Query.{Query}
use Rattle.paql_ast.specs.declared.statements.Statement.{Statement}
use Rattle.paql_ast.specs.declared.statements.Statement.TheVariants as statements
use Rattle.paql_engine.specs.Performed.{is_exact}
use Rattle.paql_engine.specs.Preparing.{IsPrepared, RefusesToPrepare}
use Rattle.paql_engine.specs.Queries.{rows_asked}
use Rattle.paql_engine.specs.Refused.{name_in}
use Rattle.paql_engine.specs.State.{SessionState, Grows, opening}
use Rattle.paql_engine.specs.Steps.{Steps, tables_of}
use Rattle.paql_engine.specs.Texts.{IsLoad}
use Rattle.paql_engine.specs.Transcript.{Transcript, RefusesText}
use Rattle.paql_engine.specs.declared.ending.TheConstants.{MAX_BYTES}
use Rattle.paql_engine.specs.declared.preparing.Prepared.{Prepared}
use Rattle.paql_grammar.specs.Texts.{IsStatement}
use Rattle.pq_base.specs.Shown.{Shown, GivesBytes, TakesBytes, HasEnded, HasFailed, HasNoFault}
use Rattle.session_proto.specs.Input.{absent}
use Rattle.session_proto.specs.Refusals.{Refusal, refusal_of, not_built}
use Rattle.session_proto.specs.Replies.{ReplyData, MemberData, reply_text, text}
use Rattle.session_proto.specs.Sessions.{Frame, Begins, IsFirst, NoneWhole, IsOverlong}
use Rattle.version_store.specs.Histories.{History}
use Rattle.version_store.specs.Vaults.{Holding}
use Rattle.session_server.specs.declared.checking.CheckEnd.{CheckEnd}
use Rattle.session_server.specs.declared.checking.CheckEnd.TheVariants as ends

-- ---- the statements before the query

abbrev pub status_refused : MemberData
status_refused = (codes "status", text (codes "refused"))

-- one of the members says that the status is refused
abbrev pub SaysRefused : List MemberData → Type 0
SaysRefused [] = ⊥
SaysRefused (first ∷ members) = (first ≡ status_refused) ⊎ SaysRefused members

abbrev pub IsRefusal : ReplyData → Type 0
IsRefusal reply = SaysRefused reply.members

abbrev pub IsNoQuery : Statement → Type 0
IsNoQuery t = (query : Query) → t ≢ statements.Query query

-- a frame's statement is no query, is performed, and isn't refused
pub record PerformsWell (history : History) (old : SessionState) (frame : Frame)
    (reply : ReplyData) (new : SessionState) : Type 0 where
  pub statement : Statement
  pub is : IsStatement frame.text statement
  pub other : IsNoQuery statement
  pub steps : Steps history old statement frame.content reply new
  pub well : ¬ IsRefusal reply

-- The first frames of the bytes are performed so, which takes a session from the first state to
-- this one; and then comes the rest.
pub record IsScript (history : History) (first : SessionState) (bytes rest : List ℕ)
    (state : SessionState) : Type 0 where
  pub frames : List Frame
  pub begins : Begins IsLoad bytes frames rest
  pub replies : List ReplyData
  pub transcript : Transcript (PerformsWell history) first frames replies state

-- ---- what comes next

-- the text of a frame is no statement; or its statement is no query, and is refused
pub data IsRefusedBy (history : History) (old : SessionState) (frame : Frame) (reply : ReplyData)
    : Type 0 where
  no_statement : (new : SessionState) → RefusesText old frame.text reply new
      → IsRefusedBy history old frame reply
  statement : (new : SessionState) (t : Statement) → IsStatement frame.text t → IsNoQuery t
      → Steps history old t frame.content reply new → IsRefusal reply
      → IsRefusedBy history old frame reply

-- the next frame is refused so
pub record ComesRefused (history : History) (state : SessionState) (rest : List ℕ)
    (reply : ReplyData) : Type 0 where
  pub frame : Frame
  pub after : List ℕ
  pub first : IsFirst IsLoad rest frame after
  pub why : IsRefusedBy history state frame reply

-- the next frame is this query, and then come these bytes
pub record ComesQuery (rest : List ℕ) (query : Query) (after : List ℕ) : Type 0 where
  pub words : List ℕ
  pub first : IsFirst IsLoad rest (record { text = words; content = absent }) after
  pub is : IsStatement words (statements.Query query)

-- no whole frame comes, and none that is too long
pub record ComesNone (rest : List ℕ) : Type 0 where
  pub none : NoneWhole IsLoad rest
  pub not_long : ¬ IsOverlong rest

-- the statements that count came, or more bytes are needed for them
pub data ReadsOn (history : History) (state : SessionState) (rest : List ℕ) : Type 0 where
  more : ComesNone rest → ReadsOn history state rest
  refused : (reply : ReplyData) → ComesRefused history state rest reply
      → ReadsOn history state rest
  query : (query : Query) (after : List ℕ) → ComesQuery rest query after
      → ReadsOn history state rest

-- ---- the line

-- what comes after a line feed, if the rest begins with one, or else the whole
abbrev pub past_feed : List ℕ → List ℕ → List ℕ
past_feed whole [] = whole
past_feed whole (byte ∷ rest) = if byte == 10 then rest else whole

-- The certificate is what comes after a query, without one end of a line: LF or CR LF.
abbrev pub certificate_in : List ℕ → List ℕ
certificate_in [] = []
certificate_in (byte ∷ rest) =
    past_feed (byte ∷ rest) (if byte == 13 then rest else byte ∷ rest)

-- Why a query isn't judged: its method isn't exact; or the cause that refuses it, which may show a
-- name that is no text.
pub data RefusesQuery (history : History) (query : Query) : ReplyData → Type 0 where
  by_sketch : is_exact query.method ≡ false → RefusesQuery history query (refusal_of not_built)
  because : (cause : Refusal) → IsTrue (is_exact query.method)
      → RefusesToPrepare history query cause → RefusesQuery history query (refusal_of cause)
  nameless : (cause : Refusal) → IsTrue (is_exact query.method)
      → RefusesToPrepare history query cause → ¬ IsUtf8 (name_in cause)
      → RefusesQuery history query (refusal_of not_built)

-- This is said of a text by the query and the rows that it asks. A valid one shows what it claims.
pub record IsJudged (history : History) (query : Query) (bound : BoundQuery) (words : List ℕ)
    (verdict : Verdict) : Type 0 where
  pub says : Says bound (rows_asked (tables_of history query) query) words verdict
  pub shows : verdict ≡ verdicts.Valid
      → Shows bound (rows_asked (tables_of history query) query) words

-- how a check ends by its verdict
abbrev pub end_of : Verdict → CheckEnd
end_of verdicts.Valid = ends.Valid
end_of (verdicts.BadCert bad) = ends.Unjudged
end_of verdict = ends.Invalid

abbrev pub refused_line : ReplyData → List ℕ
refused_line reply = codes "REFUSED " ++ reply_text reply

-- The line that is due when all bytes are read, and how the check ends with it. A valid certificate
-- shows what it claims of the query, on the version that the query reads.
pub data IsLine (history : History) (state : SessionState) (rest : List ℕ)
    : List ℕ → CheckEnd → Type 0 where
  at_statement : (reply : ReplyData) → ComesRefused history state rest reply
      → IsLine history state rest (refused_line reply) ends.Unjudged
  at_query : (query : Query) (after : List ℕ) → ComesQuery rest query after
      → (reply : ReplyData) → RefusesQuery history query reply
      → IsLine history state rest (refused_line reply) ends.Unjudged
  at_certificate : (query : Query) (after : List ℕ) → ComesQuery rest query after
      → IsTrue (is_exact query.method)
      → (prepared : Prepared) → IsPrepared history query prepared
      → (verdict : Verdict)
      → IsJudged history query prepared.bound (certificate_in after) verdict
      → IsLine history state rest (line_of verdict) (end_of verdict)

-- ---- the ends

-- what was written at each end, when so many bytes were taken
abbrev pub EndsCheck :
    History → SessionState → List ℕ → List ℕ → ℕ → CheckEnd → Type 0
EndsCheck history state rest written taken ends.Valid =
    IsLine history state rest written ends.Valid
EndsCheck history state rest written taken ends.Invalid =
    IsLine history state rest written ends.Invalid
EndsCheck history state rest written taken ends.Unjudged =
    IsLine history state rest written ends.Unjudged
EndsCheck history state rest written taken ends.Truncated = (written ≡ []) × ComesNone rest
EndsCheck history state rest written taken ends.ReadFault =
    (written ≡ []) × ReadsOn history state rest
EndsCheck history state rest written taken ends.WriteFault = (later : List ℕ) × (end : CheckEnd)
    × IsLine history state rest (written ++ later) end
EndsCheck history state rest written taken ends.Memory = written ≡ []
EndsCheck history state rest written taken ends.TooLong =
    (written ≡ []) × NoneWhole IsLoad rest × IsOverlong rest
EndsCheck history state rest written taken ends.SessionLimit =
    (written ≡ []) × ReadsOn history state rest × (taken ≡ MAX_BYTES)

-- the input was read to its end
abbrev pub IsCheckedOut : CheckEnd → Type 0
IsCheckedOut ends.Valid = Unit {0}
IsCheckedOut ends.Invalid = Unit {0}
IsCheckedOut ends.Unjudged = Unit {0}
IsCheckedOut ends.Truncated = Unit {0}
IsCheckedOut ends.WriteFault = Unit {0}
IsCheckedOut end = ⊥

-- The bytes that the source gave begin with a script, from what the vault held on; and the check
-- ends so by what comes after it.
pub record ChecksWith (vault vault_now : Holding) (source source_now sink sink_now : Shown)
    (end : CheckEnd) : Type 0 where
  pub bytes : List ℕ
  pub rest : List ℕ
  pub written : List ℕ
  pub state : SessionState
  pub grows : Grows vault vault_now
  pub own : state.own ≡ vault_now.own
  pub read : GivesBytes source source_now bytes
  pub most : length bytes ≤ MAX_BYTES
  pub script : IsScript vault_now.held (opening vault) bytes rest state
  pub wrote : TakesBytes sink sink_now written
  pub ends : EndsCheck vault_now.held state rest written (length bytes) end
  pub read_out : IsCheckedOut end → HasEnded source_now

-- A check ends by a fault exactly if the source or the sink failed, by the fault of that one, and
-- then the other one hasn't failed.
abbrev pub HasCheckCause : Shown → Shown → Shown → Shown → CheckEnd → Type 0
HasCheckCause source source_now sink sink_now ends.ReadFault =
    HasFailed source source_now × HasNoFault sink sink_now
HasCheckCause source source_now sink sink_now ends.WriteFault =
    HasNoFault source source_now × HasFailed sink sink_now
HasCheckCause source source_now sink sink_now end =
    HasNoFault source source_now × HasNoFault sink sink_now

-- ---- completeness

-- fewer bytes than a session takes, with a query among their frames
pub record HasQuery (left : Option (List ℕ)) : Type 0 where
  pub bytes : List ℕ
  pub frames : List Frame
  pub between : List ℕ
  pub query : Query
  pub after : List ℕ
  pub told : left ≡ Some bytes
  pub few : length bytes < MAX_BYTES
  pub begins : Begins IsLoad bytes frames between
  pub comes : ComesQuery between query after

-- the check wrote a line, or ended by a fault or out of memory
abbrev pub IsToldOrFault : CheckEnd → Type 0
IsToldOrFault ends.Truncated = ⊥
IsToldOrFault ends.TooLong = ⊥
IsToldOrFault ends.SessionLimit = ⊥
IsToldOrFault end = Unit {0}
