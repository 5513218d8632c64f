-- The line of a query and of what comes after it.
use Rattle.std.proofs.Common.{◌≡◌, ℕ, List, IsTrue, IfOk, Result, Ok, Err, sym, ap, subst}
use Rattle.std.specs.declared.alloc.AllocError.{AllocError}
use Rattle.answer_check.specs.Lines.{line_of}
use Rattle.answer_check.specs.Verdicts.{Says, Shows}
use Rattle.answer_check.specs.declared.verdict.Verdict.TheVariants as verdicts
use Rattle.paql_ast.specs.declared.queries.Query.{Query}
use Rattle.paql_engine.specs.Performed.{is_exact}
use Rattle.paql_engine.specs.Preparing.{IsPrepared, IsReady}
use Rattle.paql_engine.specs.Queries.{rows_asked}
use Rattle.paql_engine.specs.State.{SessionState}
use Rattle.paql_engine.specs.Steps.{tables_of}
use Rattle.paql_engine.specs.declared.preparing.Prepared.{Prepared}
use Rattle.session_proto.specs.Replies.{ReplyData, reply_text}
use Rattle.snapshots.specs.declared.snapshot.Snapshot.{Snapshot}
use Rattle.snapshots.specs.declared.tables.Table.{Table}
use Rattle.version_store.specs.Histories.{History}
use Rattle.session_server.specs.Checks.{RefusesQuery, IsLine, at_query, at_certificate, certificate_in, refused_line}
use Rattle.session_server.specs.Telling.{IsReadyOver, IsUnjudged, TellsVerdict, TellsQuery}
use Rattle.session_server.specs.declared.checking.CheckEnd.{CheckEnd}
use Rattle.session_server.specs.declared.checking.line.Line.{Line}

-- the query is refused
pub tells_refused : (history : History) (query : Query) (after : List ℕ) (reply : ReplyData) (line : Line) → RefusesQuery history query reply → IsUnjudged (reply_text reply) line → TellsQuery history query after line
tells_refused history query after reply line refuses is = λ (state : SessionState) (rest : List ℕ). λ comes.
    subst (λ (l : List ℕ). IsLine history state rest l line.end) (sym is.told)
    (subst (λ (e : CheckEnd). IsLine history state rest (refused_line reply) e) (sym is.end) (at_query query after comes reply refuses))

-- the tables of the version that was taken
ready_over : (history : History) (query : Query) (prepared : Prepared) → IsPrepared history query prepared → prepared.snapshot.tables ≡ tables_of history query
ready_over history query prepared is = ap (λ (s : Snapshot). s.tables) is.snapshot

pub is_ready_over : (history : History) (query : Query) (prepared : Prepared) → IsPrepared history query prepared → IsReadyOver query prepared
is_ready_over history query prepared is = subst (λ (t : List Table). IsReady t query prepared.bound prepared.linear) (sym (ready_over history query prepared is)) is.ready

pub tells_verdict : (history : History) (query : Query) (after : List ℕ) (prepared : Prepared) (line : Line) → IsTrue (is_exact query.method) → IsPrepared history query prepared
    → TellsVerdict query prepared (certificate_in after) line → TellsQuery history query after line
tells_verdict history query after prepared line exact is told = λ (state : SessionState) (rest : List ℕ). λ comes.
    let tables = ready_over history query prepared is in
    let says = subst (λ (t : List Table). Says prepared.bound (rows_asked t query) (certificate_in after) told.verdict) tables told.says in
    let shows = subst (λ (t : List Table). told.verdict ≡ verdicts.Valid → Shows prepared.bound (rows_asked t query) (certificate_in after)) tables told.shows in
    subst (λ (l : List ℕ). IsLine history state rest l line.end) (sym told.told)
    (subst (λ (e : CheckEnd). IsLine history state rest (line_of told.verdict) e) (sym told.end)
    (at_certificate query after comes exact prepared is told.verdict (record { says = says; shows = shows })))

-- the same, if memory isn't out

pub refused_if : (history : History) (query : Query) (after : List ℕ) (reply : ReplyData) (bytes : List ℕ) (result : Result Line AllocError) → RefusesQuery history query reply → bytes ≡ reply_text reply
    → IfOk result (λ (line : Line). IsUnjudged bytes line) → IfOk result (λ (line : Line). TellsQuery history query after line)
refused_if history query after reply bytes (Ok line) refuses same is = tells_refused history query after reply line refuses (subst (λ (b : List ℕ). IsUnjudged b line) same is)
refused_if history query after reply bytes (Err error) refuses same is = tt

pub verdict_if : (history : History) (query : Query) (after text : List ℕ) (prepared : Prepared) (result : Result Line AllocError) → IsTrue (is_exact query.method) → IsPrepared history query prepared → text ≡ certificate_in after
    → IfOk result (λ (line : Line). TellsVerdict query prepared text line) → IfOk result (λ (line : Line). TellsQuery history query after line)
verdict_if history query after text prepared (Ok line) exact is same told = tells_verdict history query after prepared line exact is (subst (λ (w : List ℕ). TellsVerdict query prepared w line) same told)
verdict_if history query after text prepared (Err error) exact is same told = tt
