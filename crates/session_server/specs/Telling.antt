-- Private: `src/checking/line.rt`.
-- What the parts of the line of a check tell.
use Rattle.std.specs.Prelude.{◌≡◌, ◌++◌, ℕ, List, codes, Option, None, Some, Result, Ok, Err}
use Rattle.std.specs.declared.alloc.AllocError.{AllocError}
use Rattle.std.specs.declared.alloc.Global.{Global}
use Rattle.std.specs.declared.vec.Vec.{Vec}
use Rattle.answer_check.specs.Lines.{line_of}
use Rattle.answer_check.specs.Verdicts.{Says, Shows}
use Rattle.answer_check.specs.declared.verdict.Verdict.{Verdict}
use Rattle.answer_check.specs.declared.verdict.Verdict.TheVariants as verdicts
use Rattle.paql_ast.specs.declared.queries.Query.{Query}
use Rattle.paql_engine.specs.Preparing.{IsReady}
use Rattle.paql_engine.specs.Queries.{rows_asked}
use Rattle.paql_engine.specs.State.{SessionState}
use Rattle.paql_engine.specs.declared.preparing.Prepared.{Prepared}
use Rattle.session_proto.specs.Replies.{ReplyData}
use Rattle.version_store.specs.Histories.{History}
use Rattle.session_server.specs.Checks.{ComesQuery, IsLine, IsRefusal, end_of, refused_line}
use Rattle.session_server.specs.declared.checking.CheckEnd.TheVariants as ends
use Rattle.session_server.specs.declared.checking.line.Line.{Line}

-- the line of an answer that is a refusal; memory runs out for such a one alone
abbrev pub TellsRefusal : ReplyData → Result (Option (Vec ℕ Global)) AllocError → Type 0
TellsRefusal reply (Ok None) = ¬ IsRefusal reply
TellsRefusal reply (Ok (Some line)) = IsRefusal reply × (line.items ≡ refused_line reply)
TellsRefusal reply (Err error) = IsRefusal reply

-- the query is ready on the tables of the version that was taken for it
abbrev pub IsReadyOver : Query → Prepared → Type 0
IsReadyOver query prepared =
    IsReady prepared.snapshot.tables query prepared.bound prepared.linear

-- this is said of the text, and the line tells it
pub record TellsVerdict (query : Query) (prepared : Prepared) (words : List ℕ) (line : Line)
    : Type 0 where
  pub verdict : Verdict
  pub says : Says prepared.bound (rows_asked prepared.snapshot.tables query) words verdict
  pub shows : verdict ≡ verdicts.Valid
      → Shows prepared.bound (rows_asked prepared.snapshot.tables query) words
  pub told : line.bytes.items ≡ line_of verdict
  pub end : line.end ≡ end_of verdict

-- the line of these bytes of a reply
pub record IsUnjudged (reply : List ℕ) (line : Line) : Type 0 where
  pub told : line.bytes.items ≡ codes "REFUSED " ++ reply
  pub end : line.end ≡ ends.Unjudged

-- the line that is due for a query and the bytes after it
abbrev pub TellsQuery : History → Query → List ℕ → Line → Type 0
TellsQuery history query after line = (state : SessionState) (rest : List ℕ)
    → ComesQuery rest query after → IsLine history state rest line.bytes.items line.end
