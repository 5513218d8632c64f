-- Private: the laws in `src/laws.rt`.
-- The laws of sessions.
use Rattle.std.specs.Prelude.{◌≡◌, ◌↔◌, ℕ, ◌^◌, IsTrue, List, [], ◌++◌}
use Rattle.paql_ast.specs.declared.queries.Query.{Query}
use Rattle.paql_ast.specs.declared.statements.Statement.{Statement}
use Rattle.paql_ast.specs.declared.statements.Statement.TheVariants as statements
use Rattle.paql_lexer.specs.Tokens.{IsTokens}
use Rattle.session_proto.specs.Frames.{is_blank}
use Rattle.session_proto.specs.Input.{Content}
use Rattle.session_proto.specs.Refusals.{Refusal}
use Rattle.session_proto.specs.Replies.{ReplyData}
use Rattle.session_proto.specs.Sessions.{Frame}
use Rattle.version_store.specs.Histories.{History}
use Rattle.paql_engine.specs.State.{SessionState}
use Rattle.paql_engine.specs.Performed.{is_exact}
use Rattle.paql_engine.specs.Preparing.{RefusesToPrepare}
use Rattle.paql_engine.specs.Steps.{Steps, Queue, Refuses}
use Rattle.paql_engine.specs.Transcript.{Transcript, Answers}
use Rattle.paql_engine.specs.declared.ending.TheConstants.{MAX_BYTES}

-- A text is blank exactly if it has no token.
abbrev pub BlankIsTokenless : Type 0
BlankIsTokenless = (text : List ℕ) → IsTrue (is_blank text) ↔ IsTokens text []

-- A session takes 2^30 bytes at most.
abbrev pub MostBytes : Type 0
MostBytes = MAX_BYTES ≡ 2 ^ 30

-- A step over a history is a step over each longer one.
abbrev pub LongerHistory : Type 0
LongerHistory =
    (history more : History) (old new : SessionState) (t : Statement) (body : Content)
    (reply : ReplyData)
    → Steps history old t body reply new → Steps (history ++ more) old t body reply new

-- A frame is answered while all commits that the session has seen are its own.
pub record AnswersAlone (history : History) (old : SessionState) (frame : Frame)
    (reply : ReplyData) (new : SessionState) : Type 0 where
  pub answers : Answers history old frame reply new
  pub before : old.own ≡ old.seen
  pub after : new.own ≡ new.seen

-- If all commits that it has seen are its own at both ends of a transcript, they are so at each
-- frame: an accepted commit comes next after those that it has seen, and no other frame adds one.
abbrev pub NobodyElse : Type 0
NobodyElse =
    (history : History) (old new : SessionState) (frames : List Frame) (replies : List ReplyData)
    → Transcript (Answers history) old frames replies new → old.own ≡ old.seen
    → new.own ≡ new.seen → Transcript (AnswersAlone history) old frames replies new

-- A query whose method is exact is refused when it is made ready exactly if a step refuses it, and
-- for the same cause.
abbrev pub RefusedAlike : Type 0
RefusedAlike =
    (history : History) (queue : Queue) (query : Query) (due : Refusal)
    → IsTrue (is_exact query.method)
    → RefusesToPrepare history query due ↔ Refuses history queue (statements.Query query) due
