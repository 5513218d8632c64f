-- Private: the law in `src/laws.rt`.
-- What is kept of an answer can be written as a certificate.
use Rattle.std.specs.Prelude.{ℕ}
use Rattle.bound_query.specs.Asks.{AreAskedOf}
use Rattle.bound_query.specs.declared.queries.BoundQuery.{BoundQuery}
use Rattle.session_proto.specs.Replies.{ReplyData}
use Rattle.query_answer.specs.Answers.{Rows, HasProgram, AnswersQuery}
use Rattle.query_answer.specs.Kept.{AreNumbered, IsWritten}
use Rattle.query_answer.specs.declared.kept.Kept.{Kept}

-- What is kept of an answer can be written as a certificate, where no id of the rows is too large.
abbrev pub AnswersAreWritten : Type 0
AnswersAreWritten = (query : BoundQuery) (rows : Rows) (version : ℕ) (reply : ReplyData)
    (kept : Kept) → AreAskedOf query rows → AreNumbered rows → HasProgram query rows
    → AnswersQuery query rows version reply kept
    → IsWritten kept.problem kept.claim kept.pairs kept.tree
