use Rattle.std.proofs.Common.{◌≡◌, ℕ, List, Ok, Err}
use Rattle.std.specs.Prelude.{IfOk, Result}
use Rattle.std.specs.declared.alloc.AllocError.{AllocError}
use Rattle.bound_query.specs.declared.queries.BoundQuery.{BoundQuery}
use Rattle.cert_text.specs.Answers.{IsRead}
use Rattle.cert_text.specs.declared.value.CertText.{CertText}
use Rattle.answer_check.specs.Verdicts.{Rows, Says, SaysOf, bad, read}
use Rattle.answer_check.specs.declared.verdict.BadText.TheVariants.{Header, Line, Truncated, Trailing}
use Rattle.answer_check.specs.declared.verdict.Verdict.{Verdict}
use Rattle.answer_check.proofs.judging.judge_text.Goals as goal

says_if : (query : BoundQuery) (rows : Rows) (text : List ℕ) (cert : CertText) (result : Result Verdict AllocError) → IsRead text (Ok cert)
    → IfOk result (λ verdict. SaysOf query rows cert verdict) → IfOk result (λ verdict. Says query rows text verdict)
says_if query rows text cert (Ok verdict) is said = read cert verdict is said
says_if query rows text cert (Err error) is said = tt

pub returns-in-Ok : goal.returns-in-Ok
returns-in-Ok c =
    says_if c.args.query.now c.args.rows.now c.args.text.now c.in-Ok.cert c.judge_cert.result (rw c.in-Ok.is at c.read_cert.ensures) c.judge_cert.ensures

pub returns-in-Err-BadHeader : goal.returns-in-Err-BadHeader
returns-in-Err-BadHeader c = bad Header (rw c.in-Err-BadHeader.field-0-is at c.in-Err-BadHeader.ensures)

pub returns-in-Err-BadLine : goal.returns-in-Err-BadLine
returns-in-Err-BadLine c =
    rw c.in-Err-BadLine.line-is (bad (Line c.in-Err-BadLine.line) (rw c.in-Err-BadLine.field-0-is at c.in-Err-BadLine.ensures))

pub returns-in-Err-Truncated : goal.returns-in-Err-Truncated
returns-in-Err-Truncated c = bad Truncated (rw c.in-Err-Truncated.field-0-is at c.in-Err-Truncated.ensures)

pub returns-in-Err-Trailing : goal.returns-in-Err-Trailing
returns-in-Err-Trailing c =
    rw c.in-Err-Trailing.line-is (bad (Trailing c.in-Err-Trailing.line) (rw c.in-Err-Trailing.field-0-is at c.in-Err-Trailing.ensures))
