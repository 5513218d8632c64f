-- What is answered to a query over the rows of its table, and what is kept of it.
use Rattle.std.specs.Prelude.{◌≡◌, ℕ, ◌<◌, ◌≤◌, All, if◌then◌else◌, List, [], length, ℤ, ◌≤ℤ◌, neg_ℤ, Option, None, Some, IfSome, unwrap_or}
use Rattle.std.specs.Fmt.{decimal}
use Rattle.pq_base.specs.Decimal.{decimal_text}
use Rattle.cert_text.specs.Claims.{claimed}
use Rattle.cert_text.specs.declared.value.Claim.{Claim}
use Rattle.cert_text.specs.declared.value.Claim.TheVariants as claims
use Rattle.cert_tree.specs.Certificates.{IsCertificate}
use Rattle.cert_tree.specs.Multipliers.{HasLegalMult}
use Rattle.cert_tree.specs.Partial.{IsPartialCertificate, most_left}
use Rattle.lin_bound.specs.Problem.{ProblemData}
use Rattle.package_query.specs.Meaning.{Meets, worth, Best, Empty}
use Rattle.table_schema.specs.declared.cells.Cell.{Cell}
use Rattle.bound_query.specs.Asks.{asks}
use Rattle.bound_query.specs.declared.queries.BoundGoal.{BoundGoal}
use Rattle.bound_query.specs.declared.queries.BoundQuery.{BoundQuery}
use Rattle.package_program.specs.Meaning.{program}
use Rattle.package_program.specs.Translation.{most_candidates, count_of, HasSmallSums, HasTooLarge}
use Rattle.session_proto.specs.Replies.{ReplyData}
use Rattle.session_proto.specs.Answers as answers
use Rattle.session_proto.specs.Causes.{query_cause}
use Rattle.session_proto.specs.Refusals.{Refusal, limit_candidates, too_large}
use Rattle.query_answer.specs.declared.answering.Answered.{Answered}
use Rattle.query_answer.specs.declared.answering.Answered.TheVariants.{Reply, Refused}
use Rattle.query_answer.specs.declared.kept.Kept.{Kept}

-- the rows of a table, each after its id
abbrev pub Rows : Type 0
Rows = List (ℕ × List Cell)

-- what a package is worth, and the program of a query over its rows
abbrev pub worth_of : BoundQuery → Rows → List (ℕ × ℕ) → ℤ
worth_of query rows pairs = worth (asks query) rows pairs

abbrev pub program_of : BoundQuery → Rows → ProblemData
program_of query rows = program (asks query) query.row_bound rows

-- ---- how values are shown

-- a value in the goal's own sense: the worth is negated for a goal that is to be least
abbrev pub own_sense : BoundGoal → ℤ → ℤ
own_sense goal value = if goal.maximize then value else neg_ℤ value

-- in the goal's own sense and scale, and not without a goal
abbrev pub shown : Option BoundGoal → ℤ → Option (List ℕ)
shown None value = None
shown (Some goal) value = Some (decimal_text (own_sense goal value) goal.scale)

abbrev pub shown_pair : Option BoundGoal → ℤ → ℤ → Option (List ℕ × List ℕ)
shown_pair None bound value = None
shown_pair (Some goal) bound value = Some (
  decimal_text (own_sense goal bound) goal.scale,
  decimal_text (own_sense goal value) goal.scale,
)

-- ---- answers

-- what is kept is the query's program, what is claimed of it, and the pairs of the package shown
pub record KeepsClaim (query : BoundQuery) (rows : Rows) (said : Claim) (told : List (ℕ × ℕ))
    (kept : Kept) : Type 0 where
  pub problem : kept.problem ≡ program_of query rows
  pub claim : kept.claim ≡ said
  pub pairs : kept.pairs ≡ told

-- with a certificate for the value that is claimed, or for no value, within the budget
pub record IsKeptProof (query : BoundQuery) (rows : Rows) (said : Claim) (told : List (ℕ × ℕ))
    (kept : Kept) : Type 0 where
  pub keeps : KeepsClaim query rows said told kept
  pub certificate : IsCertificate (program_of query rows) kept.tree (claimed said)
  pub few : length kept.tree ≤ query.budget
  pub legal : All (HasLegalMult (program_of query rows)) kept.tree

-- with a package that is best and its worth, or no package meets the query
pub record IsOptimal (query : BoundQuery) (rows : Rows) (version : ℕ) (reply : ReplyData)
    (kept : Kept) : Type 0 where
  pub pairs : List (ℕ × ℕ)
  pub best : Best (asks query) rows pairs
  pub proof : IsKeptProof query rows (claims.Optimal (worth_of query rows pairs)) pairs kept
  pub shown : reply ≡ answers.optimal (shown query.goal (worth_of query rows pairs)) pairs version

pub record IsInfeasible (query : BoundQuery) (rows : Rows) (version : ℕ) (reply : ReplyData)
    (kept : Kept) : Type 0 where
  pub empty : Empty (asks query) rows
  pub proof : IsKeptProof query rows claims.Infeasible [] kept
  pub shown : reply ≡ answers.infeasible version

-- the worth of the package that was found, if one was
abbrev pub worth_in : BoundQuery → Rows → Option (List (ℕ × ℕ)) → Option ℤ
worth_in query rows None = None
worth_in query rows (Some pairs) = Some (worth_of query rows pairs)

abbrev pub open_reply : BoundQuery → Rows → ℤ → Option (List (ℕ × ℕ)) → ℕ → ReplyData
open_reply query rows bound None version =
    answers.undecided (shown query.goal bound) query.budget version
open_reply query rows bound (Some pairs) version = answers.undecided_best
    (shown_pair query.goal bound (worth_of query rows pairs)) query.budget pairs version

-- The budget is spent: the tree that is kept has exactly so many nodes done, the package shown
-- meets the query, the bound shown is what the tree leaves possible above it, and no package that
-- meets the query is worth more than that.
pub record IsUndecidedAnswer (query : BoundQuery) (rows : Rows) (version : ℕ)
    (reply : ReplyData) (kept : Kept) : Type 0 where
  pub found : Option (List (ℕ × ℕ))
  pub bound : ℤ
  pub meets : IfSome found (λ (pairs : List (ℕ × ℕ)). Meets (asks query) rows pairs)
  pub keeps : KeepsClaim query rows (claims.Undecided (worth_in query rows found))
      (unwrap_or found []) kept
  pub partly : IsPartialCertificate query.budget (program_of query rows) kept.tree
      (worth_in query rows found)
  pub legal : All (HasLegalMult (program_of query rows)) kept.tree
  pub bound_is : bound ≡ most_left (program_of query rows) kept.tree (worth_in query rows found)
  pub none_above : (pairs : List (ℕ × ℕ)) → Meets (asks query) rows pairs
      → worth (asks query) rows pairs ≤ℤ bound
  pub shown : reply ≡ open_reply query rows bound found version

-- What answers a query, and what is kept of it.
pub data AnswersQuery (query : BoundQuery) (rows : Rows) (version : ℕ) (reply : ReplyData)
    (kept : Kept) : Type 0 where
  optimal : IsOptimal query rows version reply kept → AnswersQuery query rows version reply kept
  infeasible : IsInfeasible query rows version reply kept
      → AnswersQuery query rows version reply kept
  undecided : IsUndecidedAnswer query rows version reply kept
      → AnswersQuery query rows version reply kept

-- ---- refusals

-- the query has a program: not too many candidates, and no sum that could be too large
pub record HasProgram (query : BoundQuery) (rows : Rows) : Type 0 where
  pub few : count_of query rows ≤ most_candidates
  pub small : HasSmallSums query rows

-- why it has none: too many candidates, or else the first sum that could be too large
pub data FormRefuses (query : BoundQuery) (rows : Rows) : Refusal → Type 0 where
  many : most_candidates < count_of query rows
      → FormRefuses query rows (limit_candidates (count_of query rows))
  large : (conjunct total : ℕ) → count_of query rows ≤ most_candidates
      → HasTooLarge query rows conjunct total
      → FormRefuses query rows (too_large conjunct (decimal total))

-- what becomes of a query
abbrev pub Answers : BoundQuery → Rows → ℕ → Answered → Type 0
Answers query rows version (Reply reply kept) =
    HasProgram query rows × AnswersQuery query rows version reply kept
Answers query rows version (Refused fault) = FormRefuses query rows (query_cause fault)
