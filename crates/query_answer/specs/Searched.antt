-- Private: `src/answering.rt`: the reply to what a search left open, and what is kept of it.
-- The reply to what a search left open.
use Rattle.std.specs.Prelude.{◌≡◌, ℕ, List, [], ℤ, Option, None, Some}
use Rattle.bound_query.specs.declared.queries.BoundQuery.{BoundQuery}
use Rattle.lin_bound.specs.Problem.{ProblemData, IsWithin}
use Rattle.package_program.specs.Points.{package_at}
use Rattle.search_core.specs.Search.{Found}
use Rattle.session_proto.specs.Answers as answers
use Rattle.session_proto.specs.Replies.{ReplyData}
use Rattle.cert_text.specs.declared.value.Claim.{Claim}
use Rattle.cert_tree.specs.declared.nodes.TreeNode.{TreeNode}
use Rattle.query_answer.specs.Answers.{shown, shown_pair}
use Rattle.query_answer.specs.declared.answering.Answered.{Answered}
use Rattle.query_answer.specs.declared.answering.Answered.TheVariants.{Reply, Refused}

-- the point that was found, if one was, is within the uppers
abbrev pub IsCounted : ProblemData → Option Found → Type 0
IsCounted p None = Unit {0}
IsCounted p (Some found) = IsWithin p found.1

-- the package shown is that of the point
abbrev pub shows : BoundQuery → List ℕ → ℤ → Option Found → ℕ → ReplyData
shows query ids bound None version = answers.undecided (shown query.goal bound) query.budget version
shows query ids bound (Some found) version = answers.undecided_best
    (shown_pair query.goal bound found.0) query.budget (package_at ids found.1) version

-- the pairs of the point's package, if there is a point
abbrev pub pairs_in : List ℕ → Option Found → List (ℕ × ℕ)
pairs_in ids None = []
pairs_in ids (Some found) = package_at ids found.1

-- this is the reply, and these things are kept
abbrev pub IsTold : ReplyData → ProblemData → Claim → List (ℕ × ℕ) → List TreeNode → Answered
    → Type 0
IsTold reply problem claim pairs tree (Reply other kept) = (other ≡ reply)
    × (kept.problem ≡ problem) × (kept.claim ≡ claim) × (kept.pairs ≡ pairs)
    × (kept.tree ≡ tree)
IsTold reply problem claim pairs tree (Refused fault) = ⊥
