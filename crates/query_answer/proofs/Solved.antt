-- What the solver's answer to a query's program says of the query.
use Rattle.std.proofs.Common.{◌≡◌, ℕ, List, [], ℤ, ◌≤ℤ◌, Option, None, Some, Ok, Err, refl, sym, ap, ◌∙◌, subst, arith}
use Rattle.std.proofs.lemmas.Int.{ints}
use Rattle.std.specs.Prelude.{IfOk, Result}
use Rattle.std.specs.declared.alloc.AllocError.{AllocError}
use Rattle.cert_text.specs.declared.value.Claim.{Claim}
use Rattle.cert_text.specs.declared.value.Claim.TheVariants.{Optimal, Infeasible, Undecided}
use Rattle.cert_tree.proofs.Bounds.{partial_bounds}
use Rattle.cert_tree.proofs.Soundness.{certified_is_best, certified_is_empty}
use Rattle.cert_tree.specs.Certificates.{IsCertificate}
use Rattle.cert_tree.specs.Partial.{IsPartialCertificate, most_left}
use Rattle.cert_tree.specs.declared.nodes.TreeNode.{TreeNode}
use Rattle.lin_bound.proofs.Duality.{weak_duality, closed_holds_none}
use Rattle.lin_bound.proofs.Halves.{halves_cover}
use Rattle.lin_bound.specs.Problem.{ProblemData, IsFeasible, IsLegal, IsWithin, cost_at}
use Rattle.package_query.specs.Meaning.{Meets, Best, Empty, worth}
use Rattle.table_schema.specs.declared.cells.Cell.{Cell}
use Rattle.bound_query.specs.Asks.{asks, AreAskedOf}
use Rattle.bound_query.specs.declared.queries.BoundQuery.{BoundQuery}
use Rattle.package_program.specs.Meaning.{IsTranslated, taken}
use Rattle.package_program.specs.Program.{candidates, ids_of}
use Rattle.package_program.proofs.Counts.{row_bound_is}
use Rattle.package_program.proofs.Translated.{translated}
use Rattle.session_proto.specs.Answers as answers
use Rattle.session_proto.specs.Replies.{ReplyData}
use Rattle.search_core.specs.Search.{Found, IsFound, value_in}
use Rattle.search_core.specs.Solver.{IsProven, IsUndecided}
use Rattle.query_answer.specs.Answers.{Rows, Answers, HasProgram, AnswersQuery, IsUndecidedAnswer, KeepsClaim, optimal, infeasible, undecided, program_of, worth_of, shown, shown_pair}
use Rattle.query_answer.specs.Searched.{IsCounted, IsTold, pairs_in, shows}
use Rattle.query_answer.specs.declared.answering.Answered.{Answered}
use Rattle.query_answer.specs.declared.answering.Answered.TheVariants.{Reply, Refused}
use Rattle.query_answer.specs.declared.kept.Kept.{Kept}

-- the program means the query
abbrev pub Means : BoundQuery → Rows → Type 0
Means query rows = IsTranslated (asks query) query.row_bound rows

abbrev pub pairs_of : BoundQuery → Rows → List ℕ → List (ℕ × ℕ)
pairs_of query rows point = taken (asks query) rows point

pub means_of : (query : BoundQuery) (rows : Rows) → AreAskedOf query rows → HasProgram query rows → Means query rows
means_of query rows asked has = translated (List Cell) (asks query) query.row_bound rows
    (record { ascending = asked.ascending; repeat = query.copies.repeat; bounds = row_bound_is query rows; small = has.small })

-- a feasible point is within the uppers
pub point_within : (p : ProblemData) (x : List ℕ) → IsFeasible p x → IsWithin p x
point_within p x is = record { each = is.each; within = is.within }

-- its package meets the query, and is worth what it costs
point_meets : (query : BoundQuery) (rows : Rows) (x : List ℕ) → Means query rows → IsFeasible (program_of query rows) x → Meets (asks query) rows (pairs_of query rows x)
point_meets query rows x means is = (means.meets x (point_within (program_of query rows) x is)).0 is

point_worth : (query : BoundQuery) (rows : Rows) (x : List ℕ) → Means query rows → IsFeasible (program_of query rows) x → cost_at (program_of query rows) x ≡ worth_of query rows (pairs_of query rows x)
point_worth query rows x means is = means.worth x (point_within (program_of query rows) x is)

-- what no feasible point costs more than, no package that meets the query is worth more than
none_above : (query : BoundQuery) (rows : Rows) (most : ℤ) → Means query rows → ((y : List ℕ) → IsFeasible (program_of query rows) y → cost_at (program_of query rows) y ≤ℤ most)
    → (pairs : List (ℕ × ℕ)) → Meets (asks query) rows pairs → worth (asks query) rows pairs ≤ℤ most
none_above query rows most means above pairs meets =
    let found = means.covers pairs meets in
    let same : pairs_of query rows found.0 ≡ pairs = found.1.same in
    let met : Meets (asks query) rows (pairs_of query rows found.0) = rw same meets in
    let feasible = (means.meets found.0 found.1.within).1 met in
    let value : cost_at (program_of query rows) found.0 ≡ worth (asks query) rows pairs =
    means.worth found.0 found.1.within ∙ ap (worth (asks query) rows) same in
    omega (arith, ints, above found.0 feasible, value)

-- the package of a point with a certificate for its cost is best
best_package : (query : BoundQuery) (rows : Rows) (x : List ℕ) (most : ℤ) (nodes : List TreeNode) → Means query rows → IsLegal (program_of query rows)
    → IsFeasible (program_of query rows) x → cost_at (program_of query rows) x ≡ most → IsCertificate (program_of query rows) nodes (Some most) → Best (asks query) rows (pairs_of query rows x)
best_package query rows x most nodes means legal is comes certificate =
    let cost : worth (asks query) rows (pairs_of query rows x) ≡ cost_at (program_of query rows) x = sym (point_worth query rows x means is) in
    let certifies = subst (λ (z : ℤ). IsCertificate (program_of query rows) nodes (Some z)) (sym comes) certificate in
    let above = none_above query rows (cost_at (program_of query rows) x) means
    (λ (y : List ℕ) (feasible : IsFeasible (program_of query rows) y). certified_is_best halves_cover closed_holds_none (program_of query rows) nodes x y legal is certifies feasible) in
    record {
      meets = point_meets query rows x means is;
      none_better = λ (other : List (ℕ × ℕ)) (meets : Meets (asks query) rows other). let most_is = above other meets in omega (arith, ints, most_is, cost);
    }

-- if a tree certifies that no point is feasible, no package meets the query
none_meets : (query : BoundQuery) (rows : Rows) (nodes : List TreeNode) → Means query rows → IsLegal (program_of query rows) → IsCertificate (program_of query rows) nodes None → Empty (asks query) rows
none_meets query rows nodes means legal certificate = λ (pairs : List (ℕ × ℕ)) (meets : Meets (asks query) rows pairs).
    let found = means.covers pairs meets in
    let same : pairs_of query rows found.0 ≡ pairs = found.1.same in
    let met : Meets (asks query) rows (pairs_of query rows found.0) = rw same meets in
    certified_is_empty halves_cover closed_holds_none (program_of query rows) nodes found.0 legal certificate ((means.meets found.0 found.1.within).1 met)

-- what a tree that isn't done leaves possible bounds every package
none_left : (query : BoundQuery) (rows : Rows) (value : Option ℤ) (bound : ℤ) (nodes : List TreeNode) → Means query rows → IsLegal (program_of query rows)
    → IsPartialCertificate query.budget (program_of query rows) nodes value → bound ≡ most_left (program_of query rows) nodes value
    → (pairs : List (ℕ × ℕ)) → Meets (asks query) rows pairs → worth (asks query) rows pairs ≤ℤ bound
none_left query rows value bound nodes means legal partly is = none_above query rows bound means
    (λ (y : List ℕ) (feasible : IsFeasible (program_of query rows) y). rw is
    (partial_bounds halves_cover closed_holds_none weak_duality (program_of query rows) nodes query.budget value y legal partly feasible))

-- the reply with a best package
pub optimal_answer : (query : BoundQuery) (rows : Rows) (x : List ℕ) (most : ℤ) (version : ℕ) (reply : ReplyData) (kept : Kept) → Means query rows → IsLegal (program_of query rows)
    → IsFeasible (program_of query rows) x → cost_at (program_of query rows) x ≡ most → IsProven query.budget (program_of query rows) kept.tree (Some most)
    → KeepsClaim query rows (Optimal most) (pairs_of query rows x) kept → reply ≡ answers.optimal (shown query.goal most) (pairs_of query rows x) version → AnswersQuery query rows version reply kept
optimal_answer query rows x most version reply kept means legal is comes proven keeps told =
    let pairs = pairs_of query rows x in
    let value : most ≡ worth_of query rows pairs = sym comes ∙ point_worth query rows x means is in
    optimal (record {
      pairs = pairs;
      best = best_package query rows x most kept.tree means legal is comes proven.certificate;
      proof = record {
        keeps = subst (λ (z : ℤ). KeepsClaim query rows (Optimal z) pairs kept) value keeps;
        certificate = subst (λ (z : ℤ). IsCertificate (program_of query rows) kept.tree (Some z)) value proven.certificate;
        few = proven.few;
        legal = proven.mults;
      };
      shown = told ∙ ap (λ (z : ℤ). answers.optimal (shown query.goal z) pairs version) value;
    })

-- the reply if no package meets the query
pub infeasible_answer : (query : BoundQuery) (rows : Rows) (version : ℕ) (reply : ReplyData) (kept : Kept) → Means query rows → IsLegal (program_of query rows)
    → IsProven query.budget (program_of query rows) kept.tree None → KeepsClaim query rows Infeasible [] kept → reply ≡ answers.infeasible version → AnswersQuery query rows version reply kept
infeasible_answer query rows version reply kept means legal proven keeps told = infeasible (record {
  empty = none_meets query rows kept.tree means legal proven.certificate;
  proof = record { keeps = keeps; certificate = proven.certificate; few = proven.few; legal = proven.mults };
  shown = told;
})

-- the ids of the program's variables
abbrev pub ids : BoundQuery → Rows → List ℕ
ids query rows = ids_of (candidates (asks query) rows)

-- the reply of a search that its budget cut off
undecided_is : (query : BoundQuery) (rows : Rows) (best : Option Found) (bound : ℤ) (version : ℕ) (reply : ReplyData) (kept : Kept) → Means query rows → IsLegal (program_of query rows)
    → IsUndecided query.budget (program_of query rows) best bound kept.tree → KeepsClaim query rows (Undecided (value_in best)) (pairs_in (ids query rows) best) kept
    → reply ≡ shows query (ids query rows) bound best version → IsUndecidedAnswer query rows version reply kept
undecided_is query rows None bound version reply kept means legal is keeps told = record {
  found = None;
  bound = bound;
  meets = tt;
  keeps = keeps;
  partly = is.partly;
  legal = is.mults;
  bound_is = is.bound_is;
  none_above = none_left query rows None bound kept.tree means legal is.partly is.bound_is;
  shown = told;
}
undecided_is query rows (Some found) bound version reply kept means legal is keeps told =
    let pairs = pairs_of query rows found.1 in
    let value : found.0 ≡ worth_of query rows pairs = sym is.found.1 ∙ point_worth query rows found.1 means is.found.0 in
    record {
      found = Some pairs;
      bound = bound;
      meets = point_meets query rows found.1 means is.found.0;
      keeps = subst (λ (z : ℤ). KeepsClaim query rows (Undecided (Some z)) pairs kept) value keeps;
      partly = subst (λ (z : ℤ). IsPartialCertificate query.budget (program_of query rows) kept.tree (Some z)) value is.partly;
      legal = is.mults;
      bound_is = is.bound_is ∙ ap (λ (z : ℤ). most_left (program_of query rows) kept.tree (Some z)) value;
      none_above = none_left query rows (Some found.0) bound kept.tree means legal is.partly is.bound_is;
      shown = told ∙ ap (λ (z : ℤ). answers.undecided_best (shown_pair query.goal bound z) query.budget pairs version) value;
    }

pub undecided_answer : (query : BoundQuery) (rows : Rows) (best : Option Found) (bound : ℤ) (version : ℕ) (reply : ReplyData) (kept : Kept) → Means query rows → IsLegal (program_of query rows)
    → IsUndecided query.budget (program_of query rows) best bound kept.tree → KeepsClaim query rows (Undecided (value_in best)) (pairs_in (ids query rows) best) kept
    → reply ≡ shows query (ids query rows) bound best version → AnswersQuery query rows version reply kept
undecided_answer query rows best bound version reply kept means legal is keeps told =
    undecided (undecided_is query rows best bound version reply kept means legal is keeps told)

-- the point that was found, if one was, is within the uppers
pub found_counted : (p : ProblemData) (best : Option Found) → IsFound p best → IsCounted p best
found_counted p None is = tt
found_counted p (Some found) is = point_within p found.1 is.0

-- what is told answers the query if the reply does, whatever else is kept beside these things
pub told_answers : (query : BoundQuery) (rows : Rows) (version : ℕ) (result : Result Answered AllocError) (reply : ReplyData) (said : Claim) (pairs : List (ℕ × ℕ)) (tree : List TreeNode)
    → HasProgram query rows → ((kept : Kept) → KeepsClaim query rows said pairs kept → kept.tree ≡ tree → AnswersQuery query rows version reply kept)
    → IfOk result (λ answered. IsTold reply (program_of query rows) said pairs tree answered) → IfOk result (λ answered. Answers query rows version answered)
told_answers query rows version (Ok (Reply other kept)) reply said pairs tree has each told = (
  has,
  subst (λ (r : ReplyData). AnswersQuery query rows version r kept) (sym told.0)
      (each kept (record { problem = told.1; claim = told.2; pairs = told.3 }) told.4),
)
told_answers query rows version (Ok (Refused fault)) reply said pairs tree has each told = absurd told
told_answers query rows version (Err error) reply said pairs tree has each told = tt
