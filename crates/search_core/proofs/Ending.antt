-- What a search ends with.
use Rattle.std.proofs.Common.{◌≡◌, ◌≢◌, ℕ, zero, suc, ◌-◌, ◌*◌, ◌<◌, ◌≤◌, List, [], ◌∷◌, length, refl, sym, ap, subst, ◌∙◌, arith, All}
use Rattle.std.specs.Prelude.{ℤ, Option, None, Some, slice_index_or, count_by, if◌then◌else◌}
use Rattle.std.proofs.lemmas.List.{append-nil}
use Rattle.std.proofs.lemmas.List.Sums.{count_by-le-length, sum_by-cons}
use Rattle.std.proofs.lemmas.List.Elements.{All-weaker, All-nil}
use Rattle.lin_bound.specs.Problem.{ProblemData, variables, IsLegal}
use Rattle.lin_bound.specs.Box.{whole_box}
use Rattle.lin_bound.specs.declared.path.Branch.{Branch}
use Rattle.cert_tree.specs.declared.nodes.TreeNode.{TreeNode}
use Rattle.cert_tree.specs.declared.nodes.TreeNode.TheVariants.{Leaf, Split, Open}
use Rattle.cert_tree.specs.declared.records.Record.{Record}
use Rattle.cert_tree.specs.Records.{IsBalanced}
use Rattle.cert_tree.specs.Trees.{IsAssembled}
use Rattle.cert_tree.specs.Partial.{PartlyCertify, is_done, IsPartialCertificate}
use Rattle.cert_tree.specs.Laws.{IsRight, IsPlainlyRight, WasPlainlyRight}
use Rattle.cert_tree.specs.Counts.{points_below}
use Rattle.cert_tree.specs.Multipliers.{ActIsLegal, HasLegalMult}
use Rattle.cert_tree.proofs.Values.{right_of_plainly}
use Rattle.cert_tree.proofs.Multipliers.{assembled_legal}
use Rattle.lin_bound.proofs.Halves.{halves_cover}
use Rattle.cert_tree.proofs.Counts.{nodes_are_few}
use Rattle.cert_tree.proofs.Assembled.{assembled_certifies, assembled_parts, assembled_length, assembled_partly}
use Rattle.search_core.specs.Search.{Found, IsFound, value_in}
use Rattle.search_core.specs.Core.{CoreState, begun}
use Rattle.search_core.specs.Kept.{SeenBelow, IsKept}
use Rattle.search_core.specs.Runs.{going_on}
use Rattle.search_core.specs.Solo.{Reaches, IsAdvanced}
use Rattle.search_core.specs.Solver.{IsProven, IsUndecided, EnoughDecides}
use Rattle.search_core.specs.declared.solved.Solved.TheVariants.{Best, NoneExists, Undecided}
use Rattle.search_core.specs.declared.event.Hand.{Hand}
use Rattle.search_core.proofs.Keeping.{keeps_run}
use Rattle.search_core.proofs.Going.{reaches_then}

-- what a search ended with: its records, its open paths and its best point
pub record Parts (state : CoreState) (records : List Record) (left : List (List Branch)) (best : Option Found) : Type 0 where
  pub records_are : records ≡ state.records
  pub left_is : left ≡ state.left
  pub best_is : best ≡ state.best

right_parts : (p : ProblemData) (state : CoreState) (records : List Record) (left : List (List Branch)) (best : Option Found) → IsKept p state → Parts state records left best → All (λ (done : Record). IsPlainlyRight p (value_in best) None done.path done.act) records
right_parts p state records left best kept parts = rw (parts.records_are, parts.best_is) kept.right

were_parts : (p : ProblemData) (state : CoreState) (records : List Record) (left : List (List Branch)) (best : Option Found) → IsKept p state → Parts state records left best → All (WasPlainlyRight p (value_in best)) records
were_parts p state records left best kept parts =
    All-weaker (λ (done : Record). IsPlainlyRight p (value_in best) None done.path done.act) (WasPlainlyRight p (value_in best)) (λ done right. (None, right)) records (right_parts p state records left best kept parts)

-- the tree's boxes and multipliers are right, whatever is left
pub ends_parts : (p : ProblemData) (state : CoreState) (records : List Record) (left : List (List Branch)) (best : Option Found) (nodes : List TreeNode) → IsKept p state → Parts state records left best → IsAssembled records left nodes → PartlyCertify p (value_in best) (whole_box p ∷ []) nodes
ends_parts p state records left best nodes kept parts assembled =
    assembled_parts p (value_in best) records left nodes assembled (right_parts p state records left best kept parts)

pub ends_legal : (p : ProblemData) (state : CoreState) (records : List Record) (left : List (List Branch)) (nodes : List TreeNode) → IsKept p state → records ≡ state.records → IsAssembled records left nodes → All (HasLegalMult p) nodes
ends_legal p state records left nodes kept same assembled =
    assembled_legal p records left nodes assembled (rw same kept.legal)

-- the best point is feasible, and has its value
pub ends_found : (p : ProblemData) (state : CoreState) (best : Option Found) (found : Found) → IsKept p state → best ≡ state.best → best ≡ Some found → IsFound p (Some found)
ends_found p state best found kept same is = subst (IsFound p) (sym same ∙ is) kept.found

pub ends_proven : (p : ProblemData) (state : CoreState) (records : List Record) (left : List (List Branch)) (best : Option Found) (nodes : List TreeNode) → IsKept p state → state.hands ≡ [] → Parts state records left best → left ≡ [] → IsAssembled records left nodes → IsProven state.budget p nodes (value_in best)
ends_proven p state records left best nodes kept idle parts none assembled =
    let plainly = right_parts p state records left best kept parts in
    let right = All-weaker (λ (done : Record). IsPlainlyRight p (value_in best) None done.path done.act) (λ (done : Record). IsRight p (value_in best) done.path done.act) (λ done is. right_of_plainly p (value_in best) None done.path done.act is) records plainly in
    record {
      mults = ends_legal p state records left nodes kept parts.records_are assembled;
      certificate = assembled_certifies p (value_in best) records nodes (subst (λ (paths : List (List Branch)). IsAssembled records paths nodes) none assembled) right;
      plainly = assembled_parts p (value_in best) records left nodes assembled plainly;
      few = omega (arith, kept.within, assembled_length records left nodes assembled, ap (λ (paths : List (List Branch)). length paths) none, ap (λ (rs : List Record). length rs) parts.records_are);
    }

pub ends_undecided : (p : ProblemData) (state : CoreState) (records : List Record) (left : List (List Branch)) (best : Option Found) (nodes : List TreeNode) → IsKept p state → state.hands ≡ [] → Parts state records left best → left ≢ [] → (state.left ≢ [] → state.budget ≤ begun state) → IsAssembled records left nodes → IsPartialCertificate state.budget p nodes (value_in best)
ends_undecided p state records left best nodes kept idle parts some spent assembled =
    let all = spent (λ none. some (parts.left_is ∙ none)) in
    let done : length records ≡ state.budget = omega (arith, kept.within, all, ap (λ (rs : List Record). length rs) parts.records_are, ap (λ (hs : List Hand). length hs) idle) in
    subst (λ (n : ℕ). IsPartialCertificate n p nodes (value_in best)) done (assembled_partly p (value_in best) records left nodes assembled (were_parts p state records left best kept parts) some)

-- how far a search has gone on
pub record IsGoing (p : ProblemData) (budget : ℕ) (before now : CoreState) : Type 0 where
  pub kept : IsKept p now
  pub idle : now.hands ≡ []
  pub reaches : Reaches p before now
  pub budget_is : now.budget ≡ budget

-- it may begin where what is given is balanced and right
pub may_begin : (p : ProblemData) (budget : ℕ) (records : List Record) (left : List (List Branch)) (best : Option Found) (before : CoreState) → before ≡ going_on budget records left best → length records ≤ budget → IsBalanced records left → IsFound p best → All (λ (done : Record). IsPlainlyRight p (value_in best) None done.path done.act) records → All (λ (done : Record). ActIsLegal p done.act) records → IsGoing p budget before before
may_begin p budget records left best before is few balanced found right legal =
    let here : CoreState = going_on budget records left best in
    let kept : IsKept p here = record {
      balanced = subst (λ (paths : List (List Branch)). IsBalanced records paths) (sym (append-nil left)) balanced;
      found = found;
      right = right;
      legal = legal;
      one_each = λ worker. omega arith;
      seen = All-nil (λ (hand : Hand). SeenBelow (value_in best) hand.seen);
      within = omega (arith, few);
    } in
    subst (λ (s : CoreState). IsGoing p budget s s) (sym is) (record { kept = kept; idle = refl; reaches = ([], refl); budget_is = refl })

-- and goes on by one more node
pub goes_further : (p : ProblemData) (budget : ℕ) (before middle now : CoreState) → IsGoing p budget before middle → IsAdvanced p middle now → IsGoing p budget before now
goes_further p budget before middle now going advanced = record {
  kept = keeps_run p middle now advanced.reaches.0 going.kept advanced.reaches.1;
  idle = advanced.idle;
  reaches = reaches_then p before middle now going.reaches advanced.reaches;
  budget_is = advanced.budget ∙ going.budget_is;
}

abbrev by_done : TreeNode → ℕ
by_done node = if is_done node then 1 else 0

-- an open leaf is a node that is not done
open_undone : (nodes : List TreeNode) (place : ℕ) → place < length nodes → slice_index_or nodes place Open ≡ Open → count_by is_done nodes < length nodes
open_undone [] place within is = absurd (omega (arith, within))
open_undone (node ∷ nodes) zero within is = rw is (omega (arith, count_by-le-length is_done nodes, sum_by-cons by_done Open nodes))
open_undone (Leaf mult ∷ nodes) (suc place) within is = omega (arith, sum_by-cons by_done (Leaf mult) nodes, open_undone nodes place (omega (arith, within)) is)
open_undone (Split var at mult ∷ nodes) (suc place) within is = omega (arith, sum_by-cons by_done (Split var at mult) nodes, open_undone nodes place (omega (arith, within)) is)
open_undone (Open ∷ nodes) (suc place) within is = omega (arith, sum_by-cons by_done Open nodes, open_undone nodes place (omega (arith, within)) is)

undecided_short : (p : ProblemData) (budget : ℕ) (best : Option Found) (bound : ℤ) (nodes : List TreeNode) → IsLegal p → 2 * points_below p.upper (variables p) - 1 ≤ budget → IsUndecided budget p best bound nodes → ⊥
undecided_short p budget best bound nodes legal enough undecided =
    let partly = undecided.partly in
    omega (arith, enough, partly.each, open_undone nodes partly.more.0 partly.more.1 partly.more.2, nodes_are_few halves_cover p (value_in best) nodes legal partly.parts)

pub enough_decides : EnoughDecides
enough_decides p budget (Best value point tree) legal enough solved = tt
enough_decides p budget (NoneExists tree) legal enough solved = tt
enough_decides p budget (Undecided best bound tree) legal enough solved = undecided_short p budget best bound tree legal enough solved
