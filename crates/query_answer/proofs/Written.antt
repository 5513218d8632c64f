-- What is kept of an answer can be written: no number of it is too large.
use Rattle.std.proofs.Common.{◌≡◌, ℕ, zero, suc, ◌+◌, ◌^◌, ◌<◌, ◌≤◌, List, [], ◌∷◌, length, Bool, true, false, add-one, refl, sym, ap, ◌∙◌, subst, arith}
use Rattle.std.proofs.lemmas.List.Elements.{recursion_from_All}
use Rattle.std.specs.Prelude.{All, ℤ, Option, None, Some, IfSome, unwrap_or, if◌then◌else◌, unsigned_abs}
use Rattle.std.specs.List.{AllByRecursion}
use Rattle.cert_text.specs.Certs.{IsNode, RiseFrom}
use Rattle.cert_text.specs.Certs as texts
use Rattle.cert_text.specs.declared.value.Claim.{Claim}
use Rattle.cert_text.specs.declared.value.Claim.TheVariants.{Optimal, Infeasible, Undecided}
use Rattle.cert_tree.proofs.Soundness.{AllRegions, half_regions, whole_region}
use Rattle.cert_tree.specs.Certificates.{Certify, IsCertificate}
use Rattle.cert_tree.specs.Multipliers.{HasLegalMult}
use Rattle.cert_tree.specs.Partial.{PartlyCertify}
use Rattle.cert_tree.specs.Trees.{IsWhole}
use Rattle.cert_tree.specs.declared.nodes.TreeNode.{TreeNode}
use Rattle.cert_tree.specs.declared.nodes.TreeNode.TheVariants.{Leaf, Split, Open}
use Rattle.lin_bound.proofs.Halves.{halves_cover}
use Rattle.lin_bound.proofs.Sizes.{value_small}
use Rattle.lin_bound.specs.Bound.{IsMult}
use Rattle.lin_bound.specs.Box.{whole_box, half, lower, upper}
use Rattle.lin_bound.specs.Laws.{HalvesCover}
use Rattle.lin_bound.specs.Problem.{ProblemData, variables, row_count, cost_at, IsLegal, IsWithin}
use Rattle.lin_bound.specs.Sums.{nat_at}
use Rattle.lin_bound.specs.declared.mult.Mult.{Mult}
use Rattle.lin_bound.specs.declared.region.Region.{Region}
use Rattle.bound_query.specs.Asks.{asks, AreAskedOf}
use Rattle.bound_query.specs.declared.queries.BoundQuery.{BoundQuery}
use Rattle.package_query.specs.Meaning.{Meets}
use Rattle.package_query.specs.Query.{PackageQuery}
use Rattle.package_program.specs.Linear as linear
use Rattle.package_program.specs.Points.{package_at}
use Rattle.package_program.specs.Program.{candidates, ids_of}
use Rattle.package_program.proofs.Candidates.{candidates_ascend}
use Rattle.package_program.proofs.Legal.{program_legal, program_linear}
use Rattle.query_answer.specs.Answers.{Rows, HasProgram, KeepsClaim, optimal, infeasible, undecided, program_of, worth_of, worth_in}
use Rattle.query_answer.specs.Kept.{IsWritten, AreNumbered}
use Rattle.query_answer.specs.Laws.{AnswersAreWritten}
use Rattle.query_answer.specs.declared.kept.Kept.{Kept}
use Rattle.query_answer.proofs.Solved.{means_of}

-- ---- nodes

all_at_most : (most : ℕ) (xs : List ℕ) → ((j : ℕ) → j < length xs → nat_at xs j ≤ most) → AllByRecursion (λ (x : ℕ). x ≤ most) xs
all_at_most most [] each = tt
all_at_most most (x ∷ xs) each = (each 0 (omega arith), all_at_most most xs (λ j h. each (suc j) (omega (arith, h))))

mult_fits : (p : ProblemData) (mult : Mult) → IsMult p mult → texts.IsMult (row_count p) mult
mult_fits p mult is = record {
  each = is.each;
  cost = is.cost;
  small = all_at_most (2 ^ 30) mult.lambda (λ j h. is.small j (omega (arith, h, is.each)));
}

-- the nodes fit a text, and are as many whole trees as there are boxes
abbrev Fit : ProblemData → List Region → List TreeNode → Type 0
Fit p boxes nodes = AllByRecursion (IsNode (row_count p)) nodes × IsWhole (length boxes) nodes

partly_fit : HalvesCover → (p : ProblemData) (best : Option ℤ) (boxes : List Region) (nodes : List TreeNode) → IsLegal p → AllRegions p boxes → PartlyCertify p best boxes nodes → AllByRecursion (HasLegalMult p) nodes → Fit p boxes nodes
partly_fit cover p best [] [] legal regions parts mults = (tt, tt)
partly_fit cover p best [] (node ∷ nodes) legal regions parts mults = absurd parts
partly_fit cover p best (box ∷ boxes) [] legal regions parts mults = absurd parts
partly_fit cover p best (box ∷ boxes) (Leaf mult ∷ nodes) legal regions parts mults =
    let rest = partly_fit cover p best boxes nodes legal regions.1 parts.1 mults.1 in
    ((mult_fits p mult mults.0, rest.0), rest.1)
partly_fit cover p best (box ∷ boxes) (Split var at mult ∷ nodes) legal regions parts mults =
    let rest = partly_fit cover p best (half (lower var at) box ∷ (half (upper var at) box ∷ boxes)) nodes legal (half_regions cover p box boxes var at parts.0 regions) parts.2 mults.1 in
    let within : var < variables p = omega (arith, parts.0.var, regions.0.low_each) in
    let number : var + 1 < 2 ^ 32 = omega (arith, within, legal.few_variables) in
    let place : at ≤ 10 ^ 12 = omega (arith, parts.0.high, regions.0.within var within, legal.upper_small var within) in
    (((number, place, mult_fits p mult mults.0), rest.0), rest.1)
partly_fit cover p best (box ∷ boxes) (Open ∷ nodes) legal regions parts mults =
    let rest = partly_fit cover p best boxes nodes legal regions.1 parts mults.1 in
    ((tt, rest.0), rest.1)

certified_fit : HalvesCover → (p : ProblemData) (best : Option ℤ) (boxes : List Region) (nodes : List TreeNode) → IsLegal p → AllRegions p boxes → Certify p best boxes nodes → AllByRecursion (HasLegalMult p) nodes → Fit p boxes nodes
certified_fit cover p best [] [] legal regions parts mults = (tt, tt)
certified_fit cover p best [] (node ∷ nodes) legal regions parts mults = absurd parts
certified_fit cover p best (box ∷ boxes) [] legal regions parts mults = absurd parts
certified_fit cover p best (box ∷ boxes) (Leaf mult ∷ nodes) legal regions parts mults =
    let rest = certified_fit cover p best boxes nodes legal regions.1 parts.1 mults.1 in
    ((mult_fits p mult mults.0, rest.0), rest.1)
certified_fit cover p best (box ∷ boxes) (Split var at mult ∷ nodes) legal regions parts mults =
    let rest = certified_fit cover p best (half (lower var at) box ∷ (half (upper var at) box ∷ boxes)) nodes legal (half_regions cover p box boxes var at parts.0 regions) parts.1 mults.1 in
    let within : var < variables p = omega (arith, parts.0.var, regions.0.low_each) in
    let number : var + 1 < 2 ^ 32 = omega (arith, within, legal.few_variables) in
    let place : at ≤ 10 ^ 12 = omega (arith, parts.0.high, regions.0.within var within, legal.upper_small var within) in
    (((number, place, mult_fits p mult mults.0), rest.0), rest.1)
certified_fit cover p best (box ∷ boxes) (Open ∷ nodes) legal regions parts mults = absurd parts

partial_fits : (p : ProblemData) (best : Option ℤ) (nodes : List TreeNode) → IsLegal p → PartlyCertify p best (whole_box p ∷ []) nodes → All (HasLegalMult p) nodes → Fit p (whole_box p ∷ []) nodes
partial_fits p best nodes legal parts mults =
    partly_fit halves_cover p best (whole_box p ∷ []) nodes legal (whole_region p legal, tt) parts (recursion_from_All (HasLegalMult p) nodes mults)

certificate_fits : (p : ProblemData) (best : Option ℤ) (nodes : List TreeNode) → IsLegal p → IsCertificate p nodes best → All (HasLegalMult p) nodes → Fit p (whole_box p ∷ []) nodes
certificate_fits p best nodes legal parts mults =
    certified_fit halves_cover p best (whole_box p ∷ []) nodes legal (whole_region p legal, tt) parts (recursion_from_All (HasLegalMult p) nodes mults)

-- ---- pairs

rise_from : (low next : ℕ) (pairs : List (ℕ × ℕ)) → low ≤ next → RiseFrom next pairs → RiseFrom low pairs
rise_from low next [] h rise = tt
rise_from low next (pair ∷ pairs) h rise = (omega (arith, h, rise.0), rise.1, rise.2, rise.3, rise.4)

pairs_rise : (ids counts : List ℕ) (low : ℕ) → linear.RiseFrom low ids → AllByRecursion (λ (id : ℕ). id ≤ 10 ^ 12) ids → AllByRecursion (λ (count : ℕ). count ≤ 10 ^ 12) counts → RiseFrom low (package_at ids counts)
pairs_rise [] counts low rise small few = tt
pairs_rise (id ∷ ids) [] low rise small few = tt
pairs_rise (id ∷ ids) (zero ∷ counts) low rise small few =
    rise_from low (suc id) (package_at ids counts) (omega (arith, rise.0)) (pairs_rise ids counts (suc id) rise.1 small.1 few.1)
pairs_rise (id ∷ ids) (suc n ∷ counts) low rise small few =
    (rise.0, small.0, omega arith, few.0, rw add-one (pairs_rise ids counts (suc id) rise.1 small.1 few.1))

-- the ids of the rows that pass are ids of rows
small_ids : {R : Type 0} (query : PackageQuery R) (rows : List (ℕ × R)) → AllByRecursion (λ (entry : ℕ × R). entry.0 ≤ 10 ^ 12) rows → AllByRecursion (λ (id : ℕ). id ≤ 10 ^ 12) (ids_of (candidates query rows))
small_ids query [] all = tt
small_ids {R} query (entry ∷ rows) all =
    elim (query.passes entry.1) as (λ (passes : Bool). AllByRecursion (λ (id : ℕ). id ≤ 10 ^ 12) (ids_of (if passes then entry ∷ candidates query rows else candidates query rows))) [
      | true ↦ (all.0, small_ids query rows all.1)
      | false ↦ small_ids query rows all.1
    ]

-- ---- what is kept

program_legal_of : (query : BoundQuery) (rows : Rows) → HasProgram query rows → IsLegal (program_of query rows)
program_legal_of query rows has = program_legal query (candidates (asks query) rows) has.few has.small

counts_small : (p : ProblemData) (x : List ℕ) → IsLegal p → IsWithin p x → AllByRecursion (λ (count : ℕ). count ≤ 10 ^ 12) x
counts_small p x legal is = all_at_most (10 ^ 12) x (λ i h.
    let inside : i < variables p = omega (arith, h, is.each) in
    omega (arith, is.within i inside, legal.upper_small i inside))

-- a package that meets the query is that of a point, whose cost is what it is worth
pairs_written : (query : BoundQuery) (rows : Rows) (pairs : List (ℕ × ℕ)) → AreAskedOf query rows → AreNumbered rows → HasProgram query rows → Meets (asks query) rows pairs → RiseFrom 0 pairs
pairs_written query rows pairs asked numbered has meets =
    let found = candidates (asks query) rows in
    let point = (means_of query rows asked has).covers pairs meets in
    subst (RiseFrom 0) point.1.same
    (pairs_rise (ids_of found) point.0 0 (program_linear query found (candidates_ascend (asks query) 0 rows asked.ascending)).ascending
    (small_ids (asks query) rows numbered) (counts_small (program_of query rows) point.0 (program_legal_of query rows has) point.1.within))

worth_written : (query : BoundQuery) (rows : Rows) (pairs : List (ℕ × ℕ)) → AreAskedOf query rows → HasProgram query rows → Meets (asks query) rows pairs → unsigned_abs (worth_of query rows pairs) ≤ 2 ^ 60
worth_written query rows pairs asked has meets =
    let p = program_of query rows in
    let means = means_of query rows asked has in
    let point = means.covers pairs meets in
    let within : IsWithin p point.0 = point.1.within in
    let legal = program_legal_of query rows has in
    let size : unsigned_abs (cost_at p point.0) ≤ 2 ^ 60 = omega (arith, value_small p.upper point.0 p.cost (variables p) within.within, legal.cost_load) in
    let costs : cost_at p point.0 ≡ worth_of query rows pairs = means.worth point.0 within ∙ ap (worth_of query rows) point.1.same in
    subst (λ (z : ℤ). unsigned_abs z ≤ 2 ^ 60) costs size

-- what is kept beside the tree is what is written of the program
as_kept : (query : BoundQuery) (rows : Rows) (said : Claim) (told : List (ℕ × ℕ)) (kept : Kept) → KeepsClaim query rows said told kept → IsWritten (program_of query rows) said told kept.tree → IsWritten kept.problem kept.claim kept.pairs kept.tree
as_kept query rows said told kept keeps written =
    subst (λ (p : ProblemData). IsWritten p kept.claim kept.pairs kept.tree) (sym keeps.problem)
    (subst (λ (claim : Claim). IsWritten (program_of query rows) claim kept.pairs kept.tree) (sym keeps.claim)
    (subst (λ (pairs : List (ℕ × ℕ)). IsWritten (program_of query rows) said pairs kept.tree) (sym keeps.pairs) written))

open_written : (query : BoundQuery) (rows : Rows) (found : Option (List (ℕ × ℕ))) (nodes : List TreeNode) → AreAskedOf query rows → AreNumbered rows → HasProgram query rows
    → IfSome found (λ (pairs : List (ℕ × ℕ)). Meets (asks query) rows pairs) → Fit (program_of query rows) (whole_box (program_of query rows) ∷ []) nodes
    → IsWritten (program_of query rows) (Undecided (worth_in query rows found)) (unwrap_or found []) nodes
open_written query rows None nodes asked numbered has meets fit =
    let legal = program_legal_of query rows has in
    record { vars = legal.few_variables; rows = legal.few_rows; claim = tt; pairs = refl; nodes = fit.0; whole = fit.1 }
open_written query rows (Some pairs) nodes asked numbered has meets fit =
    let legal = program_legal_of query rows has in
    record {
      vars = legal.few_variables;
      rows = legal.few_rows;
      claim = worth_written query rows pairs asked has meets;
      pairs = pairs_written query rows pairs asked numbered has meets;
      nodes = fit.0;
      whole = fit.1;
    }

pub answers_are_written : AnswersAreWritten
answers_are_written query rows version reply kept asked numbered has (optimal is) =
    let p = program_of query rows in
    let legal = program_legal_of query rows has in
    let fit = certificate_fits p (Some (worth_of query rows is.pairs)) kept.tree legal is.proof.certificate is.proof.legal in
    as_kept query rows (Optimal (worth_of query rows is.pairs)) is.pairs kept is.proof.keeps (record {
      vars = legal.few_variables;
      rows = legal.few_rows;
      claim = worth_written query rows is.pairs asked has is.best.meets;
      pairs = pairs_written query rows is.pairs asked numbered has is.best.meets;
      nodes = fit.0;
      whole = fit.1;
    })
answers_are_written query rows version reply kept asked numbered has (infeasible is) =
    let p = program_of query rows in
    let legal = program_legal_of query rows has in
    let fit = certificate_fits p None kept.tree legal is.proof.certificate is.proof.legal in
    as_kept query rows Infeasible [] kept is.proof.keeps
    (record { vars = legal.few_variables; rows = legal.few_rows; claim = tt; pairs = refl; nodes = fit.0; whole = fit.1 })
answers_are_written query rows version reply kept asked numbered has (undecided is) =
    let p = program_of query rows in
    let fit = partial_fits p (worth_in query rows is.found) kept.tree (program_legal_of query rows has) is.partly.parts is.legal in
    as_kept query rows (Undecided (worth_in query rows is.found)) (unwrap_or is.found []) kept is.keeps
    (open_written query rows is.found kept.tree asked numbered has is.meets fit)
