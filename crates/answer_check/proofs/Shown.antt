-- What a valid certificate shows.
use Rattle.std.proofs.Common.{◌≡◌, ◌↔◌, ℕ, suc, ◌+◌, ◌≤◌, min, List, [], ◌∷◌, add-one, sym, subst, ap, ◌∙◌, arith}
use Rattle.std.proofs.lemmas.Int.{ints}
use Rattle.std.specs.Prelude.{ℤ, ◌≤ℤ◌, Option, None, Some, IfSome}
use Rattle.std.specs.List.{AllByRecursion}
use Rattle.bound_query.specs.Asks.{asks, AreAskedOf}
use Rattle.bound_query.specs.declared.queries.BoundQuery.{BoundQuery}
use Rattle.cert_text.specs.Certs.{HasPairs, RiseFrom}
use Rattle.cert_text.specs.Claims.{claimed}
use Rattle.cert_text.specs.declared.value.Claim.{Claim}
use Rattle.cert_text.specs.declared.value.Claim.TheVariants.{Optimal, Infeasible, Undecided}
use Rattle.cert_tree.proofs.Soundness.{certified_is_best, certified_is_empty}
use Rattle.cert_tree.specs.Certificates.{IsCertificate}
use Rattle.cert_tree.specs.declared.nodes.TreeNode.{TreeNode}
use Rattle.lin_bound.proofs.Duality.{closed_holds_none}
use Rattle.lin_bound.proofs.Halves.{halves_cover}
use Rattle.lin_bound.specs.Problem.{IsFeasible, cost_at}
use Rattle.package_judge.specs.Verdicts.{breaks, MeetsIfNothingBreaks}
use Rattle.package_program.specs.Meaning.{taken}
use Rattle.package_query.specs.Meaning.{Best, Empty, IsAllowed, Meets}
use Rattle.package_query.specs.Package.{RisesFrom}
use Rattle.package_query.specs.Query.{PackageQuery}
use Rattle.answer_check.specs.Laws.{ValidShows}
use Rattle.answer_check.specs.Verdicts.{Rows, HasProgram, HasWorth, IsDecided, IsSo, KeepsQuery, Says, Shows, bad, break_of, held, held_repeat, program_of, read, worth_of}
use Rattle.answer_check.specs.declared.verdict.Verdict.{Verdict}
use Rattle.answer_check.specs.declared.verdict.Verdict.TheVariants.{Valid}
use Rattle.answer_check.proofs.Cuts.{first-none}
use Rattle.answer_check.proofs.Programs.{Means, legal_program, means_of}

-- ---- the package meets the query

pub rises_of : (low : ℕ) (pairs : List (ℕ × ℕ)) → RiseFrom low pairs → RisesFrom low pairs
rises_of low [] rise = tt
rises_of low (pair ∷ pairs) rise = (rise.0, rise.2, rises_of (suc pair.0) pairs (rw add-one at rise.4))

-- what is allowed as often as the query held to a million allows it, the query allows
allowed_unheld : {R : Type 0} (query : PackageQuery R) (rows : List (ℕ × R)) (pairs : List (ℕ × ℕ)) → AllByRecursion (IsAllowed (held query) rows) pairs → AllByRecursion (IsAllowed query rows) pairs
allowed_unheld query rows [] each = tt
allowed_unheld query rows (pair ∷ pairs) each =
    (record { row = each.0.row; found = each.0.found; passes = each.0.passes; copies = by_repeat query.repeat each.0.copies }, allowed_unheld query rows pairs each.1)
  where
    by_repeat : (repeat : Option ℕ) → pair.1 ≤ held_repeat repeat + 1 → IfSome repeat (λ (k : ℕ). pair.1 ≤ k + 1)
    by_repeat None copies = tt
    by_repeat (Some k) copies = omega (arith, copies)

meets_unheld : {R : Type 0} (query : PackageQuery R) (rows : List (ℕ × R)) (pairs : List (ℕ × ℕ)) → Meets (held query) rows pairs → Meets query rows pairs
meets_unheld query rows pairs is = record { rises = is.rises; each = allowed_unheld query rows pairs is.each; conjuncts = is.conjuncts }

unbroken_meets : MeetsIfNothingBreaks → (query : BoundQuery) (rows : Rows) (pairs : List (ℕ × ℕ)) → RiseFrom 0 pairs → break_of query rows pairs ≡ None → Meets (asks query) rows pairs
unbroken_meets law query rows pairs rise none =
    meets_unheld (asks query) rows pairs
    ((law (held (asks query)) rows pairs (rises_of 0 pairs rise)).0 (first-none (breaks (held (asks query)) rows pairs) none))

-- ---- what is claimed is so

-- the point of a package is feasible, and costs what the package is worth
abbrev PointOf : BoundQuery → Rows → List (ℕ × ℕ) → List ℕ → Type 0
PointOf query rows pairs x = IsFeasible (program_of query rows) x × (cost_at (program_of query rows) x ≡ worth_of query rows pairs)

best_package : (query : BoundQuery) (rows : Rows) (pairs : List (ℕ × ℕ)) (nodes : List TreeNode) → Means query rows → HasProgram query rows → Meets (asks query) rows pairs
    → IsCertificate (program_of query rows) nodes (Some (worth_of query rows pairs)) → Best (asks query) rows pairs
best_package query rows pairs nodes means has meets certificate = record { meets = meets; none_better = none_better }
  where
    point_of : (other : List (ℕ × ℕ)) → Meets (asks query) rows other → (x : List ℕ) × PointOf query rows other x
    point_of other met =
        let found = means.covers other met in
        let same : taken (asks query) rows found.0 ≡ other = found.1.same in
        let there : Meets (asks query) rows (taken (asks query) rows found.0) = rw same met in
        (found.0, ((means.meets found.0 found.1.within).1 there, means.worth found.0 found.1.within ∙ ap (worth_of query rows) same))

    none_better : (other : List (ℕ × ℕ)) → Meets (asks query) rows other → worth_of query rows other ≤ℤ worth_of query rows pairs
    none_better other met =
        let best = point_of pairs meets in
        let beside = point_of other met in
        let certifies = subst (λ (z : ℤ). IsCertificate (program_of query rows) nodes (Some z)) (sym best.1.1) certificate in
        let least = certified_is_best halves_cover closed_holds_none (program_of query rows) nodes best.0 beside.0 (legal_program query rows has) best.1.0 certifies beside.1.0 in
        omega (arith, ints, least, best.1.1, beside.1.1)

none_meets : (query : BoundQuery) (rows : Rows) (nodes : List TreeNode) → Means query rows → HasProgram query rows → IsCertificate (program_of query rows) nodes None → Empty (asks query) rows
none_meets query rows nodes means has certificate = λ (pairs : List (ℕ × ℕ)) (meets : Meets (asks query) rows pairs).
    let found = means.covers pairs meets in
    let same : taken (asks query) rows found.0 ≡ pairs = found.1.same in
    let met : Meets (asks query) rows (taken (asks query) rows found.0) = rw same meets in
    certified_is_empty halves_cover closed_holds_none (program_of query rows) nodes found.0 (legal_program query rows has) certificate ((means.meets found.0 found.1.within).1 met)

so_of : MeetsIfNothingBreaks → (query : BoundQuery) (rows : Rows) (pairs : List (ℕ × ℕ)) (nodes : List TreeNode) (claim : Claim) → AreAskedOf query rows → HasProgram query rows → HasPairs claim pairs
    → KeepsQuery query rows pairs (claimed claim) → HasWorth query rows pairs (claimed claim) → IsDecided claim → IsCertificate (program_of query rows) nodes (claimed claim) → IsSo query rows pairs claim
so_of law query rows pairs nodes (Optimal value) asked has rise keeps worth decided certificate =
    let certifies = subst (λ (z : ℤ). IsCertificate (program_of query rows) nodes (Some z)) worth certificate in
    (best_package query rows pairs nodes (means_of query rows asked has) has (unbroken_meets law query rows pairs rise keeps) certifies, worth)
so_of law query rows pairs nodes Infeasible asked has rise keeps worth decided certificate =
    none_meets query rows nodes (means_of query rows asked has) has certificate
so_of law query rows pairs nodes (Undecided value) asked has rise keeps worth decided certificate = absurd decided

pub valid_shows : MeetsIfNothingBreaks → ValidShows
valid_shows law query rows text asked has (read cert verdict is says) =
    (cert, is, so_of law query rows cert.pairs cert.nodes cert.claim asked has is.0.pairs says.0.keeps says.0.worth says.1 says.2)

-- and so does a verdict that is valid
pub shows_if : ValidShows → (query : BoundQuery) (rows : Rows) (text : List ℕ) (verdict : Verdict) → AreAskedOf query rows → HasProgram query rows → Says query rows text verdict → verdict ≡ Valid → Shows query rows text
shows_if law query rows text verdict asked has said is = law query rows text asked has (subst (Says query rows text) is said)
