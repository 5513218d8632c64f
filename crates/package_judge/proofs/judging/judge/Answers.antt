-- Pairs that break nothing are few, and the package of such pairs whose sums hold meets the query.
use Rattle.std.proofs.Common.{◌≡◌, ℕ, List, None, length, map, ap, sym, subst, ◌∙◌, rules, arith}
use Rattle.std.proofs.lemmas.Int.{to_z-of_z}
use Rattle.package_query.specs.Meaning.{Meets}
use Rattle.bound_query.specs.declared.queries.BoundConjunct.{BoundConjunct}
use Rattle.bound_query.specs.Terms.{conjunct_of, goal_of}
use Rattle.bound_query.specs.Asks.{asks}
use Rattle.package_judge.specs.Packages.{IsPackageOf}
use Rattle.package_judge.specs.Verdicts.{first, pairs_break, conjuncts_break, goal_total}
use Rattle.package_judge.proofs.Asked.{conjuncts_fit, goal_fits, few_conjuncts, small-unbroken}
use Rattle.package_judge.proofs.Breaks.{meets_if, no_places}
use Rattle.package_judge.proofs.judging.judge.Goals as goal
use mir.Val.{SFits}
use mir.Syntax.{w128}

pub broken_conjunct-requires-clause-few : goal.broken_conjunct-requires-clause-few
broken_conjunct-requires-clause-few c =
    let query = c.args.query.now in
    omega (arith, few_conjuncts query.conjuncts, query.sizes.few_rows, ap length c.as_slice.ensures)

pub broken_conjunct-requires-clause-fits : goal.broken_conjunct-requires-clause-fits
broken_conjunct-requires-clause-fits c = rw c.as_slice.ensures (conjuncts_fit c.args.query.now c.args.rows.now c.requires)

pub broken_conjunct-requires-clause-small : goal.broken_conjunct-requires-clause-small
broken_conjunct-requires-clause-small c =
    let legal = subst IsPackageOf (sym c.pairs-pairs.ensures.pairs) c.pairs-pairs.ensures.legal in
    small-unbroken c.args.query.now c.args.rows.now c.pairs-pairs.result.now c.requires legal (sym c.broken_pair.ensures ∙ c.in_default.is)

pub goal_total-requires-clause-fits : goal.goal_total-requires-clause-fits
goal_total-requires-clause-fits c = goal_fits c.args.query.now c.args.rows.now c.requires

pub goal_total-requires-clause-small : goal.goal_total-requires-clause-small
goal_total-requires-clause-small c =
    let legal = subst IsPackageOf (sym c.pairs-pairs.ensures.pairs) c.pairs-pairs.ensures.legal in
    small-unbroken c.args.query.now c.args.rows.now c.pairs-pairs.result.now c.requires legal (sym c.broken_pair.ensures ∙ c.in_default.is)

pub returns : goal.returns
returns c =
    let query = c.args.query.now in
    let rows = c.args.rows.now in
    let pairs = c.pairs-pairs.result.now in
    let same = c.pairs-pairs.ensures.pairs in
    let legal : IsPackageOf pairs = subst IsPackageOf (sym same) c.pairs-pairs.ensures.legal in
    let unbroken : first (pairs_break (asks query) rows pairs) ≡ None = sym c.broken_pair.ensures ∙ c.in_default.is in
    let held : first (conjuncts_break rows pairs 1 (map conjunct_of query.conjuncts)) ≡ None =
    ap (λ (conjuncts : List BoundConjunct). first (conjuncts_break rows pairs 1 (map conjunct_of conjuncts))) (sym c.as_slice.ensures)
    ∙ (sym c.broken_conjunct.ensures ∙ c.in_default-broken_conjunct.is) in
    let meets : Meets (asks query) rows pairs =
    meets_if (asks query) rows pairs legal.rises (no_places (pairs_break (asks query) rows pairs) (conjuncts_break rows pairs 1 (map conjunct_of query.conjuncts)) unbroken held) in
    let fits : SFits w128 c.goal_total.result = search rules in (
      subst (λ (ps : List (ℕ × ℕ)). Meets (asks query) rows ps) same meets,
      simp to_z-of_z (c.goal_total.ensures ∙ ap (λ (ps : List (ℕ × ℕ)). goal_total (goal_of query.goal) rows ps) same),
    )
