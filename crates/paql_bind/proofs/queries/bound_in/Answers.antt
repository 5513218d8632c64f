-- What a bound query keeps is what its parts keep.
use Rattle.std.proofs.Common.{◌≡◌, ℕ, List, Option, subst, ap, sym, ◌∙◌}
use Rattle.std.specs.Prelude.{unwrap_or}
use Rattle.bound_query.specs.Fits.{AreBoundParts, IsRowBound}
use Rattle.bound_query.specs.declared.queries.BoundConjunct.{BoundConjunct}
use Rattle.paql_bind.specs.Constraints.{bound_conjuncts}
use Rattle.paql_bind.specs.Queries.{bound_in}
use Rattle.paql_bind.specs.RowBounds.{row_bound_of}
use Rattle.paql_bind.specs.Scopes.{seen}
use Rattle.paql_bind.proofs.SoundQueries.{sizes_of, copies_of}
use Rattle.paql_bind.proofs.queries.bound_in.Goals as goal

pub invariant_of-result-clause-sizes : goal.invariant_of-result-clause-sizes
invariant_of-result-clause-sizes c =
    let parts = bound_in (seen c.args.rows.now) (seen c.args.copies.now) c.args.query.now in
    let sizes : AreBoundParts parts.filter parts.conjuncts parts.goal = sizes_of parts c.requires.sound in
    let conjuncts : c.in_ok-conjuncts.conjuncts ≡ parts.conjuncts =
    c.in_ok-conjuncts.ensures ∙ ap (bound_conjuncts (seen c.args.copies.now)) c.as_slice-2.ensures in
    rw (c.in_ok-filter.ensures, conjuncts, c.in_ok-goal.ensures) sizes

pub invariant_of-result-clause-copies : goal.invariant_of-result-clause-copies
invariant_of-result-clause-copies c =
    let parts = bound_in (seen c.args.rows.now) (seen c.args.copies.now) c.args.query.now in
    let most : parts.row_bound ≡ c.args.row_bound = ap (λ (bound : Option ℕ). unwrap_or bound 0) c.requires.bound in
    let copies : IsRowBound parts.repeat parts.row_bound parts.conjuncts = copies_of parts c.requires.sound in
    let bounded = subst (λ (bound : ℕ). IsRowBound parts.repeat bound parts.conjuncts) most copies in
    let conjuncts : c.in_ok-conjuncts.conjuncts ≡ parts.conjuncts =
    c.in_ok-conjuncts.ensures ∙ ap (bound_conjuncts (seen c.args.copies.now)) c.as_slice-2.ensures in
    subst (λ (all : List BoundConjunct). IsRowBound parts.repeat c.args.row_bound all) (sym conjuncts) bounded

pub invariant_of-result-clause-some_budget : goal.invariant_of-result-clause-some_budget
invariant_of-result-clause-some_budget c = rw c.budget_of.ensures c.requires.sound.budget
