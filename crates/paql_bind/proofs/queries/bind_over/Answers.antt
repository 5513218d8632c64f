-- The two scopes have the prefixes that the query gives them.
use Rattle.std.proofs.Common.{ℕ, List, subst, ◌∙◌}
use Rattle.paql_bind.specs.Faults.{Refuses}
use Rattle.paql_bind.specs.Names.{scope}
use Rattle.paql_bind.specs.Queries.{checked_faults, package_scope}
use Rattle.paql_bind.proofs.queries.bind_over.Goals as goal

pub returns-clause-refused : goal.returns-clause-refused
returns-clause-refused c =
    let columns = c.args.schema.now in
    let query = c.args.query.now in
    let rows = c.as_slice.ensures ∙ c.relation.ensures in
    subst (λ (prefix : List ℕ). Refuses (checked_faults (scope columns prefix) (package_scope columns query) query) c.bind_in.result) rows
    (subst (λ (prefix : List ℕ). Refuses (checked_faults (scope columns c.as_slice.result.now) (scope columns prefix) query) c.bind_in.result) c.as_slice-2.ensures c.bind_in.ensures.refused)
