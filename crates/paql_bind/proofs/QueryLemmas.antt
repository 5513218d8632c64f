-- What it says that a query has no fault.
use Rattle.std.proofs.Common.{◌≡◌, [], ◌++◌}
use Rattle.paql_ast.specs.declared.queries.Query.{Query}
use Rattle.paql_bind.specs.Conditions.{filter_faults}
use Rattle.paql_bind.specs.Constraints.{conjuncts_faults, goal_faults}
use Rattle.paql_bind.specs.Names.{Scope}
use Rattle.paql_bind.specs.Queries.{of_faults, budget_faults, inner_faults, number_of_conjuncts, terms_faults, parts_faults, size_faults, bound_faults, checked_faults}
use Rattle.paql_bind.specs.RowBounds.{row_bound_of}
use Rattle.paql_bind.proofs.FaultLemmas.{nil_of_append}

-- each step has none
pub record HasNoFault (rows copies : Scope) (query : Query) : Type 0 where
  pub budget : budget_faults query.budget ≡ []
  pub filter : filter_faults rows query.filter ≡ []
  pub conjuncts : conjuncts_faults copies query.conjuncts ≡ []
  pub goal : goal_faults copies query.goal ≡ []
  pub number : number_of_conjuncts query.conjuncts ≡ []
  pub terms : terms_faults 1 query.conjuncts ≡ []
  pub parts : parts_faults query.goal ≡ []
  pub bound : bound_faults (row_bound_of query.repeat query.conjuncts) ≡ []

pub has_no_fault : (rows copies : Scope) (query : Query) → checked_faults rows copies query ≡ [] → HasNoFault rows copies query
has_no_fault rows copies query none =
    let last = bound_faults (row_bound_of query.repeat query.conjuncts) in
    let after_of = (nil_of_append (of_faults query) (budget_faults query.budget ++ (inner_faults rows copies query ++ (size_faults query ++ last))) none).1 in
    let after_budget = nil_of_append (budget_faults query.budget) (inner_faults rows copies query ++ (size_faults query ++ last)) after_of in
    let after_inner = nil_of_append (inner_faults rows copies query) (size_faults query ++ last) after_budget.1 in
    let after_size = nil_of_append (size_faults query) last after_inner.1 in
    let after_filter = nil_of_append (filter_faults rows query.filter) (conjuncts_faults copies query.conjuncts ++ goal_faults copies query.goal) after_inner.0 in
    let inner = nil_of_append (conjuncts_faults copies query.conjuncts) (goal_faults copies query.goal) after_filter.1 in
    let after_number = nil_of_append (number_of_conjuncts query.conjuncts) (terms_faults 1 query.conjuncts ++ parts_faults query.goal) after_size.0 in
    let sizes = nil_of_append (terms_faults 1 query.conjuncts) (parts_faults query.goal) after_number.1 in
    record {
      budget = after_budget.0;
      filter = after_filter.0;
      conjuncts = inner.0;
      goal = inner.1;
      number = after_number.0;
      terms = sizes.0;
      parts = sizes.1;
      bound = after_size.1;
    }
