-- The schema is that of the table of the query.
use Rattle.std.proofs.Common.{◌≡◌, ℕ, List, [], Option, subst, ap, ◌∙◌}
use Rattle.std.specs.Prelude.{IfOk, unwrap_or}
use Rattle.schema_types.specs.declared.Column.{Column}
use Rattle.table_schema.specs.Named.{schema_of}
use Rattle.bound_query.specs.declared.queries.BoundQuery.{BoundQuery}
use Rattle.paql_bind.specs.Queries.{bound_over, parts_of}
use Rattle.paql_bind.proofs.queries.bind.Goals as goal

pub returns-in-Some-clause-bound : goal.returns-in-Some-clause-bound
returns-in-Some-clause-bound c =
    let query = c.args.query.now in
    let found = c.in-Some.ensures ∙ ap (λ (name : List ℕ). schema_of name c.args.schemas.now) c.as_slice.ensures in
    subst (λ (of : Option (List Column)). IfOk c.bind_over.result (λ (bound : BoundQuery). parts_of bound ≡ bound_over (unwrap_or of []) query)) found c.bind_over.ensures.bound
