-- What is answered to a query over the tables of a version, and why it is refused.
use Rattle.std.specs.Prelude.{◌≡◌, ℕ, List, [], None, unwrap_or}
use Rattle.paql_ast.specs.declared.queries.Query.{Query}
use Rattle.paql_bind.specs.Faults.{IsFirst}
use Rattle.paql_bind.specs.Queries.{query_faults, bound_query_of, parts_of}
use Rattle.paql_bind.specs.declared.faults.Refusal.{Refusal as Fault}
use Rattle.bound_query.specs.declared.queries.BoundQuery.{BoundQuery}
use Rattle.snapshots.specs.States.{schemas_of, rows_named}
use Rattle.snapshots.specs.declared.tables.Table.{Table}
use Rattle.query_answer.specs.Answers.{Rows, HasProgram, AnswersQuery, FormRefuses}
use Rattle.query_answer.specs.declared.kept.Kept.{Kept}
use Rattle.session_proto.specs.Refusals.{Refusal}
use Rattle.session_proto.specs.Replies.{ReplyData}
use Rattle.paql_engine.specs.Refused.{binding_cause}

-- the rows of the table that a query names
abbrev pub rows_asked : List Table → Query → Rows
rows_asked tables query = unwrap_or (rows_named query.table tables) []

abbrev pub faults_of : List Table → Query → List Fault
faults_of tables query = query_faults (schemas_of tables) query

-- this is what the query is bound to
abbrev pub IsBoundTo : List Table → Query → BoundQuery → Type 0
IsBoundTo tables query bound = parts_of bound ≡ bound_query_of (schemas_of tables) query

-- the query has no fault, this reply answers it on the tables of the version, and this is kept
pub record Solves (tables : List Table) (version : ℕ) (query : Query) (reply : ReplyData)
    (kept : Kept) : Type 0 where
  pub good : faults_of tables query ≡ []
  pub bound : BoundQuery
  pub binds : IsBoundTo tables query bound
  pub has : HasProgram bound (rows_asked tables query)
  pub answers : AnswersQuery bound (rows_asked tables query) version reply kept

-- why a query is refused: the first fault of its names and numbers, or else why it has no program
pub data RefusesQuery (tables : List Table) (query : Query) : Refusal → Type 0 where
  binding : (fault : Fault) → IsFirst (faults_of tables query) fault
      → RefusesQuery tables query (binding_cause None fault)
  form : (bound : BoundQuery) (cause : Refusal) → faults_of tables query ≡ []
      → IsBoundTo tables query bound → FormRefuses bound (rows_asked tables query) cause
      → RefusesQuery tables query cause
