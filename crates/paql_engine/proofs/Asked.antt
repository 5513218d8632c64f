-- The rows that a query is asked of fit it, and what is found of it.
use Rattle.std.proofs.Common.{◌≡◌, ℕ, List, [], ◌∷◌, Option, Some, None, refl, sym, ap, ◌∙◌, subst, Bool, true, false}
use Rattle.std.specs.Prelude.{unwrap_or, if◌then◌else◌}
use Rattle.std.specs.Option.{option_map}
use Rattle.std.specs.List.{AllByRecursion}
use Rattle.std.specs.Str.{bytes_eq}
use Rattle.bound_query.specs.Asks.{IsAskedOf, AreAskedOf}
use Rattle.bound_query.specs.declared.queries.BoundQuery.{BoundQuery}
use Rattle.paql_ast.specs.declared.queries.Query.{Query}
use Rattle.paql_bind.specs.Faults.{IsFirst}
use Rattle.paql_bind.specs.declared.faults.Refusal.{Refusal as Fault}
use Rattle.paql_bind.specs.Queries.{query_faults, bound_query_of, parts_of, bound_over, faults_over, table_faults}
use Rattle.paql_bind.proofs.SoundRows.{asked_of}
use Rattle.query_answer.specs.Answers.{Rows, HasProgram, AnswersQuery, FormRefuses}
use Rattle.query_answer.specs.declared.kept.Kept.{Kept}
use Rattle.schema_types.specs.declared.Column.{Column}
use Rattle.table_schema.specs.Named.{schema_of}
use Rattle.table_schema.specs.Rows.{FitsSchema}
use Rattle.table_schema.specs.declared.cells.Cell.{Cell}
use Rattle.version_store.specs.Laws.{AreRows, HaveRows}
use Rattle.snapshots.specs.States.{table_named, schemas_of, rows_of}
use Rattle.snapshots.specs.declared.tables.Table.{Table}
use Rattle.session_proto.specs.Causes.{query_cause}
use Rattle.session_proto.specs.Replies.{ReplyData}
use Rattle.session_proto.specs.declared.refusals.QueryFault.{QueryFault}
use Rattle.session_proto.specs.declared.refusals.Refusal.{Refusal as Told}
use Rattle.session_proto.specs.declared.refusals.Refusal.TheVariants.{Query as OfQuery}
use Rattle.paql_engine.specs.Queries.{Solves, faults_of, IsBoundTo, rows_asked, binding, form}
use Rattle.paql_engine.specs.Refused.{binding_cause}
use Rattle.paql_engine.specs.Showing.{IsToldAs, Finds}
use Rattle.paql_engine.specs.declared.asking.Found.TheVariants.{Refused}

either_is : (table : Table) (name : List ℕ) (tables : List Table)
    → schema_of name (schemas_of tables) ≡ option_map (λ (table : Table). table.columns) (table_named name tables) → (same : Bool)
    → (if same then Some table.columns else schema_of name (schemas_of tables)) ≡ option_map (λ (table : Table). table.columns) (if same then Some table else table_named name tables)
either_is table name tables rest true = refl
either_is table name tables rest false = rest

schema_is : (tables : List Table) (name : List ℕ) → schema_of name (schemas_of tables) ≡ option_map (λ (table : Table). table.columns) (table_named name tables)
schema_is [] name = refl
schema_is (table ∷ tables) name = either_is table name tables (schema_is tables name) (bytes_eq table.name name)

each_asked : (columns : List Column) (query : Query) (bound : BoundQuery) (rows : Rows) → faults_over columns query ≡ [] → parts_of bound ≡ bound_over columns query
    → AllByRecursion (λ (row : ℕ × List Cell). FitsSchema columns row.1) rows → AllByRecursion (λ (row : ℕ × List Cell). IsAskedOf bound row.1) rows
each_asked columns query bound [] none binds fit = tt
each_asked columns query bound (row ∷ rows) none binds fit =
    (asked_of columns query bound row.1 none binds fit.0, each_asked columns query bound rows none binds fit.1)

pub are_asked : (tables : List Table) (query : Query) (bound : BoundQuery) (asked : Rows) → HaveRows tables → faults_of tables query ≡ [] → IsBoundTo tables query bound
    → asked ≡ rows_asked tables query → AreAskedOf bound asked
are_asked tables query bound asked have none binds asked_is = at (table_named query.table tables) refl
  where
    at : (found : Option Table) → table_named query.table tables ≡ found → AreAskedOf bound asked
    at None e =
        let missing : schema_of query.table (schemas_of tables) ≡ None = schema_is tables query.table ∙ ap (option_map (λ (table : Table). table.columns)) e in
        let named : table_faults None query ≡ [] = subst (λ (schema : Option (List Column)). table_faults schema query ≡ []) missing none in
        absurd (cc named)
    at (Some table) e =
        let columns : schema_of query.table (schemas_of tables) ≡ Some table.columns = schema_is tables query.table ∙ ap (option_map (λ (table : Table). table.columns)) e in
        let good : faults_over table.columns query ≡ [] = subst (λ (schema : Option (List Column)). table_faults schema query ≡ []) columns none in
        let bounds : parts_of bound ≡ bound_over table.columns query = subst (λ (schema : Option (List Column)). parts_of bound ≡ bound_over (unwrap_or schema []) query) columns binds in
        let rows : AreRows table.columns (rows_of table) = have query.table table.columns (rows_of table) columns (ap (option_map rows_of) e) in
        let same : asked ≡ rows_of table = asked_is ∙ ap (λ (found : Option Table). unwrap_or (option_map rows_of found) []) e in
        subst (AreAskedOf bound) (sym same) (record {
          ascending = rows.ids;
          few = rows.few;
          each = each_asked table.columns query bound (rows_of table) good bounds rows.fit;
        })

-- ---- what is found

pub solves : (tables : List Table) (query : Query) (bound : BoundQuery) (rows : Rows) (version : ℕ) (reply : ReplyData) (kept : Kept)
    → faults_of tables query ≡ [] → IsBoundTo tables query bound → rows ≡ rows_asked tables query
    → HasProgram bound rows × AnswersQuery bound rows version reply kept → Solves tables version query reply kept
solves tables query bound rows version reply kept good binds rows_are said = record {
  good = good;
  bound = bound;
  binds = binds;
  has = subst (HasProgram bound) rows_are said.0;
  answers = subst (λ (all : Rows). AnswersQuery bound all version reply kept) rows_are said.1;
}

pub form_refused : (tables : List Table) (query : Query) (bound : BoundQuery) (rows : Rows) (version : ℕ) (fault : QueryFault)
    → faults_of tables query ≡ [] → IsBoundTo tables query bound → rows ≡ rows_asked tables query
    → FormRefuses bound rows (query_cause fault) → Finds tables version query (Refused (Some (OfQuery fault)))
form_refused tables query bound rows version fault good binds rows_are why =
    (query_cause fault, form bound (query_cause fault) good binds (subst (λ (all : Rows). FormRefuses bound all (query_cause fault)) rows_are why), refl)

pub bound_to : (tables : List Table) (query : Query) (bound : BoundQuery) (all : List (List ℕ × List Column))
    → all ≡ schemas_of tables → parts_of bound ≡ bound_query_of all query → IsBoundTo tables query bound
bound_to tables query bound all all_is binds = subst (λ (named : List (List ℕ × List Column)). parts_of bound ≡ bound_query_of named query) all_is binds

pub names_refused : (tables : List Table) (query : Query) (version : ℕ) (all : List (List ℕ × List Column)) (fault : Fault) (told : Option Told)
    → all ≡ schemas_of tables → IsFirst (query_faults all query) fault → IsToldAs (binding_cause None fault) told
    → Finds tables version query (Refused told)
names_refused tables query version all fault told all_is first is =
    (binding_cause None fault, binding fault (subst (λ (named : List (List ℕ × List Column)). IsFirst (query_faults named query) fault) all_is first), is)
