-- Queries: their faults in order, and what they are bound to.
use Rattle.std.specs.Prelude.{ℕ, ◌+◌, ◌-◌, ◌^◌, min, ◌&&◌, if◌then◌else◌, List, [], ◌∷◌, ◌++◌, length, Option, Some, None, unwrap_or}
use Rattle.std.specs.Bool.{nat_lt, nat_le}
use Rattle.std.specs.Str.{bytes_eq}
use Rattle.schema_types.specs.declared.Column.{Column}
use Rattle.table_schema.specs.Named.{schema_of}
use Rattle.paql_ast.specs.declared.queries.Conjunct.{Conjunct}
use Rattle.paql_ast.specs.declared.queries.Conjunct.TheVariants as conjuncts
use Rattle.paql_ast.specs.declared.queries.Goal.{Goal}
use Rattle.paql_ast.specs.declared.queries.Method.{Method}
use Rattle.paql_ast.specs.declared.queries.Method.TheVariants as methods
use Rattle.paql_ast.specs.declared.queries.Query.{Query}
use Rattle.bound_query.specs.declared.conditions.RowPred.{RowPred}
use Rattle.bound_query.specs.declared.queries.BoundConjunct.{BoundConjunct}
use Rattle.bound_query.specs.declared.queries.BoundGoal.{BoundGoal}
use Rattle.bound_query.specs.declared.queries.BoundQuery.{BoundQuery}
use Rattle.paql_bind.specs.Names.{Scope, scope}
use Rattle.paql_bind.specs.Conditions.{filter_faults, bound_filter}
use Rattle.paql_bind.specs.Constraints.{conjuncts_faults, goal_faults, bound_conjuncts, bound_goal}
use Rattle.paql_bind.specs.RowBounds.{row_bound_of}
use Rattle.paql_bind.specs.declared.limits.TheConstants.{MAX_BUDGET, DEFAULT_BUDGET, MAX_CONJUNCTS, MAX_TERMS, MAX_ROW_BOUND}
use Rattle.paql_bind.specs.declared.faults.Refusal.{Refusal}
use Rattle.paql_bind.specs.declared.faults.Refusal.TheVariants.{NoTable, LimitBudget, LimitConjuncts, LimitTerms, Unbounded, LimitRepeat}

-- ---- scopes

-- the name of the rows: the alias, or the table's name if there is none
abbrev pub relation : Query → List ℕ
relation query = unwrap_or query.alias query.table

-- what WHERE can name; and what SUCH THAT and the goal can
abbrev pub row_scope : List Column → Query → Scope
row_scope columns query = scope columns (relation query)

abbrev pub package_scope : List Column → Query → Scope
package_scope columns query = scope columns query.package

-- ---- faults

-- a counted number, held to 64 bits
abbrev pub held : ℕ → ℕ
held number = min number (2 ^ 64 - 1)

abbrev pub of_faults : Query → List Refusal
of_faults query = if bytes_eq query.of (relation query) then [] else NoTable query.of ∷ []

abbrev pub budget_faults : Option ℕ → List Refusal
budget_faults None = []
budget_faults (Some budget) =
    if nat_le 1 budget && nat_le budget MAX_BUDGET then [] else LimitBudget budget ∷ []

abbrev pub number_of_conjuncts : List Conjunct → List Refusal
number_of_conjuncts conjuncts = if nat_lt MAX_CONJUNCTS (length conjuncts)
    then LimitConjuncts (length conjuncts) ∷ [] else []

-- how many terms are written, on both sides
abbrev pub written_terms : Conjunct → ℕ
written_terms (conjuncts.Compare left op right) = length left + length right
written_terms (conjuncts.Between sum low high) = length sum
written_terms (conjuncts.Avg column op limit) = 0
written_terms (conjuncts.AvgBetween column low high) = 0

abbrev pub number_of_terms : ℕ → ℕ → List Refusal
number_of_terms number terms =
    if nat_lt MAX_TERMS terms then LimitTerms number (held terms) ∷ [] else []

-- how many places a constraint takes among the bound ones
abbrev pub places_of : Conjunct → ℕ
places_of (conjuncts.Compare left op right) = 1
places_of (conjuncts.Between sum low high) = 1
places_of (conjuncts.Avg column op limit) = 1
places_of (conjuncts.AvgBetween column low high) = 2

-- constraints are numbered by their first places among the bound ones
abbrev pub terms_faults : ℕ → List Conjunct → List Refusal
terms_faults number [] = []
terms_faults number (conjunct ∷ conjuncts) = number_of_terms number (written_terms conjunct)
    ++ terms_faults (number + places_of conjunct) conjuncts

-- the goal has number 0
abbrev pub parts_faults : Option Goal → List Refusal
parts_faults None = []
parts_faults (Some goal) = number_of_terms 0 (length goal.parts)

abbrev pub bound_faults : Option ℕ → List Refusal
bound_faults None = Unbounded ∷ []
bound_faults (Some bound) =
    if nat_lt MAX_ROW_BOUND bound then LimitRepeat (held bound) ∷ [] else []

-- the faults inside WHERE, SUCH THAT and the goal
abbrev pub inner_faults : Scope → Scope → Query → List Refusal
inner_faults rows copies query = filter_faults rows query.filter
    ++ (conjuncts_faults copies query.conjuncts ++ goal_faults copies query.goal)

abbrev pub size_faults : Query → List Refusal
size_faults query = number_of_conjuncts query.conjuncts
    ++ (terms_faults 1 query.conjuncts ++ parts_faults query.goal)

-- the faults of a query over the rows of these columns
abbrev pub checked_faults : Scope → Scope → Query → List Refusal
checked_faults rows copies query = of_faults query
    ++ (budget_faults query.budget
    ++ (inner_faults rows copies query
    ++ (size_faults query
    ++ bound_faults (row_bound_of query.repeat query.conjuncts))))

abbrev pub faults_over : List Column → Query → List Refusal
faults_over columns query =
    checked_faults (row_scope columns query) (package_scope columns query) query

-- without the table there is no other fault
abbrev pub table_faults : Option (List Column) → Query → List Refusal
table_faults None query = NoTable query.table ∷ []
table_faults (Some columns) query = faults_over columns query

-- tables, each by its name and its columns
abbrev pub Tables : Type 0
Tables = List (List ℕ × List Column)

-- all faults in order, of which the first is answered
abbrev pub query_faults : Tables → Query → List Refusal
query_faults tables query = table_faults (schema_of query.table tables) query

-- ---- the bound query

-- what a query is bound to
pub record BoundParts : Type 0 where
  pub table : List ℕ
  pub version : Option ℕ
  pub filter : RowPred
  pub repeat : Option ℕ
  pub row_bound : ℕ
  pub conjuncts : List BoundConjunct
  pub goal : Option BoundGoal
  pub method : Method
  pub budget : ℕ

-- the parts of a bound query, which keeps their sizes besides
abbrev pub parts_of : BoundQuery → BoundParts
parts_of bound = record {
  table = bound.table;
  version = bound.version;
  filter = bound.filter;
  repeat = bound.repeat;
  row_bound = bound.row_bound;
  conjuncts = bound.conjuncts;
  goal = bound.goal;
  method = bound.method;
  budget = bound.budget;
}

abbrev pub bound_in : Scope → Scope → Query → BoundParts
bound_in rows copies query = record {
  table = query.table;
  version = query.version;
  filter = bound_filter rows query.filter;
  repeat = query.repeat;
  row_bound = unwrap_or (row_bound_of query.repeat query.conjuncts) 0;
  conjuncts = bound_conjuncts copies query.conjuncts;
  goal = bound_goal copies query.goal;
  method = unwrap_or query.method methods.Direct;
  budget = unwrap_or query.budget DEFAULT_BUDGET;
}

abbrev pub bound_over : List Column → Query → BoundParts
bound_over columns query = bound_in (row_scope columns query) (package_scope columns query) query

abbrev pub bound_query_of : Tables → Query → BoundParts
bound_query_of tables query = bound_over (unwrap_or (schema_of query.table tables) []) query
