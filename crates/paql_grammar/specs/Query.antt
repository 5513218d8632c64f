-- The line of a package query, in four parts that follow one another. The language of conditions is
-- an argument.
use Rattle.std.specs.Prelude.{ℕ, List, [], ◌∷◌, Option}
use Rattle.paql_lexer.specs.declared.vocabulary.Kind.{Kind}
use Rattle.paql_lexer.specs.declared.vocabulary.Kind.TheVariants as kinds
use Rattle.paql_ast.specs.declared.conditions.Pred.{Pred}
use Rattle.paql_ast.specs.declared.queries.Conjunct.{Conjunct}
use Rattle.paql_ast.specs.declared.queries.Goal.{Goal}
use Rattle.paql_ast.specs.declared.queries.Method.{Method}
use Rattle.paql_ast.specs.declared.queries.Method.TheVariants.{Direct, SketchRefine}
use Rattle.paql_ast.specs.declared.queries.Query.{Query}
use Rattle.formal_grammar.specs.Lang.{Lang, ◌>>=◌, ◌>>◌, ◌or◌, gives, optional, listed}
use Rattle.paql_grammar.specs.Lexemes.{Lexeme, word, name, whole}
use Rattle.paql_grammar.specs.Aggregates.{constraint, objective}

-- What PACKAGE names, and the package's name.
pub record Head : Type 0 where
  pub of : List ℕ
  pub package_name : List ℕ

-- What comes after FROM.
pub record Relation : Type 0 where
  pub table : List ℕ
  pub alias : Option (List ℕ)
  pub version : Option ℕ
  pub repeat : Option ℕ

pub record Constraints : Type 0 where
  pub filter : Option Pred
  pub conjuncts : List Conjunct

pub record Ending : Type 0 where
  pub goal : Option Goal
  pub method : Option Method
  pub budget : Option ℕ

-- [ "AS" ] name
abbrev pub named : Lang Lexeme (List ℕ)
named = do
  optional (word kinds.As)
  name

-- "SELECT" "PACKAGE" "(" name ")" [ "AS" ] name
abbrev pub head : Lang Lexeme Head
head = do
  word kinds.Select
  word kinds.Package
  word kinds.LeftParen
  of ← name
  word kinds.RightParen
  package_name ← named
  gives (record { of = of; package_name = package_name })

-- "AT" "VERSION" whole
abbrev pub version : Lang Lexeme ℕ
version = do
  word kinds.At
  word kinds.Version
  whole

-- "REPEAT" whole
abbrev pub repeat_limit : Lang Lexeme ℕ
repeat_limit = do
  word kinds.Repeat
  whole

-- With these an alias begins.
abbrev pub alias_kinds : List Kind
alias_kinds = kinds.As ∷ kinds.Name ∷ kinds.QuotedName ∷ []

-- "FROM" name [ [ "AS" ] name ] [ "AT" "VERSION" whole ] [ "REPEAT" whole ]
abbrev pub relation : Lang Lexeme Relation
relation = do
  word kinds.From
  table ← name
  alias ← optional named
  at_version ← optional version
  repeat ← optional repeat_limit
  gives (record { table = table; alias = alias; version = at_version; repeat = repeat })

-- "WHERE" pred
abbrev pub filter : Lang Lexeme Pred → Lang Lexeme Pred
filter pred = do
  word kinds.Where
  pred

-- "SUCH" "THAT" conj { "AND" conj }
abbrev pub such_that : Lang Lexeme Conjunct → Lang Lexeme (List Conjunct)
such_that conj = do
  word kinds.Such
  word kinds.That
  listed (word kinds.And) conj

-- [ "WHERE" pred ] [ "SUCH" "THAT" conj { "AND" conj } ]
abbrev pub constraints : Lang Lexeme Pred → Lang Lexeme Conjunct → Lang Lexeme Constraints
constraints pred conj = do
  passes ← optional (filter pred)
  conjuncts ← such_that conj or gives []
  gives (record { filter = passes; conjuncts = conjuncts })

-- "DIRECT"
abbrev pub direct : Lang Lexeme Method
direct = do
  word kinds.Direct
  gives Direct

-- "SKETCHREFINE"
abbrev pub sketch_refine : Lang Lexeme Method
sketch_refine = do
  word kinds.SketchRefine
  gives SketchRefine

-- "USING" ( "DIRECT" | "SKETCHREFINE" )
abbrev pub method : Lang Lexeme Method
method = do
  word kinds.Using
  direct or sketch_refine

-- "BUDGET" whole
abbrev pub budget : Lang Lexeme ℕ
budget = do
  word kinds.Budget
  whole

-- [ ( "MINIMIZE" | "MAXIMIZE" ) goal ] [ "USING" ( "DIRECT" | "SKETCHREFINE" ) ] [ "BUDGET" whole ]
abbrev pub ending : Lang Lexeme Goal → Lang Lexeme Ending
ending goal = do
  best ← optional goal
  solved_by ← optional method
  nodes ← optional budget
  gives (record { goal = best; method = solved_by; budget = nodes })

-- The tree of the four parts.
abbrev pub query_of : Head → Relation → Constraints → Ending → Query
query_of first from such last = record {
  of = first.of;
  «package» = first.package_name;
  table = from.table;
  alias = from.alias;
  version = from.version;
  repeat = from.repeat;
  filter = such.filter;
  conjuncts = such.conjuncts;
  goal = last.goal;
  method = last.method;
  budget = last.budget;
}

-- "SELECT" "PACKAGE" "(" name ")" [ "AS" ] name
-- "FROM" name [ [ "AS" ] name ] [ "AT" "VERSION" whole ] [ "REPEAT" whole ]
-- [ "WHERE" pred ] [ "SUCH" "THAT" conj { "AND" conj } ]
-- [ ( "MINIMIZE" | "MAXIMIZE" ) goal ] [ "USING" ( "DIRECT" | "SKETCHREFINE" ) ] [ "BUDGET" whole ]
abbrev pub query : Lang Lexeme Pred → Lang Lexeme Query
query pred = do
  first ← head
  from ← relation
  such ← constraints pred (constraint first.package_name pred)
  last ← ending (objective first.package_name pred)
  gives (query_of first from such last)
