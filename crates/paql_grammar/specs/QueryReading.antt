-- Private: the parser: the contracts of its functions for queries.
-- The readings of a query's parts, line by line as in the grammar. That of conditions is an
-- argument.
use Rattle.std.specs.Prelude.{ℕ, List, []}
use Rattle.paql_lexer.specs.declared.vocabulary.Kind.TheVariants as kinds
use Rattle.paql_ast.specs.declared.conditions.Pred.{Pred}
use Rattle.paql_ast.specs.declared.queries.Conjunct.{Conjunct}
use Rattle.paql_ast.specs.declared.queries.Goal.{Goal}
use Rattle.paql_ast.specs.declared.queries.Method.{Method}
use Rattle.paql_ast.specs.declared.queries.Method.TheVariants.{Direct, SketchRefine}
use Rattle.paql_ast.specs.declared.queries.Query.{Query}
use Rattle.formal_grammar.specs.Parse.{Parser, ◌>>=◌, ◌>>◌, pure, accept, this, when, maybe}
use Rattle.formal_grammar.specs.Parse.{separated}
use Rattle.paql_grammar.specs.Lexemes.{Lexeme, is, among, name_of, whole_of}
use Rattle.paql_grammar.specs.AggregateReading.{constraint, objective}
use Rattle.paql_grammar.specs.Query.{Head, Relation, Constraints, Ending, alias_kinds, query_of}
use Rattle.paql_grammar.specs.Aggregates.{goal_kinds}

unfoldable pub named : Parser Lexeme (List ℕ)
named = do
  maybe (is kinds.As) (accept (this (is kinds.As)))
  accept name_of

unfoldable pub head : Parser Lexeme Head
head = do
  accept (this (is kinds.Select))
  accept (this (is kinds.Package))
  accept (this (is kinds.LeftParen))
  of ← accept name_of
  accept (this (is kinds.RightParen))
  package_name ← named
  pure (record { of = of; package_name = package_name })

unfoldable pub version : Parser Lexeme ℕ
version = do
  accept (this (is kinds.At))
  accept (this (is kinds.Version))
  accept whole_of

unfoldable pub repeat_limit : Parser Lexeme ℕ
repeat_limit = do
  accept (this (is kinds.Repeat))
  accept whole_of

unfoldable pub relation : Parser Lexeme Relation
relation = do
  accept (this (is kinds.From))
  table ← accept name_of
  alias ← maybe (among alias_kinds) named
  at_version ← maybe (is kinds.At) version
  repeat ← maybe (is kinds.Repeat) repeat_limit
  pure (record { table = table; alias = alias; version = at_version; repeat = repeat })

unfoldable pub filter : Parser Lexeme Pred → Parser Lexeme Pred
filter pred = do
  accept (this (is kinds.Where))
  pred

abbrev pub next_constraint : Parser Lexeme Conjunct → Parser Lexeme Conjunct
next_constraint conj = do
  accept (this (is kinds.And))
  conj

unfoldable pub such_that : Parser Lexeme Conjunct → Parser Lexeme (List Conjunct)
such_that conj = do
  accept (this (is kinds.Such))
  accept (this (is kinds.That))
  separated (is kinds.And) conj

unfoldable pub constraints : Parser Lexeme Pred → Parser Lexeme Conjunct → Parser Lexeme Constraints
constraints pred conj = do
  passes ← maybe (is kinds.Where) (filter pred)
  conjuncts ← when (is kinds.Such) (such_that conj) (pure [])
  pure (record { filter = passes; conjuncts = conjuncts })

unfoldable pub direct : Parser Lexeme Method
direct = do
  accept (this (is kinds.Direct))
  pure Direct

unfoldable pub sketch_refine : Parser Lexeme Method
sketch_refine = do
  accept (this (is kinds.SketchRefine))
  pure SketchRefine

unfoldable pub method : Parser Lexeme Method
method = do
  accept (this (is kinds.Using))
  when (is kinds.Direct) direct sketch_refine

unfoldable pub budget : Parser Lexeme ℕ
budget = do
  accept (this (is kinds.Budget))
  accept whole_of

unfoldable pub ending : Parser Lexeme Goal → Parser Lexeme Ending
ending goal = do
  best ← maybe (among goal_kinds) goal
  solved_by ← maybe (is kinds.Using) method
  nodes ← maybe (is kinds.Budget) budget
  pure (record { goal = best; method = solved_by; budget = nodes })

unfoldable pub query : Parser Lexeme Pred → Parser Lexeme Query
query pred = do
  first ← head
  from ← relation
  such ← constraints pred (constraint first.package_name pred)
  last ← ending (objective first.package_name pred)
  pure (query_of first from such last)
