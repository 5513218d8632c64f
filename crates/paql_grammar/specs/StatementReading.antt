-- Private: the parser: the contracts of its functions for statements.
-- The readings of statements, line by line as in the grammar.
use Rattle.std.specs.Prelude.{ℕ, false, List}
use Rattle.paql_lexer.specs.declared.vocabulary.Kind.TheVariants as kinds
use Rattle.schema_types.specs.declared.Lit.{Lit}
use Rattle.schema_types.specs.declared.Kind.{Kind}
use Rattle.schema_types.specs.declared.Kind.TheVariants as column_kinds
use Rattle.schema_types.specs.declared.Column.{Column}
use Rattle.paql_ast.specs.declared.conditions.Pred.{Pred}
use Rattle.paql_ast.specs.declared.statements.Statement.{Statement}
use Rattle.paql_ast.specs.declared.statements.Statement.TheVariants as statements
use Rattle.formal_grammar.specs.Parse.{Parser, ◌>>=◌, ◌>>◌, pure, accept, this, when, maybe}
use Rattle.formal_grammar.specs.Parse.{separated}
use Rattle.paql_grammar.specs.Lexemes.{Lexeme, is, name_of, number_of, whole_of}
use Rattle.paql_grammar.specs.ConditionReading.{lit, lits_in, pred}
use Rattle.paql_grammar.specs.QueryReading as queries

-- ---- CREATE

unfoldable pub int_kind : Parser Lexeme Kind
int_kind = do
  accept (this (is kinds.Int))
  pure column_kinds.Int

unfoldable pub dec_kind : Parser Lexeme Kind
dec_kind = do
  accept (this (is kinds.Dec))
  accept (this (is kinds.LeftParen))
  scale ← accept whole_of
  accept (this (is kinds.RightParen))
  pure (column_kinds.Dec scale)

unfoldable pub text_kind : Parser Lexeme Kind
text_kind = do
  accept (this (is kinds.TextType))
  pure column_kinds.Text

unfoldable pub column_kind : Parser Lexeme Kind
column_kind = when (is kinds.Int) int_kind (when (is kinds.Dec) dec_kind text_kind)

unfoldable pub defined_column : Parser Lexeme Column
defined_column = do
  of ← accept name_of
  kind ← column_kind
  pure (record { name = of; kind = kind })

abbrev pub next_column : Parser Lexeme Column
next_column = do
  accept (this (is kinds.Comma))
  defined_column

unfoldable pub defined_columns : Parser Lexeme (List Column)
defined_columns = separated (is kinds.Comma) defined_column

unfoldable pub create : Parser Lexeme Statement
create = do
  accept (this (is kinds.Create))
  accept (this (is kinds.Table))
  table ← accept name_of
  accept (this (is kinds.LeftParen))
  columns ← defined_columns
  accept (this (is kinds.RightParen))
  pure (statements.Create table columns)

-- ---- INSERT

unfoldable pub tuple : Parser Lexeme (List Lit)
tuple = do
  accept (this (is kinds.LeftParen))
  row ← lits_in
  accept (this (is kinds.RightParen))
  pure row

abbrev pub next_tuple : Parser Lexeme (List Lit)
next_tuple = do
  accept (this (is kinds.Comma))
  tuple

unfoldable pub tuples : Parser Lexeme (List (List Lit))
tuples = separated (is kinds.Comma) tuple

unfoldable pub insert : Parser Lexeme Statement
insert = do
  accept (this (is kinds.Insert))
  accept (this (is kinds.Into))
  table ← accept name_of
  accept (this (is kinds.Values))
  rows ← tuples
  pure (statements.Insert table rows)

-- ---- LOAD

unfoldable pub load : Parser Lexeme Statement
load = do
  accept (this (is kinds.Load))
  table ← accept name_of
  accept (this (is kinds.Bytes))
  bytes ← accept whole_of
  pure (statements.Load table bytes)

-- ---- UPDATE and DELETE

unfoldable pub assignment : Parser Lexeme (List ℕ × Lit)
assignment = do
  column ← accept name_of
  accept (this (is kinds.Equal))
  value ← lit
  pure (column, value)

abbrev pub next_assignment : Parser Lexeme (List ℕ × Lit)
next_assignment = do
  accept (this (is kinds.Comma))
  assignment

unfoldable pub assignments : Parser Lexeme (List (List ℕ × Lit))
assignments = separated (is kinds.Comma) assignment

unfoldable pub filter : ℕ → Parser Lexeme Pred
filter n = do
  accept (this (is kinds.Where))
  pred n

unfoldable pub update : ℕ → Parser Lexeme Statement
update n = do
  accept (this (is kinds.Update))
  table ← accept name_of
  accept (this (is kinds.Set))
  sets ← assignments
  filtered ← maybe (is kinds.Where) (filter n)
  pure (statements.Update table sets filtered)

unfoldable pub delete : ℕ → Parser Lexeme Statement
delete n = do
  accept (this (is kinds.Delete))
  accept (this (is kinds.From))
  table ← accept name_of
  filtered ← maybe (is kinds.Where) (filter n)
  pure (statements.Delete table filtered)

-- ---- PARTITION and VACUUM

abbrev pub next_name : Parser Lexeme (List ℕ)
next_name = do
  accept (this (is kinds.Comma))
  accept name_of

unfoldable pub names : Parser Lexeme (List (List ℕ))
names = separated (is kinds.Comma) (accept name_of)

unfoldable pub partition : Parser Lexeme Statement
partition = do
  accept (this (is kinds.Partition))
  table ← accept name_of
  accept (this (is kinds.On))
  accept (this (is kinds.LeftParen))
  columns ← names
  accept (this (is kinds.RightParen))
  accept (this (is kinds.Size))
  size ← accept whole_of
  accept (this (is kinds.Radius))
  radius ← accept (number_of false)
  pure (statements.Partition table columns size radius)

unfoldable pub vacuum : Parser Lexeme Statement
vacuum = do
  accept (this (is kinds.Vacuum))
  version ← accept whole_of
  pure (statements.Vacuum version)

-- ---- statements of one word

unfoldable pub begin : Parser Lexeme Statement
begin = do
  accept (this (is kinds.Begin))
  pure statements.Begin

unfoldable pub commit : Parser Lexeme Statement
commit = do
  accept (this (is kinds.Commit))
  pure statements.Commit

unfoldable pub rollback : Parser Lexeme Statement
rollback = do
  accept (this (is kinds.Rollback))
  pure statements.Rollback

unfoldable pub certificate : Parser Lexeme Statement
certificate = do
  accept (this (is kinds.Certificate))
  pure statements.Certificate

-- ---- all statements

unfoldable pub package_query : ℕ → Parser Lexeme Statement
package_query n = do
  query ← queries.query (pred n)
  pure (statements.Query query)

-- those of a session
unfoldable pub session : ℕ → Parser Lexeme Statement
session n =
    when (is kinds.Begin) begin
    (when (is kinds.Commit) commit
    (when (is kinds.Rollback) rollback (when (is kinds.Certificate) certificate (package_query n))))

-- those that change rows, and what comes after them
unfoldable pub change : ℕ → Parser Lexeme Statement
change n =
    when (is kinds.Update) (update n)
    (when (is kinds.Delete) (delete n)
    (when (is kinds.Partition) partition (when (is kinds.Vacuum) vacuum (session n))))

unfoldable pub statement : ℕ → Parser Lexeme Statement
statement n =
    when (is kinds.Create) create
    (when (is kinds.Insert) insert (when (is kinds.Load) load (change n)))
