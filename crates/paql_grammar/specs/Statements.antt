-- The statements other than the query, and all of them.
use Rattle.std.specs.Prelude.{ℕ, false, List}
use Rattle.paql_lexer.specs.declared.vocabulary.Kind.TheVariants as kinds
use Rattle.schema_types.specs.declared.Lit.{Lit}
use Rattle.schema_types.specs.declared.Kind.{Kind}
use Rattle.schema_types.specs.declared.Kind.TheVariants as column_kinds
use Rattle.schema_types.specs.declared.Column.{Column}
use Rattle.paql_ast.specs.declared.conditions.Pred.{Pred}
use Rattle.paql_ast.specs.declared.statements.Statement.{Statement}
use Rattle.paql_ast.specs.declared.statements.Statement.TheVariants as statements
use Rattle.formal_grammar.specs.Lang.{Lang, ◌>>=◌, ◌>>◌, ◌or◌, gives, optional, listed}
use Rattle.paql_grammar.specs.Lexemes.{Lexeme, word, name, number, whole}
use Rattle.paql_grammar.specs.Conditions.{lit, pred}
use Rattle.paql_grammar.specs.Query.{query}

-- ---- CREATE

abbrev pub int_kind : Lang Lexeme Kind
int_kind = do
  word kinds.Int
  gives column_kinds.Int

-- "DEC" "(" whole ")"
abbrev pub dec_kind : Lang Lexeme Kind
dec_kind = do
  word kinds.Dec
  word kinds.LeftParen
  scale ← whole
  word kinds.RightParen
  gives (column_kinds.Dec scale)

abbrev pub text_kind : Lang Lexeme Kind
text_kind = do
  word kinds.TextType
  gives column_kinds.Text

-- "INT" | "DEC" "(" whole ")" | "TEXT"
abbrev pub column_kind : Lang Lexeme Kind
column_kind = int_kind or (dec_kind or text_kind)

-- name column_kind
abbrev pub defined_column : Lang Lexeme Column
defined_column = do
  of ← name
  kind ← column_kind
  gives (record { name = of; kind = kind })

-- "CREATE" "TABLE" name "(" defined_column { "," defined_column } ")"
abbrev pub create : Lang Lexeme Statement
create = do
  word kinds.Create
  word kinds.Table
  table ← name
  word kinds.LeftParen
  columns ← listed (word kinds.Comma) defined_column
  word kinds.RightParen
  gives (statements.Create table columns)

-- ---- INSERT

-- "(" lit { "," lit } ")"
abbrev pub tuple : Lang Lexeme (List Lit)
tuple = do
  word kinds.LeftParen
  row ← listed (word kinds.Comma) lit
  word kinds.RightParen
  gives row

-- "INSERT" "INTO" name "VALUES" tuple { "," tuple }
abbrev pub insert : Lang Lexeme Statement
insert = do
  word kinds.Insert
  word kinds.Into
  table ← name
  word kinds.Values
  rows ← listed (word kinds.Comma) tuple
  gives (statements.Insert table rows)

-- ---- LOAD

-- "LOAD" name "BYTES" whole
abbrev pub load : Lang Lexeme Statement
load = do
  word kinds.Load
  table ← name
  word kinds.Bytes
  bytes ← whole
  gives (statements.Load table bytes)

-- ---- UPDATE and DELETE

-- name "=" lit
abbrev pub assignment : Lang Lexeme (List ℕ × Lit)
assignment = do
  column ← name
  word kinds.Equal
  value ← lit
  gives (column, value)

-- "WHERE" pred
abbrev pub filter : ℕ → Lang Lexeme Pred
filter n = do
  word kinds.Where
  pred n

-- "UPDATE" name "SET" assignment { "," assignment } [ "WHERE" pred ]
abbrev pub update : ℕ → Lang Lexeme Statement
update n = do
  word kinds.Update
  table ← name
  word kinds.Set
  sets ← listed (word kinds.Comma) assignment
  filtered ← optional (filter n)
  gives (statements.Update table sets filtered)

-- "DELETE" "FROM" name [ "WHERE" pred ]
abbrev pub delete : ℕ → Lang Lexeme Statement
delete n = do
  word kinds.Delete
  word kinds.From
  table ← name
  filtered ← optional (filter n)
  gives (statements.Delete table filtered)

-- ---- PARTITION and VACUUM

-- "PARTITION" name "ON" "(" name { "," name } ")" "SIZE" whole "RADIUS" number
abbrev pub partition : Lang Lexeme Statement
partition = do
  word kinds.Partition
  table ← name
  word kinds.On
  word kinds.LeftParen
  columns ← listed (word kinds.Comma) name
  word kinds.RightParen
  word kinds.Size
  size ← whole
  word kinds.Radius
  radius ← number false
  gives (statements.Partition table columns size radius)

-- "VACUUM" whole
abbrev pub vacuum : Lang Lexeme Statement
vacuum = do
  word kinds.Vacuum
  version ← whole
  gives (statements.Vacuum version)

-- ---- statements of one word

abbrev pub begin : Lang Lexeme Statement
begin = do
  word kinds.Begin
  gives statements.Begin

abbrev pub commit : Lang Lexeme Statement
commit = do
  word kinds.Commit
  gives statements.Commit

abbrev pub rollback : Lang Lexeme Statement
rollback = do
  word kinds.Rollback
  gives statements.Rollback

abbrev pub certificate : Lang Lexeme Statement
certificate = do
  word kinds.Certificate
  gives statements.Certificate

-- ---- all statements

abbrev pub package_query : ℕ → Lang Lexeme Statement
package_query n = do
  asked ← query (pred n)
  gives (statements.Query asked)

-- "BEGIN" | "COMMIT" | "ROLLBACK" | "CERTIFICATE" | query
abbrev pub session : ℕ → Lang Lexeme Statement
session n = begin or (commit or (rollback or (certificate or package_query n)))

-- update | delete | partition | vacuum | session
abbrev pub change : ℕ → Lang Lexeme Statement
change n = update n or (delete n or (partition or (vacuum or session n)))

-- create | insert | load | update | delete | partition | vacuum
-- | "BEGIN" | "COMMIT" | "ROLLBACK" | "CERTIFICATE" | query,
-- with at most n brackets and NOTs of a condition open at one place
unfoldable pub statement : ℕ → Lang Lexeme Statement
statement n = create or (insert or (load or change n))
