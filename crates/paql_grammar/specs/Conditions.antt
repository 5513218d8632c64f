-- Literals, columns and conditions.
use Rattle.std.specs.Prelude.{ℕ, zero, suc, is_some, List, [], ◌∷◌, flat_map, Option, Some, None}
use Rattle.pq_base.specs.declared.scaled.Scaled.{Scaled}
use Rattle.paql_lexer.specs.declared.vocabulary.Kind.{Kind}
use Rattle.paql_lexer.specs.declared.vocabulary.Kind.TheVariants as kinds
use Rattle.schema_types.specs.declared.Lit.{Lit}
use Rattle.schema_types.specs.declared.Lit.TheVariants as lits
use Rattle.paql_ast.specs.declared.conditions.ColumnName.{ColumnName}
use Rattle.paql_ast.specs.declared.conditions.CmpOp.{CmpOp}
use Rattle.paql_ast.specs.declared.conditions.CmpOp.TheVariants as ops
use Rattle.paql_ast.specs.declared.conditions.Operand.{Operand}
use Rattle.paql_ast.specs.declared.conditions.Operand.TheVariants as operands
use Rattle.paql_ast.specs.declared.conditions.Pred.{Pred, out-Pred}
use Rattle.paql_ast.specs.declared.conditions.Pred.TheVariants as preds
use Rattle.paql_ast.specs.declared.conditions.Pred.TheOpen.{Pred-F}
use Rattle.formal_grammar.specs.Lang.{Lang, ◌>>=◌, ◌>>◌, ◌or◌, gives, shown, optional, listed}
use Rattle.paql_grammar.specs.Lexemes.{Lexeme, word, name, content, number}

-- ---- literals and columns

-- [ "-" ] number
abbrev pub signed : Lang Lexeme Scaled
signed = do
  minus ← optional (word kinds.Minus)
  number (is_some minus)

-- signed
abbrev pub numeral : Lang Lexeme Lit
numeral = do
  n ← signed
  gives (lits.Num n)

-- text
abbrev pub quoted : Lang Lexeme Lit
quoted = do
  bytes ← content
  gives (lits.Text bytes)

-- signed | text
abbrev pub lit : Lang Lexeme Lit
lit = quoted or numeral

-- "." name
abbrev pub suffix : Lang Lexeme (List ℕ)
suffix = do
  word kinds.Dot
  name

-- The column with what comes after its first name.
abbrev pub column_of : List ℕ → Option (List ℕ) → ColumnName
column_of first (Some second) = record { prefix = Some first; name = second }
column_of first None = record { prefix = None; name = first }

-- name [ "." name ]
abbrev pub column : Lang Lexeme ColumnName
column = do
  first ← name
  second ← optional suffix
  gives (column_of first second)

-- ---- tests of a column

-- The comparison that a kind of token is.
abbrev pub comparison_in : Kind → Option CmpOp
comparison_in kinds.Equal = Some ops.Eq
comparison_in kinds.Less = Some ops.Lt
comparison_in kinds.LessOrEqual = Some ops.Le
comparison_in kinds.Greater = Some ops.Gt
comparison_in kinds.GreaterOrEqual = Some ops.Ge
comparison_in kind = None

-- The same, with `<>`.
abbrev pub operator_in : Kind → Option CmpOp
operator_in kinds.NotEqual = Some ops.Ne
operator_in kind = comparison_in kind

abbrev pub comparison_of : Lexeme → Option CmpOp
comparison_of t = comparison_in t.kind

abbrev pub operator_of : Lexeme → Option CmpOp
operator_of t = operator_in t.kind

-- "=" | "<" | "<=" | ">" | ">="
abbrev pub comparison : Lang Lexeme CmpOp
comparison = shown comparison_of

-- comparison | "<>"
abbrev pub operator : Lang Lexeme CmpOp
operator = shown operator_of

abbrev pub literal_operand : Lang Lexeme Operand
literal_operand = do
  value ← lit
  gives (operands.Lit value)

abbrev pub column_operand : Lang Lexeme Operand
column_operand = do
  of ← column
  gives (operands.Column of)

-- lit | column
abbrev pub operand : Lang Lexeme Operand
operand = column_operand or literal_operand

-- operator operand
abbrev pub compared : ColumnName → Lang Lexeme Pred
compared of = do
  op ← operator
  right ← operand
  gives (preds.Compare of op right)

-- "BETWEEN" lit "AND" lit
abbrev pub ranged : ColumnName → Lang Lexeme Pred
ranged of = do
  word kinds.Between
  low ← lit
  word kinds.And
  high ← lit
  gives (preds.Between of low high)

-- "IN" "(" lit { "," lit } ")"
abbrev pub listed_in : ColumnName → Lang Lexeme Pred
listed_in of = do
  word kinds.In
  word kinds.LeftParen
  list ← listed (word kinds.Comma) lit
  word kinds.RightParen
  gives (preds.In of list)

-- compared | ranged | listed_in
abbrev pub test : ColumnName → Lang Lexeme Pred
test of = compared of or (ranged of or listed_in of)

-- column test
abbrev pub leaf : Lang Lexeme Pred
leaf = do
  of ← column
  test of

-- ---- conditions

-- The parts of an AND, of which a condition that is none is the only one.
abbrev pub and_parts_of : Pred → Pred-F Pred → List Pred
and_parts_of t (Pred-F.And parts) = parts
and_parts_of t other = t ∷ []

abbrev pub and_parts : Pred → List Pred
and_parts t = and_parts_of t (out-Pred t)

-- The parts of an OR, of which a condition that is none is the only one.
abbrev pub or_parts_of : Pred → Pred-F Pred → List Pred
or_parts_of t (Pred-F.Or parts) = parts
or_parts_of t other = t ∷ []

abbrev pub or_parts : Pred → List Pred
or_parts t = or_parts_of t (out-Pred t)

-- One part is itself. More are joined, and the parts of an AND among them are parts of the whole.
abbrev pub and_of : List Pred → Pred
and_of (t ∷ []) = t
and_of ts = preds.And (flat_map and_parts ts)

abbrev pub or_of : List Pred → Pred
or_of (t ∷ []) = t
or_of ts = preds.Or (flat_map or_parts ts)

-- "NOT" single
abbrev pub negation : Lang Lexeme Pred → Lang Lexeme Pred
negation single = do
  word kinds.Not
  part ← single
  gives (preds.Not part)

-- single { "AND" single }
abbrev pub both : Lang Lexeme Pred → Lang Lexeme Pred
both single = do
  parts ← listed (word kinds.And) single
  gives (and_of parts)

-- both { "OR" both }
abbrev pub joined : Lang Lexeme Pred → Lang Lexeme Pred
joined single = do
  parts ← listed (word kinds.Or) (both single)
  gives (or_of parts)

-- "(" pred ")"
abbrev pub bracketed : Lang Lexeme Pred → Lang Lexeme Pred
bracketed pred = do
  word kinds.LeftParen
  inner ← pred
  word kinds.RightParen
  gives inner

-- "NOT" single | "(" pred ")" | column test, with at most n brackets and NOTs open at one place
unfoldable pub single : ℕ → Lang Lexeme Pred
single zero = leaf
single (suc n) = (negation (single n) or bracketed (joined (single n))) or leaf

-- The conditions with at most n brackets and NOTs open at one place.
abbrev pub pred : ℕ → Lang Lexeme Pred
pred n = joined (single n)
