-- Private: the parser: the contracts of its functions for literals and conditions.
-- The readings of literals, columns and conditions, line by line as in the grammar.
use Rattle.std.specs.Prelude.{ℕ, zero, suc, is_some, List, [], ◌∷◌, flat_map}
use Rattle.pq_base.specs.declared.scaled.Scaled.{Scaled}
use Rattle.paql_lexer.specs.declared.vocabulary.Kind.{Kind}
use Rattle.paql_lexer.specs.declared.vocabulary.Kind.TheVariants as kinds
use Rattle.schema_types.specs.declared.Lit.{Lit}
use Rattle.schema_types.specs.declared.Lit.TheVariants as lits
use Rattle.paql_ast.specs.declared.conditions.ColumnName.{ColumnName}
use Rattle.paql_ast.specs.declared.conditions.CmpOp.{CmpOp}
use Rattle.paql_ast.specs.declared.conditions.Operand.{Operand}
use Rattle.paql_ast.specs.declared.conditions.Operand.TheVariants as operands
use Rattle.paql_ast.specs.declared.conditions.Pred.{Pred}
use Rattle.paql_ast.specs.declared.conditions.Pred.TheVariants as preds
use Rattle.formal_grammar.specs.declared.stop.Why.TheVariants.{Deep}
use Rattle.formal_grammar.specs.Parse.{Parser, ◌>>=◌, ◌>>◌, pure, stop, accept, this, when, maybe}
use Rattle.formal_grammar.specs.Parse.{repeat, separated}
use Rattle.paql_grammar.specs.Lexemes.{Lexeme, is, among, opens, name_of, content_of, number_of}
use Rattle.paql_grammar.specs.Conditions.{column_of, comparison_of, operator_of, and_parts}
use Rattle.paql_grammar.specs.Conditions.{or_parts}

-- ---- literals and columns

unfoldable pub signed : Parser Lexeme Scaled
signed = do
  minus ← maybe (is kinds.Minus) (accept (this (is kinds.Minus)))
  accept (number_of (is_some minus))

unfoldable pub numeral : Parser Lexeme Lit
numeral = do
  n ← signed
  pure (lits.Num n)

unfoldable pub quoted : Parser Lexeme Lit
quoted = do
  bytes ← accept content_of
  pure (lits.Text bytes)

unfoldable pub lit : Parser Lexeme Lit
lit = when (is kinds.Text) quoted numeral

unfoldable pub suffix : Parser Lexeme (List ℕ)
suffix = do
  accept (this (is kinds.Dot))
  accept name_of

unfoldable pub column : Parser Lexeme ColumnName
column = do
  first ← accept name_of
  second ← maybe (is kinds.Dot) suffix
  pure (column_of first second)

-- ---- tests of a column

unfoldable pub comparison : Parser Lexeme CmpOp
comparison = accept comparison_of

unfoldable pub operator : Parser Lexeme CmpOp
operator = accept operator_of

unfoldable pub literal_operand : Parser Lexeme Operand
literal_operand = do
  value ← lit
  pure (operands.Lit value)

unfoldable pub column_operand : Parser Lexeme Operand
column_operand = do
  of ← column
  pure (operands.Column of)

-- The kinds of the tokens that begin a name.
abbrev pub name_kinds : List Kind
name_kinds = kinds.Name ∷ kinds.QuotedName ∷ []

unfoldable pub operand : Parser Lexeme Operand
operand = when (among name_kinds) column_operand literal_operand

unfoldable pub compared : ColumnName → Parser Lexeme Pred
compared of = do
  op ← operator
  right ← operand
  pure (preds.Compare of op right)

unfoldable pub ranged : ColumnName → Parser Lexeme Pred
ranged of = do
  accept (this (is kinds.Between))
  low ← lit
  accept (this (is kinds.And))
  high ← lit
  pure (preds.Between of low high)

abbrev pub next_lit : Parser Lexeme Lit
next_lit = do
  accept (this (is kinds.Comma))
  lit

unfoldable pub lits_in : Parser Lexeme (List Lit)
lits_in = separated (is kinds.Comma) lit

unfoldable pub listed_in : ColumnName → Parser Lexeme Pred
listed_in of = do
  accept (this (is kinds.In))
  accept (this (is kinds.LeftParen))
  list ← lits_in
  accept (this (is kinds.RightParen))
  pure (preds.In of list)

-- The kinds of operators.
abbrev pub operator_kinds : List Kind
operator_kinds =
    kinds.Equal ∷ kinds.NotEqual ∷ kinds.Less ∷ kinds.LessOrEqual ∷ kinds.Greater
    ∷ kinds.GreaterOrEqual ∷ []

unfoldable pub test : ColumnName → Parser Lexeme Pred
test of =
    when (among operator_kinds) (compared of) (when (is kinds.Between) (ranged of) (listed_in of))

unfoldable pub leaf : Parser Lexeme Pred
leaf = do
  of ← column
  test of

-- ---- conditions

unfoldable pub negation : Parser Lexeme Pred → Parser Lexeme Pred
negation single = do
  accept (this (is kinds.Not))
  part ← single
  pure (preds.Not part)

abbrev pub next_and : Parser Lexeme Pred → Parser Lexeme Pred
next_and single = do
  accept (this (is kinds.And))
  single

-- What comes after a first part, whose parts are put before it.
unfoldable pub more_and : Pred → Parser Lexeme Pred → Parser Lexeme (List Pred)
more_and first single = do
  later ← repeat (is kinds.And) (next_and single)
  pure (flat_map and_parts (first ∷ later))

-- The first part alone, where no AND follows.
unfoldable pub and_rest : Pred → Parser Lexeme Pred → Parser Lexeme Pred
and_rest first single =
    when (is kinds.And) (more_and first single >>= λ parts. pure (preds.And parts)) (pure first)

unfoldable pub both : Parser Lexeme Pred → Parser Lexeme Pred
both single = do
  first ← single
  and_rest first single

abbrev pub next_or : Parser Lexeme Pred → Parser Lexeme Pred
next_or both = do
  accept (this (is kinds.Or))
  both

unfoldable pub more_or : Pred → Parser Lexeme Pred → Parser Lexeme (List Pred)
more_or first both = do
  later ← repeat (is kinds.Or) (next_or both)
  pure (flat_map or_parts (first ∷ later))

unfoldable pub or_rest : Pred → Parser Lexeme Pred → Parser Lexeme Pred
or_rest first both =
    when (is kinds.Or) (more_or first both >>= λ parts. pure (preds.Or parts)) (pure first)

unfoldable pub joined : Parser Lexeme Pred → Parser Lexeme Pred
joined both = do
  first ← both
  or_rest first both

unfoldable pub bracketed : Parser Lexeme Pred → Parser Lexeme Pred
bracketed pred = do
  accept (this (is kinds.LeftParen))
  inner ← pred
  accept (this (is kinds.RightParen))
  pure inner

unfoldable pub opened : Parser Lexeme Pred → Parser Lexeme Pred
opened single = when (is kinds.Not) (negation single) (bracketed (joined (both single)))

-- With n brackets and NOTs still to open.
unfoldable pub single : ℕ → Parser Lexeme Pred
single zero = when opens (stop Deep) leaf
single (suc n) = when opens (opened (single n)) leaf

abbrev pub pred : ℕ → Parser Lexeme Pred
pred n = joined (both (single n))
