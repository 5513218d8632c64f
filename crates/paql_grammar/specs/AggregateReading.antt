-- Private: the parser: the contracts of its functions for sums and conditions.
-- The readings of aggregates, sums, constraints and goals, line by line as in the grammar. That
-- of conditions is an argument, and so is the package's name.
use Rattle.std.specs.Prelude.{ℕ, Bool, true, false, is_some, List, ◌∷◌, Option, Some, None}
use Rattle.pq_base.specs.declared.scaled.Scaled.{Scaled}
use Rattle.paql_lexer.specs.declared.vocabulary.Kind.TheVariants as kinds
use Rattle.paql_ast.specs.declared.conditions.Pred.{Pred}
use Rattle.paql_ast.specs.declared.conditions.ColumnName.{ColumnName}
use Rattle.paql_ast.specs.declared.aggregates.Plain.{Plain}
use Rattle.paql_ast.specs.declared.aggregates.Plain.TheVariants.{Count, Sum}
use Rattle.paql_ast.specs.declared.aggregates.Agg.{Agg}
use Rattle.paql_ast.specs.declared.aggregates.Term.{Term}
use Rattle.paql_ast.specs.declared.aggregates.Term.TheVariants as terms
use Rattle.paql_ast.specs.declared.aggregates.SumItem.{SumItem}
use Rattle.paql_ast.specs.declared.queries.Conjunct.{Conjunct}
use Rattle.paql_ast.specs.declared.queries.Conjunct.TheVariants.{Compare, Between, Avg, AvgBetween}
use Rattle.paql_ast.specs.declared.queries.Goal.{Goal}
use Rattle.formal_grammar.specs.Parse.{Parser, ◌>>=◌, ◌>>◌, pure, accept, this, when, maybe, repeat}
use Rattle.paql_grammar.specs.Lexemes.{Lexeme, is, among, name_of, number_of}
use Rattle.paql_grammar.specs.ConditionReading.{column, comparison, signed}
use Rattle.paql_grammar.specs.Aggregates.{counted, sign_kinds}

-- ---- aggregates

unfoldable pub all_rows : Parser Lexeme Plain
all_rows = do
  accept (this (is kinds.Star))
  pure (Count None)

unfoldable pub rows_of : List ℕ → Parser Lexeme Plain
rows_of package_name = do
  of ← accept name_of
  accept (this (is kinds.Dot))
  accept (this (is kinds.Star))
  pure (Count (counted package_name of))

unfoldable pub rows : List ℕ → Parser Lexeme Plain
rows package_name = when (is kinds.Star) all_rows (rows_of package_name)

unfoldable pub count : List ℕ → Parser Lexeme Plain
count package_name = do
  accept (this (is kinds.Count))
  accept (this (is kinds.LeftParen))
  counted ← rows package_name
  accept (this (is kinds.RightParen))
  pure counted

unfoldable pub column_sum : Parser Lexeme Plain
column_sum = do
  accept (this (is kinds.Sum))
  accept (this (is kinds.LeftParen))
  of ← column
  accept (this (is kinds.RightParen))
  pure (Sum of)

unfoldable pub plain : List ℕ → Parser Lexeme Plain
plain package_name = when (is kinds.Count) (count package_name) column_sum

unfoldable pub unconditional : List ℕ → Parser Lexeme Agg
unconditional package_name = do
  of ← plain package_name
  pure (record { plain = of; only = None })

unfoldable pub conditional : List ℕ → Parser Lexeme Pred → Parser Lexeme Agg
conditional package_name pred = do
  accept (this (is kinds.LeftParen))
  accept (this (is kinds.Select))
  of ← plain package_name
  accept (this (is kinds.From))
  from ← accept name_of
  accept (this (is kinds.Where))
  filter ← pred
  accept (this (is kinds.RightParen))
  pure (record { plain = of; only = Some (from, filter) })

unfoldable pub agg : List ℕ → Parser Lexeme Pred → Parser Lexeme Agg
agg package_name pred =
    when (is kinds.LeftParen) (conditional package_name pred) (unconditional package_name)

-- ---- terms and sums

unfoldable pub factor : Parser Lexeme Scaled
factor = do
  times ← accept (number_of false)
  accept (this (is kinds.Star))
  pure times

unfoldable pub optional_factor : Parser Lexeme (Option Scaled)
optional_factor = maybe (is kinds.Number) factor

unfoldable pub part : Parser Lexeme Agg → Parser Lexeme Term
part agg = do
  times ← optional_factor
  of ← agg
  pure (terms.Agg times of)

-- "*" agg, after a number
unfoldable pub multiple : Parser Lexeme Agg → Scaled → Parser Lexeme Term
multiple agg times = do
  accept (this (is kinds.Star))
  of ← agg
  pure (terms.Agg (Some times) of)

-- number [ "*" agg ]
unfoldable pub from_number : Parser Lexeme Agg → Parser Lexeme Term
from_number agg = do
  value ← accept (number_of false)
  when (is kinds.Star) (multiple agg value) (pure (terms.Number value))

-- agg
unfoldable pub single : Parser Lexeme Agg → Parser Lexeme Term
single agg = do
  of ← agg
  pure (terms.Agg None of)

unfoldable pub term : Parser Lexeme Agg → Parser Lexeme Term
term agg = when (is kinds.Number) (from_number agg) (single agg)

unfoldable pub leading_minus : Parser Lexeme Bool
leading_minus = do
  negative ← maybe (is kinds.Minus) (accept (this (is kinds.Minus)))
  pure (is_some negative)

unfoldable pub first_item : Parser Lexeme Term → Parser Lexeme SumItem
first_item term = do
  negative ← leading_minus
  of ← term
  pure (record { minus = negative; term = of })

unfoldable pub plus : Parser Lexeme Bool
plus = do
  accept (this (is kinds.Plus))
  pure false

unfoldable pub minus : Parser Lexeme Bool
minus = do
  accept (this (is kinds.Minus))
  pure true

unfoldable pub sign : Parser Lexeme Bool
sign = when (is kinds.Plus) plus minus

unfoldable pub next_item : Parser Lexeme Term → Parser Lexeme SumItem
next_item term = do
  negative ← sign
  of ← term
  pure (record { minus = negative; term = of })

-- What comes after a first item, which is put before it.
unfoldable pub more_items : SumItem → Parser Lexeme Term → Parser Lexeme (List SumItem)
more_items first term = do
  later ← repeat (among sign_kinds) (next_item term)
  pure (first ∷ later)

unfoldable pub sum : Parser Lexeme Term → Parser Lexeme (List SumItem)
sum term = do
  first ← first_item term
  more_items first term

-- ---- constraints and goals

unfoldable pub ends : Parser Lexeme (Scaled × Scaled)
ends = do
  accept (this (is kinds.Between))
  low ← signed
  accept (this (is kinds.And))
  high ← signed
  pure (low, high)

unfoldable pub compared : List SumItem → Parser Lexeme (List SumItem) → Parser Lexeme Conjunct
compared left sum = do
  op ← comparison
  right ← sum
  pure (Compare left op right)

unfoldable pub between : List SumItem → Parser Lexeme Conjunct
between sum = do
  both ← ends
  pure (Between sum both.0 both.1)

unfoldable pub on_sums : Parser Lexeme (List SumItem) → Parser Lexeme Conjunct
on_sums sum = do
  left ← sum
  when (is kinds.Between) (between left) (compared left sum)

unfoldable pub average_compared : ColumnName → Parser Lexeme Conjunct
average_compared column = do
  op ← comparison
  limit ← signed
  pure (Avg column op limit)

unfoldable pub average_between : ColumnName → Parser Lexeme Conjunct
average_between column = do
  both ← ends
  pure (AvgBetween column both.0 both.1)

unfoldable pub on_average : Parser Lexeme Conjunct
on_average = do
  accept (this (is kinds.Avg))
  accept (this (is kinds.LeftParen))
  of ← column
  accept (this (is kinds.RightParen))
  when (is kinds.Between) (average_between of) (average_compared of)

unfoldable pub conj : Parser Lexeme (List SumItem) → Parser Lexeme Conjunct
conj sum = when (is kinds.Avg) on_average (on_sums sum)

unfoldable pub minimize : Parser Lexeme Bool
minimize = do
  accept (this (is kinds.Minimize))
  pure false

unfoldable pub maximize : Parser Lexeme Bool
maximize = do
  accept (this (is kinds.Maximize))
  pure true

unfoldable pub sense : Parser Lexeme Bool
sense = when (is kinds.Minimize) minimize maximize

unfoldable pub goal : Parser Lexeme (List SumItem) → Parser Lexeme Goal
goal sum_of_parts = do
  upwards ← sense
  parts ← sum_of_parts
  pure (record { maximize = upwards; parts = parts })

-- ---- in a query, whose package has this name

-- A term, or a part where plain numbers are not allowed.
abbrev pub summand : Bool → List ℕ → Parser Lexeme Pred → Parser Lexeme Term
summand true package_name pred = term (agg package_name pred)
summand false package_name pred = part (agg package_name pred)

abbrev pub constraint : List ℕ → Parser Lexeme Pred → Parser Lexeme Conjunct
constraint package_name pred = conj (sum (summand true package_name pred))

abbrev pub objective : List ℕ → Parser Lexeme Pred → Parser Lexeme Goal
objective package_name pred = goal (sum (summand false package_name pred))
