-- Aggregates, and the sums, constraints and goals that they are in. A COUNT depends on the
-- package's name, and what has a condition in it on the language of conditions.
use Rattle.std.specs.Prelude.{ℕ, Bool, true, false, is_some, if◌then◌else◌, List, [], ◌∷◌, Option}
use Rattle.std.specs.Prelude.{Some, None}
use Rattle.std.specs.Str.{bytes_eq}
use Rattle.pq_base.specs.declared.scaled.Scaled.{Scaled}
use Rattle.paql_lexer.specs.declared.vocabulary.Kind.{Kind}
use Rattle.paql_lexer.specs.declared.vocabulary.Kind.TheVariants as kinds
use Rattle.paql_ast.specs.declared.conditions.Pred.{Pred}
use Rattle.paql_ast.specs.declared.conditions.ColumnName.{ColumnName}
use Rattle.paql_ast.specs.declared.aggregates.Plain.{Plain}
use Rattle.paql_ast.specs.declared.aggregates.Plain.TheVariants.{Count, Sum}
use Rattle.paql_ast.specs.declared.aggregates.Agg.{Agg}
use Rattle.paql_ast.specs.declared.aggregates.Term.{Term}
use Rattle.paql_ast.specs.declared.aggregates.Term.TheVariants as terms
use Rattle.paql_ast.specs.declared.aggregates.SumItem.{SumItem}
use Rattle.paql_ast.specs.declared.queries.Conjunct.{Conjunct}
use Rattle.paql_ast.specs.declared.queries.Conjunct.TheVariants.{Compare, Between, Avg, AvgBetween}
use Rattle.paql_ast.specs.declared.queries.Goal.{Goal}
use Rattle.formal_grammar.specs.Lang.{Lang, ◌>>=◌, ◌>>◌, ◌or◌, gives, optional, many}
use Rattle.paql_grammar.specs.Lexemes.{Lexeme, word, name, number}
use Rattle.paql_grammar.specs.Conditions.{column, comparison, signed}

-- ---- aggregates

-- The name that a COUNT keeps: none where it is the package's.
abbrev pub counted : List ℕ → List ℕ → Option (List ℕ)
counted package_name name = if bytes_eq name package_name then None else Some name

-- "*"
abbrev pub all_rows : Lang Lexeme Plain
all_rows = do
  word kinds.Star
  gives (Count None)

-- name "." "*"
abbrev pub rows_of : List ℕ → Lang Lexeme Plain
rows_of package_name = do
  of ← name
  word kinds.Dot
  word kinds.Star
  gives (Count (counted package_name of))

-- "COUNT" "(" ( "*" | name "." "*" ) ")"
abbrev pub count : List ℕ → Lang Lexeme Plain
count package_name = do
  word kinds.Count
  word kinds.LeftParen
  rows ← all_rows or rows_of package_name
  word kinds.RightParen
  gives rows

-- "SUM" "(" column ")"
abbrev pub column_sum : Lang Lexeme Plain
column_sum = do
  word kinds.Sum
  word kinds.LeftParen
  of ← column
  word kinds.RightParen
  gives (Sum of)

-- plain = "COUNT" "(" ( "*" | name "." "*" ) ")" | "SUM" "(" column ")"
abbrev pub plain : List ℕ → Lang Lexeme Plain
plain package_name = count package_name or column_sum

-- plain
abbrev pub unconditional : List ℕ → Lang Lexeme Agg
unconditional package_name = do
  of ← plain package_name
  gives (record { plain = of; only = None })

-- "(" "SELECT" plain "FROM" name "WHERE" pred ")"
abbrev pub conditional : List ℕ → Lang Lexeme Pred → Lang Lexeme Agg
conditional package_name pred = do
  word kinds.LeftParen
  word kinds.Select
  of ← plain package_name
  word kinds.From
  from ← name
  word kinds.Where
  filter ← pred
  word kinds.RightParen
  gives (record { plain = of; only = Some (from, filter) })

-- agg = "(" "SELECT" plain "FROM" name "WHERE" pred ")" | plain
abbrev pub agg : List ℕ → Lang Lexeme Pred → Lang Lexeme Agg
agg package_name pred = conditional package_name pred or unconditional package_name

-- ---- terms and sums

-- number "*"
abbrev pub factor : Lang Lexeme Scaled
factor = do
  times ← number false
  word kinds.Star
  gives times

-- part = [ number "*" ] agg
abbrev pub part : Lang Lexeme Agg → Lang Lexeme Term
part agg = do
  times ← optional factor
  of ← agg
  gives (terms.Agg times of)

-- number
abbrev pub constant : Lang Lexeme Term
constant = do
  value ← number false
  gives (terms.Number value)

-- term = number | [ number "*" ] agg
abbrev pub term : Lang Lexeme Agg → Lang Lexeme Term
term agg = constant or part agg

-- With these a further item of a sum begins.
abbrev pub sign_kinds : List Kind
sign_kinds = kinds.Plus ∷ kinds.Minus ∷ []

-- "+"
abbrev pub plus : Lang Lexeme Bool
plus = do
  word kinds.Plus
  gives false

-- "-"
abbrev pub minus : Lang Lexeme Bool
minus = do
  word kinds.Minus
  gives true

-- "+" | "-", and whether it is a minus
abbrev pub sign : Lang Lexeme Bool
sign = plus or minus

-- [ "-" ], and whether it is there
abbrev pub leading_minus : Lang Lexeme Bool
leading_minus = do
  negative ← optional (word kinds.Minus)
  gives (is_some negative)

-- [ "-" ] term
abbrev pub first_item : Lang Lexeme Term → Lang Lexeme SumItem
first_item term = do
  negative ← leading_minus
  of ← term
  gives (record { minus = negative; term = of })

-- ( "+" | "-" ) term
abbrev pub next_item : Lang Lexeme Term → Lang Lexeme SumItem
next_item term = do
  negative ← sign
  of ← term
  gives (record { minus = negative; term = of })

-- sum = [ "-" ] term { ( "+" | "-" ) term }
abbrev pub sum : Lang Lexeme Term → Lang Lexeme (List SumItem)
sum term = do
  first ← first_item term
  later ← many (next_item term)
  gives (first ∷ later)

-- ---- constraints and goals

-- "BETWEEN" signed "AND" signed
abbrev pub ends : Lang Lexeme (Scaled × Scaled)
ends = do
  word kinds.Between
  low ← signed
  word kinds.And
  high ← signed
  gives (low, high)

-- cop sum
abbrev pub compared : List SumItem → Lang Lexeme (List SumItem) → Lang Lexeme Conjunct
compared left sum = do
  op ← comparison
  right ← sum
  gives (Compare left op right)

-- "BETWEEN" signed "AND" signed
abbrev pub between : List SumItem → Lang Lexeme Conjunct
between sum = do
  both ← ends
  gives (Between sum both.0 both.1)

-- sum ( "BETWEEN" signed "AND" signed | cop sum )
abbrev pub on_sums : Lang Lexeme (List SumItem) → Lang Lexeme Conjunct
on_sums sum = do
  left ← sum
  between left or compared left sum

-- cop signed
abbrev pub average_compared : ColumnName → Lang Lexeme Conjunct
average_compared column = do
  op ← comparison
  limit ← signed
  gives (Avg column op limit)

-- "BETWEEN" signed "AND" signed
abbrev pub average_between : ColumnName → Lang Lexeme Conjunct
average_between column = do
  both ← ends
  gives (AvgBetween column both.0 both.1)

-- "AVG" "(" column ")" ( "BETWEEN" signed "AND" signed | cop signed )
abbrev pub on_average : Lang Lexeme Conjunct
on_average = do
  word kinds.Avg
  word kinds.LeftParen
  of ← column
  word kinds.RightParen
  average_between of or average_compared of

-- conj = sum cop sum | sum "BETWEEN" signed "AND" signed
--      | "AVG" "(" column ")" ( cop signed | "BETWEEN" signed "AND" signed )
abbrev pub conj : Lang Lexeme (List SumItem) → Lang Lexeme Conjunct
conj sum = on_average or on_sums sum

-- With these a goal begins.
abbrev pub goal_kinds : List Kind
goal_kinds = kinds.Minimize ∷ kinds.Maximize ∷ []

-- "MINIMIZE"
abbrev pub minimize : Lang Lexeme Bool
minimize = do
  word kinds.Minimize
  gives false

-- "MAXIMIZE"
abbrev pub maximize : Lang Lexeme Bool
maximize = do
  word kinds.Maximize
  gives true

-- "MINIMIZE" | "MAXIMIZE", and whether it is MAXIMIZE
abbrev pub sense : Lang Lexeme Bool
sense = minimize or maximize

-- ( "MINIMIZE" | "MAXIMIZE" ) goal, where goal = [ "-" ] part { ( "+" | "-" ) part }
abbrev pub goal : Lang Lexeme (List SumItem) → Lang Lexeme Goal
goal sum_of_parts = do
  upwards ← sense
  parts ← sum_of_parts
  gives (record { maximize = upwards; parts = parts })

-- ---- in a query, whose package has this name

abbrev pub constraint : List ℕ → Lang Lexeme Pred → Lang Lexeme Conjunct
constraint package_name pred = conj (sum (term (agg package_name pred)))

abbrev pub objective : List ℕ → Lang Lexeme Pred → Lang Lexeme Goal
objective package_name pred = goal (sum (part (agg package_name pred)))
