-- Private: the printer: which lexemes it writes.
-- The canonical lexemes of each tree.
use Rattle.std.specs.Prelude.{ℕ, Bool, true, false, if◌then◌else◌, List, [], ◌∷◌, ◌++◌, flat_map}
use Rattle.std.specs.Prelude.{Option, Some, None}
use Rattle.std.specs.Bool.{nat_lt}
use Rattle.pq_base.specs.declared.scaled.Scaled.{Scaled}
use Rattle.schema_types.specs.declared.Column.{Column}
use Rattle.schema_types.specs.declared.Kind.{Kind as ColumnKind}
use Rattle.schema_types.specs.declared.Kind.TheVariants as column_kinds
use Rattle.schema_types.specs.declared.Lit.{Lit}
use Rattle.schema_types.specs.declared.Lit.TheVariants as lits
use Rattle.paql_lexer.specs.declared.vocabulary.Kind.{Kind}
use Rattle.paql_lexer.specs.declared.vocabulary.Kind.TheVariants as kinds
use Rattle.paql_ast.specs.declared.conditions.ColumnName.{ColumnName}
use Rattle.paql_ast.specs.declared.conditions.CmpOp.{CmpOp}
use Rattle.paql_ast.specs.declared.conditions.CmpOp.TheVariants as ops
use Rattle.paql_ast.specs.declared.conditions.Operand.{Operand}
use Rattle.paql_ast.specs.declared.conditions.Operand.TheVariants as operands
use Rattle.paql_ast.specs.declared.conditions.Pred.{Pred}
use Rattle.paql_ast.specs.declared.conditions.Pred.TheOpen.{Pred-F}
use Rattle.paql_ast.specs.declared.conditions.Pred.TheFolds.{fold-Pred}
use Rattle.paql_ast.specs.declared.aggregates.Plain.{Plain}
use Rattle.paql_ast.specs.declared.aggregates.Plain.TheVariants as plains
use Rattle.paql_ast.specs.declared.aggregates.Agg.{Agg}
use Rattle.paql_ast.specs.declared.aggregates.Term.{Term}
use Rattle.paql_ast.specs.declared.aggregates.Term.TheVariants as terms
use Rattle.paql_ast.specs.declared.aggregates.SumItem.{SumItem}
use Rattle.paql_ast.specs.declared.queries.Conjunct.{Conjunct}
use Rattle.paql_ast.specs.declared.queries.Conjunct.TheVariants as conjuncts
use Rattle.paql_ast.specs.declared.queries.Goal.{Goal}
use Rattle.paql_ast.specs.declared.queries.Method.{Method}
use Rattle.paql_ast.specs.declared.queries.Method.TheVariants as methods
use Rattle.paql_ast.specs.declared.queries.Query.{Query}
use Rattle.paql_ast.specs.declared.statements.Statement.{Statement}
use Rattle.paql_ast.specs.declared.statements.Statement.TheVariants as statements
use Rattle.paql_grammar.specs.Lexemes.{Lexeme}
use Rattle.paql_printer.specs.Spellings.{spelled, name, quoted, number, whole, signed}

-- ---- lists, and what may be absent

-- The word, and then the lexemes.
abbrev pub behind : Kind → List Lexeme → List Lexeme
behind kind rest = spelled kind ∷ rest

-- The parts, with the word between them.
abbrev pub listed : {A : Type 0} → Kind → (A → List Lexeme) → List A → List Lexeme
listed kind print [] = []
listed kind print (first ∷ later) = print first ++ flat_map (λ item. behind kind (print item)) later

abbrev pub optional : {A : Type 0} → (A → List Lexeme) → Option A → List Lexeme
optional print None = []
optional print (Some value) = print value

-- ---- columns and literals

abbrev pub column : ColumnName → List Lexeme
column of =
    optional (λ prefix. name prefix ∷ (spelled kinds.Dot ∷ [])) of.prefix ++ name of.name ∷ []

abbrev pub lit : Lit → List Lexeme
lit (lits.Num value) = signed value
lit (lits.Text content) = quoted content ∷ []

abbrev pub operator : CmpOp → Kind
operator ops.Eq = kinds.Equal
operator ops.Ne = kinds.NotEqual
operator ops.Lt = kinds.Less
operator ops.Le = kinds.LessOrEqual
operator ops.Gt = kinds.Greater
operator ops.Ge = kinds.GreaterOrEqual

abbrev pub operand : Operand → List Lexeme
operand (operands.Lit value) = lit value
operand (operands.Column of) = column of

-- ---- conditions

-- The lexemes of a condition, and how tightly they hold together: 0 an OR, 1 an AND, 2 all others.
pub record Held : Type 0 where
  pub level : ℕ
  pub lexemes : List Lexeme

-- In brackets, unless it holds together as tightly as is wanted here.
abbrev pub at_least : ℕ → Held → List Lexeme
at_least level part =
    if nat_lt part.level level
    then behind kinds.LeftParen (part.lexemes ++ spelled kinds.RightParen ∷ []) else part.lexemes

abbrev pub held : Pred-F Held → Held
held (Pred-F.Or parts) = record { level = 0; lexemes = listed kinds.Or (at_least 1) parts }
held (Pred-F.And parts) = record { level = 1; lexemes = listed kinds.And (at_least 2) parts }
held (Pred-F.Not part) = record { level = 2; lexemes = behind kinds.Not (at_least 2 part) }
held (Pred-F.Compare of op right) =
    record { level = 2; lexemes = column of ++ behind (operator op) (operand right) }
held (Pred-F.Between of low high) = record {
  level = 2;
  lexemes = column of ++ behind kinds.Between (lit low ++ behind kinds.And (lit high));
}
held (Pred-F.In of list) = record {
  level = 2;
  lexemes = column of ++ behind kinds.In
      (behind kinds.LeftParen (listed kinds.Comma lit list ++ spelled kinds.RightParen ∷ []));
}

abbrev pub pred : Pred → List Lexeme
pred of = (fold-Pred Held held of).lexemes

-- ---- aggregates

-- What is in a COUNT: a conditional aggregate counts `*`, and any other names the package.
abbrev pub rows : Bool → List ℕ → Option (List ℕ) → List Lexeme
rows true package_name None = spelled kinds.Star ∷ []
rows false package_name None = name package_name ∷ behind kinds.Dot (spelled kinds.Star ∷ [])
rows inside package_name (Some of) = name of ∷ behind kinds.Dot (spelled kinds.Star ∷ [])

abbrev pub plain : Bool → List ℕ → Plain → List Lexeme
plain inside package_name (plains.Count of) =
    behind kinds.Count (behind kinds.LeftParen
    (rows inside package_name of ++ spelled kinds.RightParen ∷ []))
plain inside package_name (plains.Sum of) =
    behind kinds.Sum (behind kinds.LeftParen (column of ++ spelled kinds.RightParen ∷ []))

-- An aggregate of all copies, or of those that meet a condition.
abbrev pub only : List ℕ → Plain → Option (List ℕ × Pred) → List Lexeme
only package_name of None = plain false package_name of
only package_name of (Some from) =
    behind kinds.LeftParen
    (behind kinds.Select (plain true package_name of
    ++ behind kinds.From (name from.0
    ∷ behind kinds.Where (pred from.1 ++ spelled kinds.RightParen ∷ []))))

abbrev pub agg : List ℕ → Agg → List Lexeme
agg package_name of = only package_name of.plain of.only

-- ---- sums, constraints and goals

abbrev pub factor : Scaled → List Lexeme
factor times = number times ∷ (spelled kinds.Star ∷ [])

abbrev pub term : List ℕ → Term → List Lexeme
term package_name (terms.Number value) = number value ∷ []
term package_name (terms.Agg times of) = optional factor times ++ agg package_name of

abbrev pub first_item : List ℕ → SumItem → List Lexeme
first_item package_name item =
    if item.minus then behind kinds.Minus (term package_name item.term)
    else term package_name item.term

abbrev pub next_item : List ℕ → SumItem → List Lexeme
next_item package_name item =
    behind (if item.minus then kinds.Minus else kinds.Plus) (term package_name item.term)

abbrev pub sum : List ℕ → List SumItem → List Lexeme
sum package_name [] = []
sum package_name (first ∷ later) =
    first_item package_name first ++ flat_map (next_item package_name) later

-- BETWEEN and its two ends.
abbrev pub ends : Scaled → Scaled → List Lexeme
ends low high = behind kinds.Between (signed low ++ behind kinds.And (signed high))

abbrev pub average : ColumnName → List Lexeme
average of = behind kinds.Avg (behind kinds.LeftParen (column of ++ spelled kinds.RightParen ∷ []))

abbrev pub conjunct : List ℕ → Conjunct → List Lexeme
conjunct package_name (conjuncts.Compare left op right) =
    sum package_name left ++ behind (operator op) (sum package_name right)
conjunct package_name (conjuncts.Between items low high) = sum package_name items ++ ends low high
conjunct package_name (conjuncts.Avg of op limit) =
    average of ++ behind (operator op) (signed limit)
conjunct package_name (conjuncts.AvgBetween of low high) = average of ++ ends low high

abbrev pub goal : List ℕ → Goal → List Lexeme
goal package_name of =
    behind (if of.maximize then kinds.Maximize else kinds.Minimize) (sum package_name of.parts)

-- ---- queries

-- The package comes after AS, and the alias of the relation alone.
abbrev pub head : List ℕ → List ℕ → List Lexeme
head of package_name =
    behind kinds.Select (behind kinds.Package
    (behind kinds.LeftParen
    (name of ∷ behind kinds.RightParen (behind kinds.As (name package_name ∷ [])))))

abbrev pub relation : List ℕ → Option (List ℕ) → Option ℕ → Option ℕ → List Lexeme
relation table alias version repeat = behind kinds.From (name table ∷
    (optional (λ word. name word ∷ []) alias
    ++ (optional (λ number. behind kinds.At (behind kinds.Version (whole number ∷ []))) version
    ++ optional (λ number. behind kinds.Repeat (whole number ∷ [])) repeat)))

abbrev pub filter : Option Pred → List Lexeme
filter = optional (λ of. behind kinds.Where (pred of))

abbrev pub such_that : List ℕ → List Conjunct → List Lexeme
such_that package_name [] = []
such_that package_name (first ∷ later) =
    behind kinds.Such (behind kinds.That (listed kinds.And (conjunct package_name) (first ∷ later)))

abbrev pub method : Method → Kind
method methods.Direct = kinds.Direct
method methods.SketchRefine = kinds.SketchRefine

abbrev pub ending : List ℕ → Option Goal → Option Method → Option ℕ → List Lexeme
ending package_name best solved_by nodes =
    optional (goal package_name) best
    ++ (optional (λ word. behind kinds.Using (spelled (method word) ∷ [])) solved_by
    ++ optional (λ number. behind kinds.Budget (whole number ∷ [])) nodes)

abbrev pub query : Query → List Lexeme
query asked =
    head asked.of asked.«package»
    ++ (relation asked.table asked.alias asked.version asked.repeat
    ++ (filter asked.filter
    ++ (such_that asked.«package» asked.conjuncts
    ++ ending asked.«package» asked.goal asked.method asked.budget)))

-- ---- statements

abbrev pub column_kind : ColumnKind → List Lexeme
column_kind column_kinds.Int = spelled kinds.Int ∷ []
column_kind (column_kinds.Dec scale) =
    behind kinds.Dec (behind kinds.LeftParen (whole scale ∷ (spelled kinds.RightParen ∷ [])))
column_kind column_kinds.Text = spelled kinds.TextType ∷ []

abbrev pub defined_column : Column → List Lexeme
defined_column of = name of.name ∷ column_kind of.kind

abbrev pub tuple : List Lit → List Lexeme
tuple row = behind kinds.LeftParen (listed kinds.Comma lit row ++ spelled kinds.RightParen ∷ [])

abbrev pub assignment : List ℕ × Lit → List Lexeme
assignment set = name set.0 ∷ behind kinds.Equal (lit set.1)

abbrev pub statement : Statement → List Lexeme
statement (statements.Create table columns) =
    behind kinds.Create (behind kinds.Table
    (name table ∷ behind kinds.LeftParen (listed kinds.Comma defined_column columns
    ++ spelled kinds.RightParen ∷ [])))
statement (statements.Insert table rows) =
    behind kinds.Insert (behind kinds.Into
    (name table ∷ behind kinds.Values (listed kinds.Comma tuple rows)))
statement (statements.Load table bytes) =
    behind kinds.Load (name table ∷ behind kinds.Bytes (whole bytes ∷ []))
statement (statements.Update table sets filtered) =
    behind kinds.Update (name table
    ∷ behind kinds.Set (listed kinds.Comma assignment sets ++ filter filtered))
statement (statements.Delete table filtered) =
    behind kinds.Delete (behind kinds.From (name table ∷ filter filtered))
statement (statements.Partition table columns size radius) =
    behind kinds.Partition
    (name table ∷ behind kinds.On
    (behind kinds.LeftParen (listed kinds.Comma (λ of. name of ∷ []) columns
    ++ behind kinds.RightParen
    (behind kinds.Size (whole size ∷ behind kinds.Radius (number radius ∷ []))))))
statement (statements.Vacuum version) = behind kinds.Vacuum (whole version ∷ [])
statement statements.Begin = spelled kinds.Begin ∷ []
statement statements.Commit = spelled kinds.Commit ∷ []
statement statements.Rollback = spelled kinds.Rollback ∷ []
statement statements.Certificate = spelled kinds.Certificate ∷ []
statement (statements.Query asked) = query asked
