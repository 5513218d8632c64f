-- Canonical texts of small trees, as the definitions compute them.
use Rattle.std.proofs.Common.{◌≡◌, ◌++◌, ℕ, true, false, List, [], ◌∷◌, Some, None, codes, refl}
use Rattle.schema_types.specs.declared.Lit.TheVariants as lits
use Rattle.schema_types.specs.declared.Kind.TheVariants as column_kinds
use Rattle.paql_lexer.specs.Keywords.{word_kind}
use Rattle.paql_ast.specs.declared.conditions.ColumnName.{ColumnName}
use Rattle.paql_ast.specs.declared.conditions.CmpOp.TheVariants as ops
use Rattle.paql_ast.specs.declared.conditions.Operand.TheVariants as operands
use Rattle.paql_ast.specs.declared.aggregates.Plain.TheVariants as plains
use Rattle.paql_ast.specs.declared.aggregates.Agg.{Agg}
use Rattle.paql_ast.specs.declared.aggregates.Term.TheVariants as terms
use Rattle.paql_ast.specs.declared.aggregates.SumItem.{SumItem}
use Rattle.paql_ast.specs.declared.queries.Method.TheVariants as methods
use Rattle.paql_ast.specs.declared.queries.Query.{Query}
use Rattle.paql_printer.specs.Spacing.{spaced}
use Rattle.paql_printer.specs.Print as print
use Rattle.paql_printer.specs.Print.{Held, held}
use Rattle.paql_ast.specs.declared.conditions.Pred.TheOpen.{Pred-F}

abbrev bare : List ℕ → ColumnName
bare word = record { prefix = None; name = word }

abbrev counted : Agg
counted = record { plain = plains.Count None; only = None }

abbrev summed : List ℕ → Agg
summed word = record { plain = plains.Sum (record { prefix = Some (codes "P"); name = word }); only = None }

abbrev plus : Agg → SumItem
plus of = record { minus = false; term = terms.Agg None of }

abbrev minus : Agg → SumItem
minus of = record { minus = true; term = terms.Agg None of }

abbrev smallest : Query
smallest = record {
  of = codes "T";
  «package» = codes "P";
  table = codes "T";
  alias = None;
  version = None;
  repeat = None;
  filter = None;
  conjuncts = [];
  goal = None;
  method = None;
  budget = None;
}

prints_smallest : spaced (print.query smallest) ≡ codes "SELECT PACKAGE(T) AS P FROM T"
unfolding word_kind
prints_smallest = refl

prints_goal : spaced (print.query (record smallest { alias = Some (codes "R"); goal = Some (record { maximize = true; parts = minus counted ∷ (plus (summed (codes "v")) ∷ (minus counted ∷ [])) }); method = Some methods.Direct })) ≡ codes "SELECT PACKAGE(T) AS P FROM T R MAXIMIZE -COUNT(P.*) + SUM(P.v) - COUNT(P.*) USING DIRECT"
unfolding word_kind
prints_goal = refl

-- a keyword as a name is quoted
prints_keyword : spaced (print.query (record smallest { table = codes "sum" })) ≡ codes "SELECT PACKAGE(T) AS P FROM " ++ (34 ∷ (codes "sum" ++ (34 ∷ [])))
unfolding word_kind
prints_keyword = refl

abbrev is_text : List ℕ → List ℕ → Held
is_text column text = held (Pred-F.Compare (bare column) ops.Eq (operands.Lit (lits.Text text)))

-- an OR in an AND is in brackets, and so does an AND after NOT
prints_brackets : spaced (held (Pred-F.And (is_text (codes "a") (codes "x") ∷ (held (Pred-F.Or (is_text (codes "b") (codes "it's") ∷ (held (Pred-F.Not (held (Pred-F.And (is_text (codes "c") (codes "") ∷ (is_text (codes "d") (codes "y") ∷ []))))) ∷ []))) ∷ [])))).lexemes ≡ codes "a = 'x' AND (b = 'it''s' OR NOT (c = '' AND d = 'y'))"
unfolding word_kind
prints_brackets = refl

-- an AND in an OR doesn't, nor does a NOT after NOT
prints_no_brackets : spaced (held (Pred-F.Or (held (Pred-F.And (is_text (codes "a") (codes "x") ∷ (is_text (codes "b") (codes "y") ∷ []))) ∷ (held (Pred-F.Not (held (Pred-F.Not (is_text (codes "c") (codes "z"))))) ∷ [])))).lexemes ≡ codes "a = 'x' AND b = 'y' OR NOT NOT c = 'z'"
unfolding word_kind
prints_no_brackets = refl

-- a conditional aggregate counts `*`
prints_count : spaced (print.plain true (codes "P") (plains.Count None)) ≡ codes "COUNT(*)"
prints_count = refl

prints_columns : spaced (print.defined_column (record { name = codes "v"; kind = column_kinds.Int })) ≡ codes "v INT"
unfolding word_kind
prints_columns = refl
