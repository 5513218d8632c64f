-- The laws of literals, columns and conditions: each reading is exact for its line.
use Rattle.std.proofs.Common.{◌≡◌, ℕ, zero, suc, ◌≤◌, Bool, true, false, ◌||◌, List, [], ◌∷◌, Some, is_some, refl, sym, arith, inl, inr}
use Rattle.paql_lexer.specs.declared.vocabulary.Kind.{Kind}
use Rattle.paql_lexer.specs.declared.vocabulary.Kind.TheVariants as kinds
use Rattle.schema_types.specs.declared.Lit.TheVariants as lits
use Rattle.paql_ast.specs.declared.conditions.ColumnName.{ColumnName}
use Rattle.paql_ast.specs.declared.conditions.CmpOp.{CmpOp}
use Rattle.paql_ast.specs.declared.conditions.CmpOp.TheVariants as ops
use Rattle.paql_ast.specs.declared.conditions.Operand.TheVariants as operands
use Rattle.paql_ast.specs.declared.conditions.Pred.{Pred}
use Rattle.paql_ast.specs.declared.conditions.Pred.TheVariants as preds
use Rattle.formal_grammar.specs.Lang.{Lang, ◌>>=◌, ◌>>◌, ◌or◌, gives, optional, listed}
use Rattle.formal_grammar.specs.Parse.{Parser, and_then, pure, accept, this, maybe}
use Rattle.formal_grammar.specs.Exact.{Langs, none, Grows, Begins, IsRule, Starts, Joins, nested}
use Rattle.formal_grammar.proofs.Contexts.{not_none, both_ways}
use Rattle.formal_grammar.proofs.Sets.{within_same, within_none}
use Rattle.formal_grammar.proofs.Sequence.{rule_then, rule_seq}
use Rattle.formal_grammar.proofs.Single.{rule_gives, rule_shown}
use Rattle.formal_grammar.proofs.Joins.{starts_then, starts_or, starts_shown, starts_nested, starts_wider, starts_one_of, joins_gives, joins_starts}
use Rattle.formal_grammar.proofs.Choice.{rule_when, rule_optional}
use Rattle.formal_grammar.proofs.Repeats.{rule_listed}
use Rattle.formal_grammar.proofs.Nesting.{grows_nested, rule_nested, rule_floor}
use Rattle.formal_grammar.proofs.Widening.{rule_same, rule_wider}
use Rattle.formal_grammar.proofs.Growth.{Among, among_then, among_or, among_listed, begins_behind}
use Rattle.formal_grammar.proofs.Loops.{Shrinks, shrinks}
use Rattle.paql_grammar.specs.Lexemes.{Lexeme, is, among, opens, word, number}
use Rattle.paql_grammar.specs.Conditions.{signed, numeral, quoted, lit, suffix, column, column_of, comparison, comparison_in, comparison_of, operator, operator_in, operator_of, literal_operand, column_operand, operand, compared, ranged, listed_in, test, leaf, and_of, or_of, negation, both, joined, bracketed, single, pred}
use Rattle.paql_grammar.specs.ConditionReading as read
use Rattle.paql_grammar.specs.ConditionReading.{name_kinds, operator_kinds}
use Rattle.paql_grammar.proofs.KindSets.{sample, of_is, of_among, apart_word, apart_kinds, within_word, within_kinds}
use Rattle.paql_grammar.proofs.Firsts.{starts_behind, joins_behind, starts_skip}
use Rattle.paql_grammar.proofs.ConditionLoops.{both_is, joined_is, rule_as}
use Rattle.paql_grammar.proofs.LexemeRules.{word_rule, name_rule, content_rule, number_rule, starts_name, starts_content, starts_number}

-- ---- literals

-- the minus, if there is one
minus_rule : (n : ℕ) → IsRule opens (λ m. optional (word kinds.Minus)) (maybe (is kinds.Minus) (accept (this (is kinds.Minus)))) (is kinds.Minus) n
minus_rule n = rule_optional (is kinds.Minus) (is kinds.Minus) starts_one_of (within_same (is kinds.Minus)) (within_none (is kinds.Minus)) (word_rule kinds.Minus n)

-- no number begins with a minus
joins_number : (minus : Bool) → Joins (is kinds.Minus) (λ m. number minus) none
joins_number minus = joins_starts (apart_word kinds.Number (of_is kinds.Minus) refl) (starts_number minus)

-- [ "-" ] number
pub signed_rule : (n : ℕ) → IsRule opens (λ m. signed) read.signed none n
unfolding read.signed
signed_rule n = rule_then {q = λ minus m. number (is_some minus)} (λ minus. joins_number (is_some minus)) (minus_rule n) (λ minus. number_rule (is_some minus) n)

numeral_rule : (n : ℕ) → IsRule opens (λ m. numeral) read.numeral none n
unfolding read.numeral
numeral_rule n = rule_seq (signed_rule n) (λ a. rule_gives (lits.Num a) none n)

quoted_rule : (n : ℕ) → IsRule opens (λ m. quoted) read.quoted none n
unfolding read.quoted
quoted_rule n = rule_seq (content_rule n) (λ bytes. rule_gives (lits.Text bytes) none n)

-- The kinds that begin a number.
abbrev pub signed_kinds : List Kind
signed_kinds = kinds.Minus ∷ kinds.Number ∷ []

-- The kinds that begin a literal.
abbrev pub lit_kinds : List Kind
lit_kinds = kinds.Text ∷ kinds.Minus ∷ kinds.Number ∷ []

-- A number begins with a minus or with a number.
pub starts_signed : Starts (among signed_kinds) (λ m. signed)
starts_signed = starts_skip {q = λ o m. number (is_some o)} (within_word kinds.Minus (of_among signed_kinds) refl) (within_word kinds.Number (of_among signed_kinds) refl) starts_one_of (λ o. starts_number (is_some o))

starts_lit : Starts (among lit_kinds) (λ m. lit)
starts_lit = starts_or (starts_wider (within_word kinds.Text (of_among lit_kinds) refl) (starts_then starts_content)) (starts_wider (within_kinds signed_kinds lit_kinds refl) (starts_then starts_signed))

-- signed | text
pub lit_rule : (n : ℕ) → IsRule opens (λ m. lit) read.lit none n
unfolding read.lit
lit_rule n = rule_when (is kinds.Text) (starts_then starts_content) (joins_starts (apart_kinds signed_kinds (of_is kinds.Text) refl) (starts_then starts_signed)) (quoted_rule n) (numeral_rule n)

-- ---- columns

suffix_rule : (n : ℕ) → IsRule opens (λ m. suffix) read.suffix none n
unfolding read.suffix
suffix_rule n = rule_seq (word_rule kinds.Dot n) (λ _. name_rule n)

-- name [ "." name ]
pub column_rule : (n : ℕ) → IsRule opens (λ m. column) read.column (is kinds.Dot) n
unfolding read.column
column_rule n =
    rule_seq {q = λ first m. optional suffix >>= λ second. gives (column_of first second)} (name_rule n) (λ first.
    rule_then {q = λ second m. gives (column_of first second)} (λ second. joins_gives (is kinds.Dot) (column_of first second) (is kinds.Dot) (within_same (is kinds.Dot)))
    (rule_optional (is kinds.Dot) (is kinds.Dot) (starts_behind kinds.Dot) (within_same (is kinds.Dot)) (within_none (is kinds.Dot)) (suffix_rule n))
    (λ second. rule_gives (column_of first second) (is kinds.Dot) n))

pub starts_column : Starts (among name_kinds) (λ m. column)
starts_column = starts_then starts_name

-- ---- tests of a column

-- The kinds of comparisons.
abbrev pub comparison_kinds : List Kind
comparison_kinds = kinds.Equal ∷ kinds.Less ∷ kinds.LessOrEqual ∷ kinds.Greater ∷ kinds.GreaterOrEqual ∷ []

pub comparison_rule : (n : ℕ) → IsRule opens (λ m. comparison) read.comparison none n
unfolding read.comparison
comparison_rule n = rule_shown comparison_of (sample kinds.Equal) ops.Eq refl n

operator_rule : (n : ℕ) → IsRule opens (λ m. operator) read.operator none n
unfolding read.operator
operator_rule n = rule_shown operator_of (sample kinds.Equal) ops.Eq refl n

comparison_is : (kind : Kind) (bytes : List ℕ) (op : CmpOp) → comparison_in kind ≡ Some op → among comparison_kinds (record { kind = kind; bytes = bytes }) ≡ true
comparison_is kinds.Equal bytes op e = refl
comparison_is kinds.Less bytes op e = refl
comparison_is kinds.LessOrEqual bytes op e = refl
comparison_is kinds.Greater bytes op e = refl
comparison_is kinds.GreaterOrEqual bytes op e = refl
comparison_is kind bytes op e = absurd (not_none (sym e))

operator_is : (kind : Kind) (bytes : List ℕ) (op : CmpOp) → operator_in kind ≡ Some op → among operator_kinds (record { kind = kind; bytes = bytes }) ≡ true
operator_is kinds.Equal bytes op e = refl
operator_is kinds.NotEqual bytes op e = refl
operator_is kinds.Less bytes op e = refl
operator_is kinds.LessOrEqual bytes op e = refl
operator_is kinds.Greater bytes op e = refl
operator_is kinds.GreaterOrEqual bytes op e = refl
operator_is kind bytes op e = absurd (not_none (sym e))

pub starts_comparison : Starts (among comparison_kinds) (λ m. comparison)
starts_comparison = starts_shown {view = comparison_of} (λ t op e. comparison_is t.kind t.bytes op e)

starts_operator : Starts (among operator_kinds) (λ m. operator)
starts_operator = starts_shown {view = operator_of} (λ t op e. operator_is t.kind t.bytes op e)

-- what would go on with a column
abbrev dot : Lexeme → Bool
dot = is kinds.Dot

literal_operand_rule : (n : ℕ) → IsRule opens (λ m. literal_operand) read.literal_operand none n
unfolding read.literal_operand
literal_operand_rule n = rule_seq (lit_rule n) (λ a. rule_gives (operands.Lit a) none n)

column_operand_rule : (n : ℕ) → IsRule opens (λ m. column_operand) read.column_operand dot n
unfolding read.column_operand
column_operand_rule n = rule_then {q = λ of m. gives (operands.Column of)} (λ of. joins_gives dot (operands.Column of) dot (within_same dot)) (column_rule n) (λ of. rule_gives (operands.Column of) dot n)

-- lit | column
operand_rule : (n : ℕ) → IsRule opens (λ m. operand) read.operand dot n
unfolding read.operand
operand_rule n = rule_when (among name_kinds) (starts_then starts_column) (joins_starts (apart_kinds lit_kinds (of_among name_kinds) refl) (starts_then starts_lit)) (column_operand_rule n) (rule_wider dot (within_none dot) (literal_operand_rule n))

-- operator operand
compared_rule : (of : ColumnName) (n : ℕ) → IsRule opens (λ m. compared of) (read.compared of) dot n
unfolding read.compared
compared_rule of n =
    rule_seq {q = λ op m. operand >>= λ right. gives (preds.Compare of op right)} (operator_rule n) (λ op.
    rule_then {q = λ right m. gives (preds.Compare of op right)} (λ right. joins_gives dot (preds.Compare of op right) dot (within_same dot)) (operand_rule n) (λ right. rule_gives (preds.Compare of op right) dot n))

-- "BETWEEN" lit "AND" lit
ranged_rule : (of : ColumnName) (n : ℕ) → IsRule opens (λ m. ranged of) (read.ranged of) none n
unfolding read.ranged
ranged_rule of n =
    rule_seq (word_rule kinds.Between n) (λ _.
    rule_seq (lit_rule n) (λ low.
    rule_seq (word_rule kinds.And n) (λ _.
    rule_seq (lit_rule n) (λ high. rule_gives (preds.Between of low high) none n))))

-- lit { "," lit }
pub lits_rule : (n : ℕ) → IsRule opens (λ m. listed (word kinds.Comma) lit) read.lits_in (is kinds.Comma) n
unfolding read.lits_in
lits_rule n = rule_listed (is kinds.Comma) (is kinds.Comma) starts_one_of (λ t _. refl) (within_same (is kinds.Comma)) (within_none (is kinds.Comma)) (word_rule kinds.Comma n) (lit_rule n)

-- "IN" "(" lit { "," lit } ")"
listed_in_rule : (of : ColumnName) (n : ℕ) → IsRule opens (λ m. listed_in of) (read.listed_in of) none n
unfolding read.listed_in
listed_in_rule of n =
    rule_seq (word_rule kinds.In n) (λ _.
    rule_seq (word_rule kinds.LeftParen n) (λ _.
    rule_then {q = λ list m. word kinds.RightParen >> gives (preds.In of list)}
    (λ list. joins_behind kinds.RightParen (of_is kinds.Comma) refl)
    (lits_rule n)
    (λ list. rule_seq (word_rule kinds.RightParen n) (λ _. rule_gives (preds.In of list) none n))))

-- The kinds that begin a test.
abbrev test_kinds : List Kind
test_kinds = kinds.Between ∷ kinds.In ∷ operator_kinds

starts_test : (of : ColumnName) → Starts (among test_kinds) (λ m. test of)
starts_test of =
    starts_or (starts_wider (within_kinds operator_kinds test_kinds refl) (starts_then starts_operator)) (starts_or
    (starts_wider (within_word kinds.Between (of_among test_kinds) refl) (starts_behind kinds.Between))
    (starts_wider (within_word kinds.In (of_among test_kinds) refl) (starts_behind kinds.In)))

-- BETWEEN or IN begins with no operator
joins_others : (of : ColumnName) → Joins (among operator_kinds) (λ m. ranged of or listed_in of) dot
joins_others of = joins_starts (apart_kinds (kinds.Between ∷ kinds.In ∷ []) (of_among operator_kinds) refl) (starts_or
    (starts_wider (within_word kinds.Between (of_among (kinds.Between ∷ kinds.In ∷ [])) refl) (starts_behind kinds.Between))
    (starts_wider (within_word kinds.In (of_among (kinds.Between ∷ kinds.In ∷ [])) refl) (starts_behind kinds.In)))

-- op ( lit | column ) | "BETWEEN" lit "AND" lit | "IN" "(" lit { "," lit } ")"
test_rule : (of : ColumnName) (n : ℕ) → IsRule opens (λ m. test of) (read.test of) dot n
unfolding read.test
test_rule of n =
    rule_when (among operator_kinds) (starts_then starts_operator) (joins_others of) (compared_rule of n)
    (rule_wider dot (within_none dot) (rule_when (is kinds.Between) (starts_behind kinds.Between) (joins_behind kinds.In (of_is kinds.Between) refl) (ranged_rule of n) (listed_in_rule of n)))

-- column test
leaf_rule : (n : ℕ) → IsRule opens (λ m. leaf) read.leaf dot n
unfolding read.leaf
leaf_rule n = rule_then {q = λ of m. test of} (λ of. joins_starts (apart_kinds test_kinds (of_is kinds.Dot) refl) (starts_test of)) (column_rule n) (λ of. test_rule of n)

starts_leaf : Starts (among name_kinds) (λ m. leaf)
starts_leaf = starts_then starts_column

-- a leaf begins with nothing that opens
joins_leaf : Joins opens (λ m. leaf) dot
joins_leaf = joins_starts (apart_kinds name_kinds (of_among (kinds.LeftParen ∷ kinds.Not ∷ [])) refl) starts_leaf

-- ---- conditions

-- what would go on with the parts of an AND, and with those of an OR
abbrev and_on : List Kind
and_on = kinds.And ∷ kinds.Dot ∷ []

abbrev pub or_on : List Kind
or_on = kinds.Or ∷ kinds.And ∷ kinds.Dot ∷ []

-- "NOT" single
negation_rule : {L : Langs Lexeme Pred} {P : Parser Lexeme Pred} {n : ℕ} → IsRule opens L P dot n → IsRule opens (λ m. negation (L m)) (read.negation P) dot n
unfolding read.negation
negation_rule {L = L} {n = n} x =
    rule_seq {q = λ _ m. L m >>= λ part. gives (preds.Not part)} (word_rule kinds.Not n) (λ _.
    rule_then {q = λ part m. gives (preds.Not part)} (λ part. joins_gives dot (preds.Not part) dot (within_same dot)) x (λ part. rule_gives (preds.Not part) dot n))

-- single { "AND" single }
both_rule : {L : Langs Lexeme Pred} {P : Parser Lexeme Pred} {n : ℕ} → IsRule opens L P dot n → IsRule opens (λ m. both (L m)) (read.both P) (among and_on) n
both_rule {P = P} {n = n} x = rule_as (read.both P) (both_is P) (
    rule_then {q = λ parts m. gives (and_of parts)} (λ parts. joins_gives (among and_on) (and_of parts) (among and_on) (within_same (among and_on)))
    (rule_listed (is kinds.And) (among and_on) starts_one_of (apart_word kinds.And (of_is kinds.Dot) refl) (within_word kinds.And (of_among and_on) refl) (within_word kinds.Dot (of_among and_on) refl) (word_rule kinds.And n) x)
    (λ parts. rule_gives (and_of parts) (among and_on) n))

-- both { "OR" both }
joined_rule : {L : Langs Lexeme Pred} {P : Parser Lexeme Pred} {n : ℕ} → IsRule opens (λ m. both (L m)) P (among and_on) n → IsRule opens (λ m. joined (L m)) (read.joined P) (among or_on) n
joined_rule {P = P} {n = n} x = rule_as (read.joined P) (joined_is P) (
    rule_then {q = λ parts m. gives (or_of parts)} (λ parts. joins_gives (among or_on) (or_of parts) (among or_on) (within_same (among or_on)))
    (rule_listed (is kinds.Or) (among or_on) starts_one_of (apart_word kinds.Or (of_among and_on) refl) (within_word kinds.Or (of_among or_on) refl) (within_kinds and_on or_on refl) (word_rule kinds.Or n) x)
    (λ parts. rule_gives (or_of parts) (among or_on) n))

-- what comes after an opening bracket
abbrev inner : Lang Lexeme Pred → Lang Lexeme Pred
inner pred = pred >>= λ t. word kinds.RightParen >> gives t

inner_rule : {L : Langs Lexeme Pred} {P : Parser Lexeme Pred} {n : ℕ} → IsRule opens L P (among or_on) n → IsRule opens (λ m. inner (L m)) (λ s. and_then (P s) (λ t u. and_then (accept (this (is kinds.RightParen)) u) (λ _. pure t))) none n
inner_rule {n = n} x =
    rule_then {q = λ t m. word kinds.RightParen >> gives t} (λ t. joins_behind kinds.RightParen (of_among or_on) refl) x
    (λ t. rule_seq (word_rule kinds.RightParen n) (λ _. rule_gives t none n))

-- "(" pred ")"
bracketed_rule : {L : Langs Lexeme Pred} {P : Parser Lexeme Pred} {n : ℕ} → IsRule opens L P (among or_on) n → IsRule opens (λ m. bracketed (L m)) (read.bracketed P) none n
unfolding read.bracketed
bracketed_rule {n = n} x = rule_seq {q = λ _ m. _} (word_rule kinds.LeftParen n) (λ _. inner_rule x)

-- more parts make more conditions
among_joined : {p q : Lang Lexeme Pred} → Among p q → Among (joined p) (joined q)
among_joined more = among_then (among_listed (word kinds.Or) (among_then (among_listed (word kinds.And) more) (λ parts w t u. u))) (λ parts w t u. u)

among_bracketed : {p q : Lang Lexeme Pred} → Among p q → Among (bracketed p) (bracketed q)
among_bracketed {p = p} {q = q} more = among_then {p = word kinds.LeftParen} {q = λ _. inner p} {q' = λ _. inner q} (λ w u t. t) (λ _. among_then more (λ t w u v. v))

among_negation : {p q : Lang Lexeme Pred} → Among p q → Among (negation p) (negation q)
among_negation {p = p} {q = q} more = among_then {p = word kinds.Not} {q = λ _. p >>= λ t. gives (preds.Not t)} {q' = λ _. q >>= λ t. gives (preds.Not t)} (λ w u t. t) (λ _. among_then more (λ t w u v. v))

-- ---- the line that calls itself

-- what begins with what opens, of the parts inside
abbrev opened : Lang Lexeme Pred → Lang Lexeme Pred
opened part = negation part or bracketed (joined part)

opened_rule : {L : Langs Lexeme Pred} {P : Parser Lexeme Pred} {n : ℕ} → IsRule opens L P dot n → IsRule opens (λ m. opened (L m)) (read.opened P) dot n
unfolding read.opened
opened_rule x = rule_when (is kinds.Not) (starts_behind kinds.Not) (joins_behind kinds.LeftParen (of_is kinds.Not) refl) (negation_rule x) (rule_wider dot (within_none dot) (bracketed_rule (joined_rule (both_rule x))))

among_opened : {p q : Lang Lexeme Pred} → Among p q → Among (opened p) (opened q)
among_opened more = among_or (among_negation more) (among_bracketed (among_joined more))

-- what is opened at one level less
abbrev deeper : Langs Lexeme Pred
deeper = nested (λ m. opened (single m))

-- a part is what is opened, or a leaf
to_single : (m : ℕ) (w : List Lexeme) (t : Pred) → (deeper m or leaf) w t → single m w t
unfolding single
to_single zero w t (inl u) = absurd u
to_single zero w t (inr u) = u
to_single (suc m) w t u = u

-- and nothing else
from_single : (m : ℕ) (w : List Lexeme) (t : Pred) → single m w t → (deeper m or leaf) w t
unfolding single
from_single zero w t u = inr u
from_single (suc m) w t u = u

-- more depth allows more parts
single_grows : (m k : ℕ) (w : List Lexeme) (t : Pred) → m ≤ k → single m w t → single k w t
unfolding single
single_grows zero zero w t le u = u
single_grows zero (suc k) w t le u = inr u
single_grows (suc m) zero w t le u = absurd (omega (arith, le))
single_grows (suc m) (suc k) w t le u = among_or {q = leaf} {q' = leaf} (among_opened (λ v s x. single_grows m k v s (omega (arith, le)) x)) (λ v s x. x) w t u

deeper_grows : Grows deeper
deeper_grows = grows_nested (λ m. opened (single m)) (λ m k w t le u. among_opened (λ v s x. single_grows m k v s le x) w t u)

-- what is opened begins with what opens
starts_deeper : Starts opens deeper
starts_deeper = starts_nested (starts_or (starts_wider (within_word kinds.Not (of_among (kinds.LeftParen ∷ kinds.Not ∷ [])) refl) (starts_behind kinds.Not)) (starts_wider (within_word kinds.LeftParen (of_among (kinds.LeftParen ∷ kinds.Not ∷ [])) refl) (starts_behind kinds.LeftParen)))

-- a NOT begins a text of one level
not_opens : (t : Lexeme) → is kinds.Not t ≡ true → Begins deeper 1 (t ∷ [])
unfolding single
not_opens t e =
    let h = (rule_then {q = λ part m. gives (preds.Not part)} (λ part. joins_gives dot (preds.Not part) dot (within_same dot)) (leaf_rule 0) (λ part. rule_gives (preds.Not part) dot 0)).has 0 (omega arith) in
    let b = begins_behind (word kinds.Not) t tt (t, refl, e) h in
    record { more = b.more; value = b.value; text = inl b.text }

-- so does a bracket
bracket_opens : (t : Lexeme) → is kinds.LeftParen t ≡ true → Begins deeper 1 (t ∷ [])
unfolding single
bracket_opens t e =
    let h = (inner_rule (joined_rule (both_rule (leaf_rule 0)))).has 0 (omega arith) in
    let b = begins_behind (word kinds.LeftParen) t tt (t, refl, e) h in
    record { more = b.more; value = b.value; text = inr b.text }

one_of_two : {A : Type 0} (b c : Bool) → (b ≡ true → A) → (c ≡ true → A) → (b || (c || false)) ≡ true → A
one_of_two true c left right e = left refl
one_of_two false true left right e = right refl
one_of_two false false left right e = absurd (both_ways e refl)

token_opens : (t : Lexeme) → opens t ≡ true → Begins deeper 1 (t ∷ [])
token_opens t e = one_of_two (is kinds.LeftParen t) (is kinds.Not t) (bracket_opens t) (not_opens t) e

-- "NOT" single | "(" pred ")" | column test, with n brackets and NOTs still to open
pub single_rule : (n : ℕ) → IsRule opens single (read.single n) dot n
unfolding read.single
single_rule zero = rule_same single to_single from_single (rule_floor deeper opens (λ t e. e) deeper_grows (λ w t u. u) token_opens starts_deeper joins_leaf (leaf_rule 0))
single_rule (suc n) = rule_same single to_single from_single (rule_when opens starts_deeper joins_leaf (rule_nested (opened_rule (single_rule n))) (leaf_rule (suc n)))

-- The parser of conditions is exact, whatever the depth.
pub pred_rule : (n : ℕ) → IsRule opens (λ m. pred m) (read.pred n) (among or_on) n
pred_rule n = joined_rule (both_rule (single_rule n))

-- A part after an AND or an OR takes a token, and so does a literal after a comma.
pub and_shrinks : (n : ℕ) → Shrinks (read.next_and (read.single n))
and_shrinks n = shrinks {f = is kinds.And} (starts_behind kinds.And) (rule_seq (word_rule kinds.And n) (λ _. single_rule n))

pub or_shrinks : (n : ℕ) → Shrinks (read.next_or (read.both (read.single n)))
or_shrinks n = shrinks {f = is kinds.Or} (starts_behind kinds.Or) (rule_seq (word_rule kinds.Or n) (λ _. both_rule (single_rule n)))

pub lit_shrinks : Shrinks read.next_lit
lit_shrinks = shrinks {f = is kinds.Comma} (starts_behind kinds.Comma) (rule_seq (word_rule kinds.Comma 0) (λ _. lit_rule 0))
