-- The laws of aggregates, sums, constraints and goals: each reading is exact for its line.
use Rattle.std.proofs.Common.{◌≡◌, subst, ℕ, Bool, true, false, List, [], ◌∷◌, ◌++◌, Option, Some, None, refl, sym, ap, ◌∙◌, inl, inr, is_some, append_assoc, append-nil}
use Rattle.pq_base.specs.declared.scaled.Scaled.{Scaled}
use Rattle.paql_lexer.specs.declared.vocabulary.Kind.{Kind}
use Rattle.paql_lexer.specs.declared.vocabulary.Kind.TheVariants as kinds
use Rattle.paql_ast.specs.declared.conditions.Pred.{Pred}
use Rattle.paql_ast.specs.declared.conditions.ColumnName.{ColumnName}
use Rattle.paql_ast.specs.declared.aggregates.Plain.{Plain}
use Rattle.paql_ast.specs.declared.aggregates.Plain.TheVariants.{Count, Sum}
use Rattle.paql_ast.specs.declared.aggregates.Agg.{Agg}
use Rattle.paql_ast.specs.declared.aggregates.Term.{Term}
use Rattle.paql_ast.specs.declared.aggregates.Term.TheVariants as terms
use Rattle.paql_ast.specs.declared.aggregates.SumItem.{SumItem}
use Rattle.paql_ast.specs.declared.queries.Conjunct.TheVariants.{Compare, Between, Avg, AvgBetween}
use Rattle.paql_ast.specs.declared.queries.Goal.{Goal}
use Rattle.formal_grammar.specs.Lang.{◌>>=◌, ◌>>◌, ◌or◌, gives, optional, many}
use Rattle.formal_grammar.specs.Parse.{Parser, and_then, pure, accept, this}
use Rattle.formal_grammar.specs.Exact.{Langs, none, either, Apart, IsRule, Starts}
use Rattle.formal_grammar.proofs.Sets.{within_same, within_none, within_left, within_right}
use Rattle.formal_grammar.proofs.Sequence.{rule_then, rule_seq}
use Rattle.formal_grammar.proofs.Single.{rule_gives}
use Rattle.formal_grammar.proofs.Joins.{starts_then, starts_or, starts_one_of, starts_wider, starts_among, joins_gives, joins_starts, joins_then, joins_or, joins_many}
use Rattle.formal_grammar.proofs.Choice.{rule_when, rule_optional}
use Rattle.formal_grammar.proofs.Repeats.{rule_many}
use Rattle.formal_grammar.proofs.Loops.{Shrinks, shrinks}
use Rattle.formal_grammar.proofs.Widening.{rule_same}
use Rattle.paql_grammar.specs.Lexemes.{Lexeme, is, among, opens, word, number}
use Rattle.paql_grammar.specs.Aggregates as grammar
use Rattle.paql_grammar.specs.Aggregates.{counted, sign_kinds, goal_kinds}
use Rattle.paql_grammar.specs.AggregateReading as read
use Rattle.paql_grammar.proofs.KindSets.{subset, of_is, of_among, apart_word, apart_kinds, within_word, within_kinds, starts_word}
use Rattle.paql_grammar.proofs.LexemeRules.{word_rule, name_rule, number_rule, name_kinds, starts_name, starts_number}
use Rattle.paql_grammar.proofs.ConditionRules.{comparison_rule, signed_rule, column_rule, comparison_kinds, starts_comparison}
use Rattle.paql_grammar.proofs.Firsts.{starts_behind, joins_behind, starts_skip}

-- ---- aggregates

-- "*"
all_rows_rule : (n : ℕ) → IsRule opens (λ m. grammar.all_rows) read.all_rows none n
unfolding read.all_rows
all_rows_rule n = rule_seq (word_rule kinds.Star n) (λ _. rule_gives (Count None) none n)

-- name "." "*"
rows_of_rule : (package_name : List ℕ) (n : ℕ) → IsRule opens (λ m. grammar.rows_of package_name) (read.rows_of package_name) none n
unfolding read.rows_of
rows_of_rule package_name n =
    rule_seq (name_rule n) (λ of.
    rule_seq (word_rule kinds.Dot n) (λ _.
    rule_seq (word_rule kinds.Star n) (λ _.
    rule_gives (Count (counted package_name of)) none n)))

-- "*" | name "." "*"
rows_rule : (package_name : List ℕ) (n : ℕ) → IsRule opens (λ m. grammar.all_rows or grammar.rows_of package_name) (read.rows package_name) none n
unfolding read.rows
rows_rule package_name n = rule_when (is kinds.Star) (starts_behind kinds.Star) (joins_starts (apart_kinds name_kinds (of_is kinds.Star) refl) (starts_then starts_name)) (all_rows_rule n) (rows_of_rule package_name n)

-- "COUNT" "(" ( "*" | name "." "*" ) ")"
count_rule : (package_name : List ℕ) (n : ℕ) → IsRule opens (λ m. grammar.count package_name) (read.count package_name) none n
unfolding read.count
count_rule package_name n =
    rule_seq (word_rule kinds.Count n) (λ _.
    rule_seq (word_rule kinds.LeftParen n) (λ _.
    rule_seq (rows_rule package_name n) (λ rows.
    rule_seq (word_rule kinds.RightParen n) (λ _.
    rule_gives rows none n))))

-- "SUM" "(" column ")"
column_sum_rule : (n : ℕ) → IsRule opens (λ m. grammar.column_sum) read.column_sum none n
unfolding read.column_sum
column_sum_rule n =
    rule_seq (word_rule kinds.Sum n) (λ _.
    rule_seq (word_rule kinds.LeftParen n) (λ _.
    rule_then (λ of. joins_behind kinds.RightParen (of_is kinds.Dot) refl) (column_rule n) (λ of.
    rule_seq (word_rule kinds.RightParen n) (λ _.
    rule_gives (Sum of) none n))))

-- plain
plain_rule : (package_name : List ℕ) (n : ℕ) → IsRule opens (λ m. grammar.plain package_name) (read.plain package_name) none n
unfolding read.plain
plain_rule package_name n = rule_when (is kinds.Count) (starts_behind kinds.Count) (joins_behind kinds.Sum (of_is kinds.Count) refl) (count_rule package_name n) (column_sum_rule n)

-- plain, as an aggregate
unconditional_rule : (package_name : List ℕ) (n : ℕ) → IsRule opens (λ m. grammar.unconditional package_name) (read.unconditional package_name) none n
unfolding read.unconditional
unconditional_rule package_name n = rule_seq (plain_rule package_name n) (λ of. rule_gives (record { plain = of; only = None }) none n)

-- an aggregate over the copies that meet a condition
abbrev only : Plain → List ℕ → Pred → Agg
only of from filter = record { plain = of; only = Some (from, filter) }

-- pred ")"
filter_rule : {L : Langs Lexeme Pred} {P : Parser Lexeme Pred} {ext : Lexeme → Bool} {n : ℕ} (of : Plain) (from : List ℕ) → Apart (is kinds.RightParen) ext → IsRule opens L P ext n → IsRule opens (λ m. L m >>= λ filter. word kinds.RightParen >> gives (only of from filter)) (λ s. and_then (P s) (λ filter u. and_then (accept (this (is kinds.RightParen)) u) (λ _. pure (only of from filter)))) none n
filter_rule {n = n} of from closes x =
    rule_then {q = λ filter m. word kinds.RightParen >> gives (only of from filter)} (λ filter. joins_starts closes (starts_behind kinds.RightParen)) x (λ filter.
    rule_seq (word_rule kinds.RightParen n) (λ _.
    rule_gives (only of from filter) none n))

-- "(" "SELECT" plain "FROM" name "WHERE" pred ")"
conditional_rule : {L : Langs Lexeme Pred} {P : Parser Lexeme Pred} {ext : Lexeme → Bool} {n : ℕ} (package_name : List ℕ) → Apart (is kinds.RightParen) ext → IsRule opens L P ext n → IsRule opens (λ m. grammar.conditional package_name (L m)) (read.conditional package_name P) none n
unfolding read.conditional
conditional_rule {n = n} package_name closes x =
    rule_seq {q = λ _ m. _} (word_rule kinds.LeftParen n) (λ _.
    rule_seq {q = λ _ m. _} (word_rule kinds.Select n) (λ _.
    rule_seq {q = λ of m. _} (plain_rule package_name n) (λ of.
    rule_seq {q = λ _ m. _} (word_rule kinds.From n) (λ _.
    rule_seq {q = λ from m. _} (name_rule n) (λ from.
    rule_seq {q = λ _ m. _} (word_rule kinds.Where n) (λ _.
    filter_rule of from closes x))))))

-- the kinds with which COUNT and SUM begin, and aggregates
abbrev plain_kinds : List Kind
plain_kinds = kinds.Count ∷ kinds.Sum ∷ []

abbrev pub agg_kinds : List Kind
agg_kinds = kinds.LeftParen ∷ plain_kinds

-- plain begins with its word
starts_plain : (kind_list : List Kind) → subset plain_kinds kind_list ≡ true → (package_name : List ℕ) → Starts (among kind_list) (λ m. grammar.unconditional package_name)
starts_plain kind_list within package_name =
    starts_wider (within_kinds plain_kinds kind_list within)
    (starts_then (starts_or {p = λ m. grammar.count package_name} {q = λ m. grammar.column_sum}
    (starts_then (starts_word kinds.Count (of_among plain_kinds) refl))
    (starts_then (starts_word kinds.Sum (of_among plain_kinds) refl))))

-- An aggregate begins with its word or with a bracket.
pub starts_agg : (package_name : List ℕ) (L : Langs Lexeme Pred) → Starts (among agg_kinds) (λ m. grammar.agg package_name (L m))
starts_agg package_name L =
    starts_or {p = λ m. grammar.conditional package_name (L m)} {q = λ m. grammar.unconditional package_name}
    (starts_then (starts_word kinds.LeftParen (of_among agg_kinds) refl))
    (starts_plain agg_kinds refl package_name)

-- "(" "SELECT" plain "FROM" name "WHERE" pred ")" | plain
pub agg_rule : {L : Langs Lexeme Pred} {P : Parser Lexeme Pred} {ext : Lexeme → Bool} {n : ℕ} (package_name : List ℕ) → Apart (is kinds.RightParen) ext → IsRule opens L P ext n → IsRule opens (λ m. grammar.agg package_name (L m)) (read.agg package_name P) none n
unfolding read.agg
agg_rule {L = L} {n = n} package_name closes x =
    rule_when {p = λ m. grammar.conditional package_name (L m)} {q = λ m. grammar.unconditional package_name} (is kinds.LeftParen)
    (starts_behind kinds.LeftParen)
    (joins_starts (apart_kinds plain_kinds (of_is kinds.LeftParen) refl) (starts_plain plain_kinds refl package_name))
    (conditional_rule package_name closes x) (unconditional_rule package_name n)

-- ---- terms

-- number "*"
factor_rule : (n : ℕ) → IsRule opens (λ m. grammar.factor) read.factor none n
unfolding read.factor
factor_rule n =
    rule_seq (number_rule false n) (λ times.
    rule_seq (word_rule kinds.Star n) (λ _.
    rule_gives times none n))

-- a factor begins with a number
starts_factor : Starts (is kinds.Number) (λ m. grammar.factor)
starts_factor = starts_then (starts_number false)

-- [ number "*" ] agg
pub part_rule : {L : Langs Lexeme Agg} {P : Parser Lexeme Agg} {n : ℕ} → Starts (among agg_kinds) L → IsRule opens L P none n → IsRule opens (λ m. grammar.part (L m)) (read.part P) none n
unfolding read.part read.optional_factor
part_rule {L = L} {n = n} starts x =
    rule_then {q = λ times m. L m >>= λ of. gives (terms.Agg times of)}
    (λ times. joins_starts (apart_kinds agg_kinds (of_is kinds.Number) refl) (starts_then starts))
    (rule_optional (is kinds.Number) (is kinds.Number) starts_factor (within_same (is kinds.Number)) (within_none (is kinds.Number)) (factor_rule n))
    (λ times. rule_seq {q = λ of m. gives (terms.Agg times of)} x (λ of. rule_gives (terms.Agg times of) none n))

-- a term as it is read, by its first token, and after a number by the next one
module _ (L : Langs Lexeme Agg) where
  -- after a number: "*" agg, or nothing
  abbrev behind_number : Scaled → Langs Lexeme Term
  behind_number value m = (word kinds.Star >> (L m >>= λ of. gives (terms.Agg (Some value) of))) or gives (terms.Number value)

  -- number [ "*" agg ]
  abbrev from_number : Langs Lexeme Term
  from_number m = number false >>= λ value. behind_number value m

  -- agg
  abbrev single : Langs Lexeme Term
  single m = L m >>= λ of. gives (terms.Agg None of)

  -- what is read is a term
  to_term : (m : ℕ) (w : List Lexeme) (t : Term) → (from_number m or single m) w t → grammar.term (L m) w t
  to_term m w t (inl x) = behind m w t x.front x.back x.value x.first x.second x.whole
    where
      behind : (m : ℕ) (w : List Lexeme) (t : Term) (front back : List Lexeme) (value : Scaled) → number false front value → behind_number value m back t → w ≡ front ++ back → grammar.term (L m) w t
      behind m w t front back value first (inl y) whole = inr (record {
        front = front ++ y.front;
        back = y.back;
        value = Some value;
        first = inl (record {
          front = front ++ y.front;
          back = [];
          value = value;
          first = record { front = front; back = y.front; value = value; first = first; second = record { front = y.front; back = []; value = tt; first = y.first; second = (refl, refl); whole = sym (append-nil y.front) }; whole = refl };
          second = (refl, refl);
          whole = sym (append-nil (front ++ y.front));
        });
        second = y.second;
        whole = whole ∙ ap (λ z. front ++ z) y.whole ∙ sym (append_assoc front y.front y.back);
      })
      behind m w t front back value first (inr y) whole = inl (record { front = front; back = back; value = value; first = first; second = y; whole = whole })
  to_term m w t (inr x) = inr (record { front = []; back = w; value = None; first = inr (refl, refl); second = x; whole = refl })

  -- an aggregate after a factor or none, as a term
  abbrev times_agg : Option Scaled → Langs Lexeme Term
  times_agg times m = L m >>= λ of. gives (terms.Agg times of)

  -- and a term is read
  from_term : (m : ℕ) (w : List Lexeme) (t : Term) → grammar.term (L m) w t → (from_number m or single m) w t
  from_term m w t (inl x) = inl (record { front = x.front; back = x.back; value = x.value; first = x.first; second = inr x.second; whole = x.whole })
  from_term m w t (inr x) = behind m w t x.front x.back x.value x.first x.second x.whole
    where
      behind : (m : ℕ) (w : List Lexeme) (t : Term) (front back : List Lexeme) (times : Option Scaled) → optional grammar.factor front times → times_agg times m back t → w ≡ front ++ back → (from_number m or single m) w t
      behind m w t front back times (inl y) x whole =
          let f = y.first in
          let g = f.second in
          let front_is = y.whole ∙ ap (λ z. y.front ++ z) y.second.0 ∙ append-nil y.front ∙ f.whole ∙ ap (λ z. f.front ++ z) (g.whole ∙ ap (λ z. g.front ++ z) g.second.0 ∙ append-nil g.front) in
          inl (record {
            front = f.front;
            back = g.front ++ back;
            value = f.value;
            first = f.first;
            second = inl (record { front = g.front; back = back; value = g.value; first = g.first; second = subst (λ z. times_agg z m back t) (y.second.1 ∙ ap (λ z. Some z) g.second.1) x; whole = refl });
            whole = whole ∙ ap (λ z. z ++ back) front_is ∙ append_assoc f.front g.front back;
          })
      behind m w t front back times (inr y) x whole =
          inr (subst (λ z. single m z t) (sym (whole ∙ ap (λ z. z ++ back) y.0)) (subst (λ z. times_agg z m back t) y.1 x))

-- number | [ number "*" ] agg
pub term_rule : {L : Langs Lexeme Agg} {P : Parser Lexeme Agg} {n : ℕ} → Starts (among agg_kinds) L → IsRule opens L P none n → IsRule opens (λ m. grammar.term (L m)) (read.term P) (is kinds.Star) n
unfolding read.term read.from_number read.multiple read.single
term_rule {L = L} {n = n} starts x =
    rule_same (λ m. grammar.term (L m)) (to_term L) (from_term L)
    (rule_when {p = from_number L} {q = single L} (is kinds.Number) (starts_then (starts_number false))
    (joins_starts (apart_kinds agg_kinds (of_is kinds.Number) refl) (starts_then starts))
    (rule_seq {q = behind_number L} (number_rule false n) (λ value.
    rule_when {p = λ m. word kinds.Star >> times_agg L (Some value) m} {q = λ m. gives (terms.Number value)} (is kinds.Star) (starts_behind kinds.Star)
    (joins_gives (is kinds.Star) (terms.Number value) (is kinds.Star) (within_same (is kinds.Star)))
    (rule_seq {q = λ _. times_agg L (Some value)} (word_rule kinds.Star n) (λ _. rule_seq {q = λ of m. gives (terms.Agg (Some value) of)} x (λ of. rule_gives (terms.Agg (Some value) of) (is kinds.Star) n)))
    (rule_gives (terms.Number value) (is kinds.Star) n)))
    (rule_seq {q = λ of m. gives (terms.Agg None of)} x (λ of. rule_gives (terms.Agg None of) (is kinds.Star) n)))

-- the kinds with which terms begin
abbrev pub term_kinds : List Kind
term_kinds = kinds.Number ∷ agg_kinds

-- A part begins with a number, or as an aggregate does.
pub starts_part : {L : Langs Lexeme Agg} → Starts (among agg_kinds) L → Starts (among term_kinds) (λ m. grammar.part (L m))
starts_part {L = L} starts = starts_skip (within_word kinds.Number (of_among term_kinds) refl) (within_kinds agg_kinds term_kinds refl) starts_factor (λ times. starts_then starts)

-- A term begins with a number, or as an aggregate does.
pub starts_term : {L : Langs Lexeme Agg} → Starts (among agg_kinds) L → Starts (among term_kinds) (λ m. grammar.term (L m))
starts_term {L = L} starts =
    starts_or {p = λ m. grammar.constant} {q = λ m. grammar.part (L m)}
    (starts_wider (within_word kinds.Number (of_among term_kinds) refl) (starts_then (starts_number false)))
    (starts_part starts)

-- ---- sums

-- an item of a sum
abbrev item : Bool → Term → SumItem
item minus of = record { minus = minus; term = of }

-- "+" | "-"
sign_rule : (n : ℕ) → IsRule opens (λ m. grammar.sign) read.sign none n
unfolding read.sign read.plus read.minus
sign_rule n =
    rule_when (is kinds.Plus) (starts_behind kinds.Plus) (joins_behind kinds.Minus (of_is kinds.Plus) refl)
    (rule_seq (word_rule kinds.Plus n) (λ _. rule_gives false none n))
    (rule_seq (word_rule kinds.Minus n) (λ _. rule_gives true none n))

-- a sign begins with itself
starts_sign : Starts (among sign_kinds) (λ m. grammar.sign)
starts_sign = starts_or {p = λ m. grammar.plus} {q = λ m. grammar.minus} (starts_then (starts_word kinds.Plus (of_among sign_kinds) refl)) (starts_then (starts_word kinds.Minus (of_among sign_kinds) refl))

-- [ "-" ]
leading_minus_rule : (n : ℕ) → IsRule opens (λ m. grammar.leading_minus) read.leading_minus (is kinds.Minus) n
unfolding read.leading_minus
leading_minus_rule n =
    rule_then (λ negative. joins_gives (is kinds.Minus) (is_some negative) (is kinds.Minus) (within_same (is kinds.Minus)))
    (rule_optional (is kinds.Minus) (is kinds.Minus) starts_one_of (within_same (is kinds.Minus)) (within_none (is kinds.Minus)) (word_rule kinds.Minus n))
    (λ negative. rule_gives (is_some negative) (is kinds.Minus) n)

-- [ "-" ] term
first_item_rule : {L : Langs Lexeme Term} {P : Parser Lexeme Term} {ext : Lexeme → Bool} {n : ℕ} → Starts (among term_kinds) L → IsRule opens L P ext n → IsRule opens (λ m. grammar.first_item (L m)) (read.first_item P) ext n
unfolding read.first_item
first_item_rule {L = L} {ext = ext} {n = n} starts x =
    rule_then {q = λ minus m. L m >>= λ of. gives (item minus of)}
    (λ minus. joins_starts (apart_kinds term_kinds (of_is kinds.Minus) refl) (starts_then starts))
    (leading_minus_rule n)
    (λ minus. rule_then {q = λ of m. gives (item minus of)} (λ of. joins_gives ext (item minus of) ext (within_same ext)) x (λ of. rule_gives (item minus of) ext n))

-- ( "+" | "-" ) term
next_item_rule : {L : Langs Lexeme Term} {P : Parser Lexeme Term} {ext : Lexeme → Bool} {n : ℕ} → IsRule opens L P ext n → IsRule opens (λ m. grammar.next_item (L m)) (read.next_item P) ext n
unfolding read.next_item
next_item_rule {L = L} {ext = ext} {n = n} x =
    rule_seq {q = λ minus m. L m >>= λ of. gives (item minus of)} (sign_rule n) (λ minus.
    rule_then {q = λ of m. gives (item minus of)} (λ of. joins_gives ext (item minus of) ext (within_same ext)) x (λ of.
    rule_gives (item minus of) ext n))

-- a further item begins with its sign
starts_next : (L : Langs Lexeme Term) → Starts (among sign_kinds) (λ m. grammar.next_item (L m))
starts_next L = starts_then starts_sign

-- A further item takes a token.
pub next_item_shrinks : {L : Langs Lexeme Term} {P : Parser Lexeme Term} {ext : Lexeme → Bool} {n : ℕ} → IsRule opens L P ext n → Shrinks (read.next_item P)
next_item_shrinks {L = L} x = shrinks (starts_next L) (next_item_rule x)

-- [ "-" ] term { ( "+" | "-" ) term }
pub sum_rule : {L : Langs Lexeme Term} {P : Parser Lexeme Term} {ext : Lexeme → Bool} {n : ℕ} → Starts (among term_kinds) L → Apart (among sign_kinds) ext → IsRule opens L P ext n → IsRule opens (λ m. grammar.sum (L m)) (read.sum P) (either ext (among sign_kinds)) n
unfolding read.sum read.more_items
sum_rule {L = L} {ext = ext} {n = n} starts apart x =
    rule_then {q = λ first m. many (grammar.next_item (L m)) >>= λ later. gives (first ∷ later)}
    (λ first. joins_then (joins_many apart (starts_next L) (within_left ext (among sign_kinds))) (λ later. joins_gives (either ext (among sign_kinds)) (first ∷ later) (either ext (among sign_kinds)) (within_same (either ext (among sign_kinds)))))
    (first_item_rule starts x)
    (λ first. rule_then {q = λ later m. gives (first ∷ later)}
    (λ later. joins_gives (either ext (among sign_kinds)) (first ∷ later) (either ext (among sign_kinds)) (within_same (either ext (among sign_kinds))))
    (rule_many (among sign_kinds) (either ext (among sign_kinds)) (starts_next L) apart (within_right ext (among sign_kinds)) (within_left ext (among sign_kinds)) (next_item_rule x))
    (λ later. rule_gives (first ∷ later) (either ext (among sign_kinds)) n))

-- the kinds with which sums begin
abbrev pub sum_kinds : List Kind
sum_kinds = kinds.Minus ∷ term_kinds

-- A sum begins with a minus, or as a term does.
pub starts_sum : {L : Langs Lexeme Term} → Starts (among term_kinds) L → Starts (among sum_kinds) (λ m. grammar.sum (L m))
starts_sum {L = L} starts =
    starts_then (starts_among {L = λ m. optional (word kinds.Minus) >>= λ negative. L m >>= λ of. gives (item (is_some negative) of)} flat
    (starts_skip (within_word kinds.Minus (of_among sum_kinds) refl) (within_kinds term_kinds sum_kinds refl) starts_one_of (λ negative. starts_then starts)))
  where
    -- an item with the optional minus before it, and no part around it
    flat : (m : ℕ) (w : List Lexeme) (a : SumItem) → grammar.first_item (L m) w a → (optional (word kinds.Minus) >>= λ negative. L m >>= λ of. gives (item (is_some negative) of)) w a
    flat m w a t =
        let u = t.first in
        record {
          front = u.front;
          back = t.back;
          value = u.value;
          first = u.first;
          second = subst (λ (z : Bool). (L m >>= λ of. gives (item z of)) t.back a) u.second.1 t.second;
          whole = t.whole ∙ ap (λ (z : List Lexeme). z ++ t.back) (u.whole ∙ ap (λ (z : List Lexeme). u.front ++ z) u.second.0 ∙ append-nil u.front);
        }

-- ---- constraints and goals

-- the kinds that would go on with a sum of terms
abbrev pub sum_ends : List Kind
sum_ends = kinds.Star ∷ sign_kinds

abbrev pub sum_ext : Lexeme → Bool
sum_ext = among sum_ends

-- a goal
abbrev goal_of : Bool → List SumItem → Goal
goal_of maximize parts = record { maximize = maximize; parts = parts }

-- "BETWEEN" signed "AND" signed
ends_rule : (n : ℕ) → IsRule opens (λ m. grammar.ends) read.ends none n
unfolding read.ends
ends_rule n =
    rule_seq (word_rule kinds.Between n) (λ _.
    rule_seq (signed_rule n) (λ low.
    rule_seq (word_rule kinds.And n) (λ _.
    rule_seq (signed_rule n) (λ high.
    rule_gives (low, high) none n))))

-- cop sum
compared_rule : {L : Langs Lexeme (List SumItem)} {P : Parser Lexeme (List SumItem)} {n : ℕ} (left : List SumItem) → IsRule opens L P sum_ext n → IsRule opens (λ m. grammar.compared left (L m)) (read.compared left P) sum_ext n
unfolding read.compared
compared_rule {L = L} {n = n} left x =
    rule_seq {q = λ op m. L m >>= λ right. gives (Compare left op right)} (comparison_rule n) (λ op.
    rule_then {q = λ right m. gives (Compare left op right)} (λ right. joins_gives sum_ext (Compare left op right) sum_ext (within_same sum_ext)) x (λ right.
    rule_gives (Compare left op right) sum_ext n))

-- "BETWEEN" signed "AND" signed
between_rule : (sum : List SumItem) (n : ℕ) → IsRule opens (λ m. grammar.between sum) (read.between sum) sum_ext n
unfolding read.between
between_rule sum n = rule_seq (ends_rule n) (λ both. rule_gives (Between sum both.0 both.1) sum_ext n)

-- sum ( "BETWEEN" signed "AND" signed | cop sum )
on_sums_rule : {L : Langs Lexeme (List SumItem)} {P : Parser Lexeme (List SumItem)} {n : ℕ} → IsRule opens L P sum_ext n → IsRule opens (λ m. grammar.on_sums (L m)) (read.on_sums P) sum_ext n
unfolding read.on_sums
on_sums_rule {L = L} {n = n} x =
    rule_then {q = λ left m. grammar.between left or grammar.compared left (L m)}
    (λ left. joins_or {p = λ m. grammar.between left} {q = λ m. grammar.compared left (L m)} (joins_starts (apart_word kinds.Between (of_among sum_ends) refl) (starts_then (starts_behind kinds.Between))) (joins_starts (apart_kinds comparison_kinds (of_among sum_ends) refl) (starts_then starts_comparison)))
    x
    (λ left. rule_when {p = λ m. grammar.between left} {q = λ m. grammar.compared left (L m)} (is kinds.Between) (starts_then (starts_behind kinds.Between))
    (joins_starts (apart_kinds comparison_kinds (of_is kinds.Between) refl) (starts_then starts_comparison))
    (between_rule left n) (compared_rule left x))

-- cop signed
average_compared_rule : (column : ColumnName) (n : ℕ) → IsRule opens (λ m. grammar.average_compared column) (read.average_compared column) sum_ext n
unfolding read.average_compared
average_compared_rule column n =
    rule_seq (comparison_rule n) (λ op.
    rule_seq (signed_rule n) (λ limit.
    rule_gives (Avg column op limit) sum_ext n))

-- "BETWEEN" signed "AND" signed
average_between_rule : (column : ColumnName) (n : ℕ) → IsRule opens (λ m. grammar.average_between column) (read.average_between column) sum_ext n
unfolding read.average_between
average_between_rule column n = rule_seq (ends_rule n) (λ both. rule_gives (AvgBetween column both.0 both.1) sum_ext n)

-- "AVG" "(" column ")" ( "BETWEEN" signed "AND" signed | cop signed )
on_average_rule : (n : ℕ) → IsRule opens (λ m. grammar.on_average) read.on_average sum_ext n
unfolding read.on_average
on_average_rule n =
    rule_seq (word_rule kinds.Avg n) (λ _.
    rule_seq (word_rule kinds.LeftParen n) (λ _.
    rule_then (λ of. joins_behind kinds.RightParen (of_is kinds.Dot) refl) (column_rule n) (λ of.
    rule_seq (word_rule kinds.RightParen n) (λ _.
    rule_when {p = λ m. grammar.average_between of} {q = λ m. grammar.average_compared of} (is kinds.Between) (starts_then (starts_behind kinds.Between))
    (joins_starts (apart_kinds comparison_kinds (of_is kinds.Between) refl) (starts_then starts_comparison))
    (average_between_rule of n) (average_compared_rule of n)))))

-- "AVG" "(" column ")" .. | sum ..
pub conj_rule : {L : Langs Lexeme (List SumItem)} {P : Parser Lexeme (List SumItem)} {n : ℕ} → Starts (among sum_kinds) L → IsRule opens L P sum_ext n → IsRule opens (λ m. grammar.conj (L m)) (read.conj P) sum_ext n
unfolding read.conj
conj_rule {L = L} {n = n} starts x =
    rule_when {p = λ m. grammar.on_average} {q = λ m. grammar.on_sums (L m)} (is kinds.Avg) (starts_behind kinds.Avg)
    (joins_starts (apart_kinds sum_kinds (of_is kinds.Avg) refl) (starts_then starts))
    (on_average_rule n) (on_sums_rule x)

-- "MINIMIZE" | "MAXIMIZE"
sense_rule : (n : ℕ) → IsRule opens (λ m. grammar.sense) read.sense none n
unfolding read.sense read.minimize read.maximize
sense_rule n =
    rule_when (is kinds.Minimize) (starts_behind kinds.Minimize) (joins_behind kinds.Maximize (of_is kinds.Minimize) refl)
    (rule_seq (word_rule kinds.Minimize n) (λ _. rule_gives false none n))
    (rule_seq (word_rule kinds.Maximize n) (λ _. rule_gives true none n))

-- A goal begins with its word.
pub starts_goal : (L : Langs Lexeme (List SumItem)) → Starts (among goal_kinds) (λ m. grammar.goal (L m))
starts_goal L = starts_then (starts_or {p = λ m. grammar.minimize} {q = λ m. grammar.maximize} (starts_then (starts_word kinds.Minimize (of_among goal_kinds) refl)) (starts_then (starts_word kinds.Maximize (of_among goal_kinds) refl)))

-- ( "MINIMIZE" | "MAXIMIZE" ) goal
pub goal_rule : {L : Langs Lexeme (List SumItem)} {P : Parser Lexeme (List SumItem)} {ext : Lexeme → Bool} {n : ℕ} → IsRule opens L P ext n → IsRule opens (λ m. grammar.goal (L m)) (read.goal P) ext n
unfolding read.goal
goal_rule {L = L} {ext = ext} {n = n} x =
    rule_seq {q = λ maximize m. L m >>= λ parts. gives (goal_of maximize parts)} (sense_rule n) (λ maximize.
    rule_then {q = λ parts m. gives (goal_of maximize parts)} (λ parts. joins_gives ext (goal_of maximize parts) ext (within_same ext)) x (λ parts.
    rule_gives (goal_of maximize parts) ext n))
