-- The laws of the sample's lines: each reading is exact for its line of the grammar.
use Rattle.std.proofs.Common.{◌≡◌, ℕ, zero, suc, ◌≤◌, Bool, true, false, List, [], ◌∷◌, refl, ap, arith, inl, inr, Some, is_some}
use denote.Enum.Bare.{same_true, true_same}
use Rattle.formal_grammar.specs.contracts.sample.Sign.{the_type}
use Rattle.formal_grammar.specs.declared.sample.Sign.{Sign}
use Rattle.formal_grammar.specs.declared.sample.Sign.TheVariants.{Open, Close, Plus, Bang}
use Rattle.formal_grammar.specs.declared.sample.Token.{Token}
use Rattle.formal_grammar.specs.declared.sample.Token.TheVariants as token
use Rattle.formal_grammar.specs.declared.sample.Expr.{Expr}
use Rattle.formal_grammar.specs.declared.sample.Expr.TheVariants as expr
use Rattle.formal_grammar.specs.Lang.{Lang, ◌>>=◌, ◌>>◌, ◌or◌, gives, the}
use Rattle.formal_grammar.specs.Parse.{Parser, and_then, pure, accept, this}
use Rattle.formal_grammar.specs.Exact.{Langs, none, either, Grows, Begins, IsRule, Starts, Joins, nested}
use Rattle.formal_grammar.specs.SampleGrammar.{number_of, number, mark, sum_of, bracketed, item, opens, sum}
use Rattle.formal_grammar.specs.SampleReading as read
use Rattle.formal_grammar.specs.SampleReading.{is}
use Rattle.formal_grammar.proofs.Sets.{within_same, within_none, within_left, within_right, apart_one}
use Rattle.formal_grammar.proofs.Sequence.{rule_then, rule_seq}
use Rattle.formal_grammar.proofs.Single.{rule_gives, rule_shown, rule_the}
use Rattle.formal_grammar.proofs.Joins.{starts_then, starts_shown, starts_the, starts_nested, joins_none, joins_gives, joins_starts, joins_the, joins_then, joins_skip}
use Rattle.formal_grammar.proofs.Choice.{rule_when, rule_optional}
use Rattle.formal_grammar.proofs.Repeats.{rule_listed}
use Rattle.formal_grammar.proofs.Nesting.{grows_nested, rule_nested, rule_floor}
use Rattle.formal_grammar.proofs.Widening.{rule_same}
use Rattle.formal_grammar.proofs.Growth.{Among, among_then, among_or, among_listed, begins_behind}
use Rattle.formal_grammar.proofs.Loops.{Shrinks, shrinks}
use Rattle.formal_grammar.proofs.Whole.{one_value}

-- ---- signs

-- the sign itself passes its test
passes : (sign : Sign) → is sign (token.Sign sign) ≡ true
passes sign = true_same the_type sign sign refl

-- no other token is the sign
only : (sign : Sign) (t : Token) → is sign t ≡ true → t ≡ token.Sign sign
only sign (token.Number n) e = absurd cc
only sign (token.Sign s) e = ap (λ z. token.Sign z) (same_true the_type tt s sign e)

-- a sign
the_rule : (sign : Sign) (n : ℕ) → IsRule opens (λ m. the (token.Sign sign)) (accept (this (is sign))) none n
the_rule sign n = rule_the (is sign) (token.Sign sign) (passes sign) (only sign) n

-- ---- lines

-- what would go on with a sum
abbrev goes_on : Token → Bool
goes_on = either (is Plus) (is Bang)

-- a number
number_rule : (n : ℕ) → IsRule opens (λ m. number) read.number none n
unfolding read.number
number_rule n = rule_seq (rule_shown number_of (token.Number 0) 0 refl n) (λ a. rule_gives (expr.Number a) none n)

-- [ "!" ]
mark_rule : (n : ℕ) → IsRule opens (λ m. mark) read.mark goes_on n
unfolding read.mark
mark_rule n =
    rule_then {q = λ o m. gives (is_some o)} (λ o. joins_gives goes_on (is_some o) goes_on (within_same goes_on))
    (rule_optional (is Bang) goes_on (starts_the (passes Bang)) (within_right (is Plus) (is Bang)) (within_none goes_on) (the_rule Bang n))
    (λ o. rule_gives (is_some o) goes_on n)

-- a mark doesn't begin with a plus
joins_mark : Joins (is Plus) (λ m. mark) goes_on
joins_mark = joins_skip {p = λ m. the (token.Sign Bang)} {q = λ o m. gives (is_some o)} (apart_one (is Plus) (only Bang) refl) (starts_the (passes Bang)) (λ o. joins_gives (is Plus) (is_some o) goes_on (within_left (is Plus) (is Bang)))

-- item { "+" item } [ "!" ]
sum_rule : {L : Langs Token Expr} {P : Parser Token Expr} {n : ℕ} → IsRule opens L P none n → IsRule opens (λ m. sum_of (L m)) (read.sum P) goes_on n
unfolding read.sum
sum_rule {n = n} x =
    rule_then {q = λ items m. mark >>= λ marked. gives (expr.Sum items marked)}
    (λ items. joins_then joins_mark (λ marked. joins_gives goes_on (expr.Sum items marked) goes_on (within_same goes_on)))
    (rule_listed (is Plus) (is Plus) (starts_the (passes Plus)) (λ t _. refl) (within_same (is Plus)) (within_none (is Plus)) (the_rule Plus n) x)
    (λ items. rule_then {q = λ marked m. gives (expr.Sum items marked)} (λ marked. joins_gives goes_on (expr.Sum items marked) goes_on (within_same goes_on)) (mark_rule n) (λ marked. rule_gives (expr.Sum items marked) goes_on n))

-- what comes after an opening bracket
abbrev inside : Lang Token Expr → Lang Token Expr
inside p = p >>= λ e. the (token.Sign Close) >> gives e

-- sum ")"
inside_rule : {L : Langs Token Expr} {P : Parser Token Expr} {n : ℕ} → IsRule opens L P goes_on n → IsRule opens (λ m. inside (L m)) (λ s. and_then (P s) (λ e u. and_then (accept (this (is Close)) u) (λ _. pure e))) none n
inside_rule {n = n} x =
    rule_then {q = λ e m. the (token.Sign Close) >> gives e}
    (λ e. joins_then {between = none} (joins_the refl) (λ _. joins_none))
    x
    (λ e. rule_seq (the_rule Close n) (λ _. rule_gives e none n))

-- "(" sum ")"
bracketed_rule : {L : Langs Token Expr} {P : Parser Token Expr} {n : ℕ} → IsRule opens L P goes_on n → IsRule opens (λ m. bracketed (L m)) (read.bracketed P) none n
unfolding read.bracketed
bracketed_rule {n = n} x = rule_seq {q = λ _ m. _} (the_rule Open n) (λ _. inside_rule x)

-- more items make more sums
among_sum : {p q : Lang Token Expr} → Among p q → Among (sum_of p) (sum_of q)
among_sum more = among_then (among_listed (the (token.Sign Plus)) more) (λ items w e t. t)

-- more sums make more in brackets
among_bracketed : {p q : Lang Token Expr} → Among p q → Among (bracketed p) (bracketed q)
among_bracketed {p = p} {q = q} more = among_then {p = the (token.Sign Open)} {q = λ _. inside p} {q' = λ _. inside q} (λ w u t. t) (λ _. among_then more (λ e w f t. t))

-- ---- the line that calls itself

-- the items that begin with a bracket
abbrev opened : Langs Token Expr
opened = nested (λ m. bracketed (sum_of (item m)))

-- an item is what is opened, or a number
to_item : (m : ℕ) (w : List Token) (e : Expr) → (opened m or number) w e → item m w e
unfolding item
to_item zero w e (inl t) = absurd t
to_item zero w e (inr t) = t
to_item (suc m) w e t = t

-- and nothing else
from_item : (m : ℕ) (w : List Token) (e : Expr) → item m w e → (opened m or number) w e
unfolding item
from_item zero w e t = inr t
from_item (suc m) w e t = t

-- more depth allows more items
item_grows : (m k : ℕ) (w : List Token) (e : Expr) → m ≤ k → item m w e → item k w e
unfolding item
item_grows zero zero w e le t = t
item_grows zero (suc k) w e le t = inr t
item_grows (suc m) zero w e le t = absurd (omega (arith, le))
item_grows (suc m) (suc k) w e le t = among_or {q = number} {q' = number} (among_bracketed (among_sum (λ v f u. item_grows m k v f (omega (arith, le)) u))) (λ v f u. u) w e t

-- what opens a bracket, and what doesn't
is_number : Token → Bool
is_number (token.Number n) = true
is_number (token.Sign s) = false

-- a number is no bracket
number_apart : (t : Token) → is_number t ≡ true → is Open t ≡ false
unfolding is_number
number_apart (token.Number n) e = refl
number_apart (token.Sign s) e = absurd cc

-- what shows a number is one
number_shows : (t : Token) (n : ℕ) → number_of t ≡ Some n → is_number t ≡ true
unfolding is_number
number_shows (token.Number k) n e = refl
number_shows (token.Sign s) n e = absurd cc

-- a number begins with no bracket
joins_number : Joins (is Open) (λ m. number) none
joins_number = joins_starts number_apart (starts_then (starts_shown {view = number_of} number_shows))

-- what is opened begins with a bracket
starts_opened : Starts (is Open) opened
starts_opened = starts_nested (starts_then {p = λ m. the (token.Sign Open)} {q = λ _ m. inside (sum_of (item m))} (starts_the (passes Open)))

-- more depth allows more to be opened
opened_grows : Grows opened
opened_grows = grows_nested (λ m. bracketed (sum_of (item m))) (λ m k w e le. among_bracketed (among_sum (λ v f u. item_grows m k v f le u)) w e)

-- A bracket begins a text of one level.
bracket_opens : (t : Token) → is Open t ≡ true → Begins opened 1 (t ∷ [])
unfolding item
bracket_opens t e =
    let h = (inside_rule (sum_rule (number_rule 0))).has 0 (omega arith) in
    let b = begins_behind (the (token.Sign Open)) (token.Sign Open) tt refl h in
    record { more = b.more; value = b.value; text = rw (only Open t e) b.text }

-- number | "(" sum ")", with n brackets still to open
item_rule : (n : ℕ) → IsRule opens item (read.item n) none n
unfolding read.item
item_rule zero = rule_same item to_item from_item (rule_floor opened (is Open) (λ t e. ap opens (only Open t e)) opened_grows (λ w e t. t) bracket_opens starts_opened joins_number (number_rule 0))
item_rule (suc n) = rule_same item to_item from_item (rule_when (is Open) starts_opened joins_number (rule_nested (bracketed_rule (sum_rule (item_rule n)))) (number_rule (suc n)))

-- The parser of sums is exact, whatever the depth.
pub exact_sum : (n : ℕ) → IsRule opens (λ m. sum m) (read.sum (read.item n)) goes_on n
exact_sum n = sum_rule (item_rule n)

-- An item after a plus takes a token.
pub next_shrinks : (n : ℕ) → Shrinks (read.next_item (read.item n))
next_shrinks n = shrinks {f = is Plus} (starts_then {q = λ _. item} (starts_the (passes Plus))) (rule_seq (the_rule Plus n) (λ _. item_rule n))

-- Tokens spell one sum at most.
pub one_sum : (m n : ℕ) (tokens : List Token) (t u : Expr) → sum m tokens t → sum n tokens u → t ≡ u
one_sum = one_value exact_sum
