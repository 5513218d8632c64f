-- The laws of one token, and with which tokens they begin.
use Rattle.std.proofs.Common.{◌≡◌, ℕ, Bool, true, false, if◌then◌else◌, [], ◌∷◌, Option, Some, None, refl, sym, ◌||◌}
use Rattle.std.proofs.Math.Decide.{dec_lt}
use Rattle.paql_lexer.specs.declared.vocabulary.Kind.{Kind}
use Rattle.paql_lexer.specs.declared.vocabulary.Kind.TheVariants as kinds
use Rattle.pq_base.specs.declared.scaled.Scaled.{Scaled}
use Rattle.formal_grammar.specs.Parse.{accept, this}
use Rattle.formal_grammar.specs.Exact.{none, IsRule, Starts}
use Rattle.formal_grammar.proofs.Single.{rule_shown, rule_one_of}
use Rattle.formal_grammar.proofs.Contexts.{not_none}
use Rattle.formal_grammar.proofs.Joins.{starts_shown}
use Rattle.paql_grammar.specs.Numerals.{scaled}
use Rattle.paql_grammar.specs.Lexemes.{Lexeme, is, among, opens, inside, name_of, content_of, number_of, whole_of, word, name, content, number, whole}
pub use Rattle.paql_grammar.specs.ConditionReading.{name_kinds}
use Rattle.paql_grammar.proofs.KindSets.{sample, passes}

-- ---- rules

pub word_rule : (kind : Kind) (n : ℕ) → IsRule opens (λ m. word kind) (accept (this (is kind))) none n
word_rule kind n = rule_one_of (is kind) (sample kind) (passes kind) n

pub name_rule : (n : ℕ) → IsRule opens (λ m. name) (accept name_of) none n
name_rule n = rule_shown name_of (sample kinds.Name) [] refl n

pub content_rule : (n : ℕ) → IsRule opens (λ m. content) (accept content_of) none n
content_rule n = rule_shown content_of (sample kinds.Text) [] refl n

-- the digit 0
zero_digit : Lexeme
zero_digit = record { kind = kinds.Number; bytes = 48 ∷ [] }

-- some number is shown
some_number : (minus : Bool) → (number : Scaled) × (number_of minus zero_digit ≡ Some number)
unfolding zero_digit scaled dec_lt
some_number true = (_, refl)
some_number false = (_, refl)

pub number_rule : (minus : Bool) (n : ℕ) → IsRule opens (λ m. number minus) (accept (number_of minus)) none n
number_rule minus n = let some = some_number minus in rule_shown (number_of minus) zero_digit some.0 some.1 n

pub whole_rule : (n : ℕ) → IsRule opens (λ m. whole) (accept whole_of) none n
unfolding zero_digit
whole_rule n = rule_shown whole_of zero_digit 0 refl n

-- ---- beginnings

-- what shows something passes its test
if_some : {A : Type 0} (b : Bool) (o : Option A) (a : A) → (if b then o else None) ≡ Some a → b ≡ true
if_some true o a e = refl
if_some false o a e = absurd (not_none (sym e))

either_some : {A : Type 0} (b c : Bool) (o p : Option A) (a : A) → (if b then o else (if c then p else None)) ≡ Some a → (b || (c || false)) ≡ true
either_some true c o p a e = refl
either_some false true o p a e = refl
either_some false false o p a e = absurd (not_none (sym e))

pub starts_name : Starts (among name_kinds) (λ m. name)
starts_name = starts_shown {view = name_of} (λ t a e. either_some (is kinds.Name t) (is kinds.QuotedName t) (Some t.bytes) (Some (inside t.bytes)) a e)

pub starts_content : Starts (is kinds.Text) (λ m. content)
starts_content = starts_shown {view = content_of} (λ t a e. if_some (is kinds.Text t) _ a e)

pub starts_number : (minus : Bool) → Starts (is kinds.Number) (λ m. number minus)
starts_number minus = starts_shown {view = number_of minus} (λ t a e. if_some (is kinds.Number t) _ a e)

pub starts_whole : Starts (is kinds.Number) (λ m. whole)
starts_whole = starts_shown {view = whole_of} (λ t a e. if_some (is kinds.Number t) _ a e)
