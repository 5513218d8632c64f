-- Private: the laws in `src/laws.rt`.
-- The theory's laws as public facts, for languages that a test decides, over any tokens and values.
use Rattle.std.specs.Prelude.{◌≡◌, ℕ, Bool, true, List, Ok}
use Rattle.formal_grammar.specs.Lang as lang
use Rattle.formal_grammar.specs.Parse.{Parser, ◌>>=◌, all_of}
use Rattle.formal_grammar.specs.Exact.{Langs, IsRule, Joins}
use Rattle.formal_grammar.specs.Fault.{Judges}

-- The texts that pass a test, at each depth.
abbrev pub Test : Type 0 → Type 0 → Type 0
Test T A = ℕ → List T → A → Bool

abbrev pub passing : {T A : Type 0} → Test T A → Langs T A
passing test m w a = test m w a ≡ true

-- Where there is an exact parser for each depth, tokens spell one value at most, whatever the
-- depth.
abbrev pub OneValue : Type 0 → Type 0 → Type 0
OneValue T A =
    (test : Test T A) (parsers : ℕ → Parser T A) (opens ext : T → Bool)
    → ((n : ℕ) → IsRule opens (passing test) (parsers n) ext n) → (m n : ℕ) (s : List T) (a b : A)
    → passing test m s a → passing test n s b → a ≡ b

-- An exact parser answers all of the tokens with the one value, or with the kind of the fault and
-- its place.
abbrev pub JudgesWhole : Type 0 → Type 0 → Type 0
JudgesWhole T A =
    (test : Test T A) (parser : Parser T A) (opens ext : T → Bool) (n : ℕ)
    → IsRule opens (passing test) parser ext n → (s : List T)
    → Judges opens (passing test) n s (all_of parser s)

-- An exact parser refuses nothing that is spelled.
abbrev pub ReadsAll : Type 0 → Type 0 → Type 0
ReadsAll T A =
    (test : Test T A) (parser : Parser T A) (opens ext : T → Bool) (n : ℕ)
    → IsRule opens (passing test) parser ext n → (s : List T) (a : A) → passing test n s a
    → all_of parser s ≡ Ok a

-- Two exact parsers, one after the other, are exact for the sequence, if wherever a text of the
-- second comes, with what may follow it, no token comes first that would go on with the first.
abbrev pub Composes : Type 0 → Type 0 → Type 0 → Type 0
Composes T A B =
    (first : Test T A) (second : A → Test T B) (parser : Parser T A) (parsers : A → Parser T B)
    (opens between ext : T → Bool) (n : ℕ) → ((a : A) → Joins between (passing (second a)) ext)
    → IsRule opens (passing first) parser between n
    → ((a : A) → IsRule opens (passing (second a)) (parsers a) ext n)
    → IsRule opens (λ m. lang.◌>>=◌ (passing first m) (λ a. passing (second a) m))
    (parser >>= parsers) ext n
