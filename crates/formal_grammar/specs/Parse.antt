-- Parsers as functions on lists: the reading that the code of a parser follows, in the words of the
-- grammar.
use Rattle.std.specs.Prelude.{◌≡◌, ℕ, zero, suc, Bool, false, List, [], ◌∷◌, length, Option, Some}
use Rattle.std.specs.Prelude.{None, Result, Ok, Err, if◌then◌else◌}
use Rattle.formal_grammar.specs.declared.stop.Why.{Why}
use Rattle.formal_grammar.specs.declared.stop.Why.TheVariants.{Syntax}
use Rattle.formal_grammar.specs.declared.stop.ReadError.{ReadError}
use Rattle.formal_grammar.specs.declared.stop.ReadError.TheVariants as errors

-- The value and the tokens after it, or why it stopped and how many tokens were left.
abbrev pub Outcome : Type 0 → Type 0 → Type 0
Outcome T A = Result (A × List T) (Why × ℕ)

abbrev pub Parser : Type 0 → Type 0 → Type 0
Parser T A = List T → Outcome T A

-- Goes on after a value, and passes a stop on.
abbrev pub and_then : {T A B : Type 0} → Outcome T A → (A → Parser T B) → Outcome T B
and_then (Ok x) q = q x.0 x.1
and_then (Err e) q = Err e

infixl 10 ◌>>=◌
abbrev pub ◌>>=◌ : {T A B : Type 0} → Parser T A → (A → Parser T B) → Parser T B
(p >>= q) s = and_then (p s) q

infixl 10 ◌>>◌
abbrev pub ◌>>◌ : {T A B : Type 0} → Parser T A → Parser T B → Parser T B
(p >> q) s = and_then (p s) (λ _. q)

-- Takes no token.
abbrev pub pure : {T A : Type 0} → A → Parser T A
pure a s = Ok (a, s)

-- Refuses the next token.
abbrev pub stop : {T A : Type 0} → Why → Parser T A
stop why s = Err (why, length s)

-- The first token of s is t, and the value that it shows is this, if any.
abbrev pub accepted : {T A : Type 0} → Option A → List T → List T → Outcome T A
accepted (Some a) rest s = Ok (a, rest)
accepted None rest s = Err (Syntax, length s)

-- Takes one token, which shows a value.
abbrev pub accept : {T A : Type 0} → (T → Option A) → Parser T A
accept view [] = Err (Syntax, 0)
accept view (t ∷ rest) = accepted (view t) rest (t ∷ rest)

-- What a token shows that passes a test.
abbrev pub this : {T : Type 0} → (T → Bool) → T → Option (Unit {0})
this is t = if is t then Some tt else None

-- The first token, if there is one.
abbrev pub peek : {T : Type 0} → List T → Option T
peek [] = None
peek (t ∷ rest) = Some t

-- There is a first token, and it passes the test.
abbrev pub sees : {T : Type 0} → (T → Bool) → List T → Bool
sees f [] = false
sees f (t ∷ rest) = f t

-- All but the first token.
abbrev pub rest_of : {T : Type 0} → List T → List T
rest_of [] = []
rest_of (t ∷ rest) = rest

-- The first token decides.
abbrev pub when : {T A : Type 0} → (T → Bool) → Parser T A → Parser T A → Parser T A
when f p q s = if sees f s then p s else q s

-- The second token decides, after a first one that passes the test.
abbrev pub when_two : {T A : Type 0} → (T → Bool) → (T → Bool) → Parser T A → Parser T A
    → Parser T A
when_two g h p q s = if sees g s then (if sees h (rest_of s) then p s else q s) else q s

-- A part, if such a token comes first.
abbrev pub maybe : {T A : Type 0} → (T → Bool) → Parser T A → Parser T (Option A)
maybe f p = when f (p >>= λ a. pure (Some a)) (pure None)

-- As many parts as are there, and k at most.
abbrev pub turns : {T A : Type 0} → (T → Bool) → Parser T A → ℕ → Parser T (List A)
turns f p zero s = Ok ([], s)
turns f p (suc k) s =
    if sees f s then and_then (p s) (λ a u. and_then (turns f p k u) (λ later. pure (a ∷ later)))
    else Ok ([], s)

-- As many parts as are there: each takes a token, so there are no more than tokens.
abbrev pub repeat : {T A : Type 0} → (T → Bool) → Parser T A → Parser T (List A)
repeat f p s = turns f p (length s) s

-- One part or more, with such a token between them.
abbrev pub separated : {T A : Type 0} → (T → Bool) → Parser T A → Parser T (List A)
separated is p = p >>= λ a. repeat is (accept (this is) >> p) >>= λ later. pure (a ∷ later)

-- All of the tokens: there is no other after the value.
abbrev pub ended : {T A : Type 0} → Outcome T A → Result A (Why × ℕ)
ended (Ok (a, [])) = Ok a
ended (Ok (a, t ∷ rest)) = Err (Syntax, length (t ∷ rest))
ended (Err e) = Err e

abbrev pub all_of : {T A : Type 0} → Parser T A → List T → Result A (Why × ℕ)
all_of p s = ended (p s)

-- What a function returned, seen by view, is what the reading gives, unless memory ran out.
abbrev pub Fails : {Y : Type 0} → ReadError → Result Y (Why × ℕ) → Type 0
Fails errors.Memory read = Unit {0}
Fails (errors.Stopped why left) read = read ≡ Err (why, left)

abbrev pub Gives : {X Y : Type 0} → (X → Y) → Result X ReadError → Result Y (Why × ℕ) → Type 0
Gives view (Ok x) read = read ≡ Ok (view x)
Gives view (Err e) read = Fails e read
