-- A parser is exact for a language if it takes the one text at the start, and else stops at
-- the first token with which no text agrees. Contexts are ruled by `ext`, the tokens that would go
-- on with a text: what comes after a text never begins with one of them. `opens` are the tokens
-- that open one more level of nesting.
use Rattle.std.specs.Prelude.{◌≡◌, ℕ, zero, suc, ◌≤◌, Bool, true, false, ◌||◌, List, [], ◌∷◌, ◌++◌}
use Rattle.std.specs.Prelude.{length, Ok, Err}
use Rattle.formal_grammar.specs.declared.stop.Why.{Why}
use Rattle.formal_grammar.specs.declared.stop.Why.TheVariants.{Syntax, Deep}
use Rattle.formal_grammar.specs.Lang.{Lang}
use Rattle.formal_grammar.specs.Parse.{Outcome, Parser, peek, sees, rest_of}

-- A language for each depth of nesting.
abbrev pub Langs : Type 0 → Type 0 → Type 1
Langs T A = ℕ → Lang T A

-- Sets of tokens: the empty one, two together, one inside another, and two apart.
abbrev pub none : {T : Type 0} → T → Bool
none t = false

abbrev pub either : {T : Type 0} → (T → Bool) → (T → Bool) → T → Bool
either f g t = f t || g t

abbrev pub Within : {T : Type 0} → (T → Bool) → (T → Bool) → Type 0
Within {T = T} small large = (t : T) → large t ≡ false → small t ≡ false

abbrev pub Apart : {T : Type 0} → (T → Bool) → (T → Bool) → Type 0
Apart {T = T} f g = (t : T) → f t ≡ true → g t ≡ false

-- More depth allows more texts.
abbrev pub Grows : {T A : Type 0} → Langs T A → Type 0
Grows {T = T} {A = A} L = (m k : ℕ) (w : List T) (a : A) → m ≤ k → L m w a → L k w a

-- There is a text.
pub record Has {T A : Type 0} (L : Langs T A) (m : ℕ) : Type 0 where
  pub text : List T
  pub value : A
  pub spells : L m text value

-- No text of the language, with what may follow it, agrees with p and the token that comes first
-- in rest, or the end.
abbrev pub Never : {T A : Type 0} → Langs T A → (T → Bool) → ℕ → List T → List T → Type 0
Never {T = T} {A = A} L ext m p rest =
    (w : List T) (a : A) (k other : List T) → L m w a → sees ext k ≡ false → peek other ≡ peek rest
    → w ++ k ≡ p ++ other → ⊥

-- A text begins with these tokens.
pub record Begins {T A : Type 0} (L : Langs T A) (m : ℕ) (p : List T) : Type 0 where
  pub more : List T
  pub value : A
  pub text : L m (p ++ more) value

-- A text was taken, and no other text agrees with the tokens up to the first after it.
pub record Took {T A : Type 0} (L : Langs T A) (ext : T → Bool) (n : ℕ) (s : List T) (a : A)
    (rest : List T) : Type 0 where
  pub text : List T
  pub whole : s ≡ text ++ rest
  pub spells : L n text a
  pub only : (m : ℕ) (w : List T) (b : A) (k other : List T) → L m w b → sees ext k ≡ false
      → peek other ≡ peek rest → w ++ k ≡ text ++ other → (w ≡ text) × (b ≡ a)

-- With the first token of rest, which opens one more level, the tokens p begin a text of more
-- depth.
pub record Deeper {T A : Type 0} (opens : T → Bool) (L : Langs T A) (n : ℕ)
    (p rest : List T) : Type 0 where
  pub depth : ℕ
  pub head : T
  pub tail : List T
  pub cons : rest ≡ head ∷ tail
  pub opening : opens head ≡ true
  pub more : n ≤ depth
  pub begins : Begins L depth (p ++ (head ∷ []))

-- Why the first token of rest, or the end, is refused after p.
abbrev pub IsBad : {T A : Type 0} → Why → (T → Bool) → Langs T A → (T → Bool) → ℕ → List T → List T
    → Type 0
IsBad Syntax opens L ext n p rest = (m : ℕ) → Never L ext m p rest
IsBad Deep opens L ext n p rest = Never L ext n p rest × Deeper opens L n p rest

-- The tokens before the refused one begin a text, and with it they begin none.
pub record Stopped {T A : Type 0} (opens : T → Bool) (L : Langs T A) (ext : T → Bool) (n : ℕ)
    (s : List T) (why : Why) (left : ℕ) : Type 0 where
  pub text : List T
  pub rest : List T
  pub whole : s ≡ text ++ rest
  pub at : length rest ≡ left
  pub begins : Begins L n text
  pub bad : IsBad why opens L ext n text rest

-- The outcome at s is the one that the language wants.
abbrev pub Exact : {T A : Type 0} → (T → Bool) → Langs T A → (T → Bool) → ℕ → List T → Outcome T A
    → Type 0
Exact opens L ext n s (Ok x) = Took L ext n s x.0 x.1
Exact opens L ext n s (Err e) = Stopped opens L ext n s e.0 e.1

-- The parser P is exact for the language L, where at most n are open and no token of ext follows.
pub record IsRule {T A : Type 0} (opens : T → Bool) (L : Langs T A) (P : Parser T A)
    (ext : T → Bool) (n : ℕ) : Type 0 where
  pub grows : Grows L
  pub has : (m : ℕ) → n ≤ m → Has L m
  pub exact : (s : List T) → Exact opens L ext n s (P s)

-- If a text of L comes, with what may follow it, no token of before comes first.
pub record Joins {T A : Type 0} (before : T → Bool) (L : Langs T A) (ext : T → Bool) : Type 0 where
  pub clear : (m : ℕ) (w : List T) (a : A) (k : List T) → L m w a → sees ext k ≡ false
      → sees before (w ++ k) ≡ false

-- These tokens begin with one of f.
pub record StartsIn {T : Type 0} (f : T → Bool) (w : List T) : Type 0 where
  pub head : T
  pub tail : List T
  pub cons : w ≡ head ∷ tail
  pub passes : f head ≡ true

-- Every text of L begins with a token of f, so none is empty.
pub record Starts {T A : Type 0} (f : T → Bool) (L : Langs T A) : Type 0 where
  pub first : (m : ℕ) (w : List T) (a : A) → L m w a → StartsIn f w

-- If a text of L comes, with what may follow it, the second token passes the test, or doesn't.
pub record Seconds {T A : Type 0} (h : T → Bool) (passes : Bool) (L : Langs T A)
    (ext : T → Bool) : Type 0 where
  pub second : (m : ℕ) (w : List T) (a : A) (k : List T) → L m w a → sees ext k ≡ false
      → sees h (rest_of (w ++ k)) ≡ passes

-- The texts of L inside one more level of nesting: at depth 0 there are none.
abbrev pub nested : {T A : Type 0} → Langs T A → Langs T A
nested L zero w a = ⊥
nested L (suc m) w a = L m w a
