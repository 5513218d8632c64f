-- Grammars as languages: which tokens spell which value. A line of a grammar is a `do` block of
-- these words.
use Rattle.std.specs.Prelude.{◌≡◌, Bool, true, List, [], ◌∷◌, ◌++◌, Option, Some, None, ◌⊎◌}

-- The lists of tokens that spell a value.
abbrev pub Lang : Type 0 → Type 0 → Type 1
Lang T A = List T → A → Type 0

-- One text, and after it another, whose language may depend on the value of the first.
pub record Then {T A B : Type 0} (p : Lang T A) (q : A → Lang T B) (w : List T)
    (b : B) : Type 0 where
  pub front : List T
  pub back : List T
  pub value : A
  pub first : p front value
  pub second : q value back b
  pub whole : w ≡ front ++ back

infixl 10 ◌>>=◌
abbrev pub ◌>>=◌ : {T A B : Type 0} → Lang T A → (A → Lang T B) → Lang T B
(p >>= q) w b = Then p q w b

-- One text, whose value is dropped, and after it another.
infixl 10 ◌>>◌
abbrev pub ◌>>◌ : {T A B : Type 0} → Lang T A → Lang T B → Lang T B
(p >> q) w b = Then p (λ _. q) w b

-- No token, and this value.
abbrev pub gives : {T A : Type 0} → A → Lang T A
gives x w a = (w ≡ []) × (a ≡ x)

-- One token, which shows the value.
abbrev pub shown : {T A : Type 0} → (T → Option A) → Lang T A
shown {T = T} view w a = (t : T) × (w ≡ t ∷ []) × (view t ≡ Some a)

-- The one token that is made of the value.
abbrev pub token : {T A : Type 0} → (A → T) → Lang T A
token make w a = w ≡ make a ∷ []

-- This token.
abbrev pub the : {T : Type 0} → T → Lang T (Unit {0})
the t w a = w ≡ t ∷ []

-- One token that passes a test.
abbrev pub one_of : {T : Type 0} → (T → Bool) → Lang T (Unit {0})
one_of {T = T} f w a = (t : T) × (w ≡ t ∷ []) × (f t ≡ true)

-- A text of the one language or of the other.
infixl 9 ◌or◌
abbrev pub ◌or◌ : {T A : Type 0} → Lang T A → Lang T A → Lang T A
(p or q) w a = p w a ⊎ q w a

-- A text, or none.
abbrev pub optional : {T A : Type 0} → Lang T A → Lang T (Option A)
optional p = (p >>= λ a. gives (Some a)) or gives None

-- Any number of texts, one after the other.
abbrev pub many : {T A : Type 0} → Lang T A → Lang T (List A)
many p w [] = w ≡ []
many {T = T} p w (a ∷ later) = (u v : List T) × p u a × many p v later × (w ≡ u ++ v)

-- One text or more, with a separator between them.
abbrev pub listed : {T A : Type 0} → Lang T (Unit {0}) → Lang T A → Lang T (List A)
listed separator p = p >>= λ a. many (separator >> p) >>= λ later. gives (a ∷ later)
