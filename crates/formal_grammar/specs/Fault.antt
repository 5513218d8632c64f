-- What a parser says of the whole of the tokens, in words that a public contract can cite.
use Rattle.std.specs.Prelude.{◌≡◌, ℕ, suc, ◌-◌, ◌<◌, ◌≤◌, Bool, true, List, length, take, slice_get}
use Rattle.std.specs.Prelude.{Some, Result, Ok, Err}
use Rattle.formal_grammar.specs.declared.stop.Why.{Why}
use Rattle.formal_grammar.specs.declared.stop.Why.TheVariants.{Syntax, Deep}
use Rattle.formal_grammar.specs.Exact.{Langs}

-- A text of the language has the same first k tokens.
pub record Agrees {T A : Type 0} (L : Langs T A) (m k : ℕ) (s : List T) : Type 0 where
  pub text : List T
  pub value : A
  pub spells : L m text value
  pub same : take k text ≡ take k s

-- The tokens before `at` begin a text. With the token at `at`, or with the end there, they begin
-- none, whatever the depth.
pub record IsSyntaxFault {T A : Type 0} (L : Langs T A) (n : ℕ) (s : List T) (at : ℕ) : Type 0 where
  pub within : at ≤ length s
  pub before : Agrees L n at s
  pub after : (m : ℕ) → Agrees L m (suc at) s → ⊥

-- The tokens before `at` begin a text of depth n. With the token at `at`, one of those that open a
-- level, they begin one of more depth, and none of depth n.
pub record IsDeepFault {T A : Type 0} (opens : T → Bool) (L : Langs T A) (n : ℕ) (s : List T)
    (at : ℕ) : Type 0 where
  pub within : at < length s
  pub token : T
  pub there : slice_get s at ≡ Some token
  pub opening : opens token ≡ true
  pub before : Agrees L n at s
  pub depth : ℕ
  pub deeper : Agrees L depth (suc at) s
  pub after : Agrees L n (suc at) s → ⊥

-- The tokens spell this value at depth n, and no other, whatever the depth.
pub record IsOnly {T A : Type 0} (L : Langs T A) (n : ℕ) (s : List T) (a : A) : Type 0 where
  pub spells : L n s a
  pub only : (m : ℕ) (b : A) → L m s b → b ≡ a

-- The fault of this kind is at this place.
abbrev pub IsFault : {T A : Type 0} → Why → (T → Bool) → Langs T A → ℕ → List T → ℕ → Type 0
IsFault Syntax opens L n s at = IsSyntaxFault L n s at
IsFault Deep opens L n s at = IsDeepFault opens L n s at

-- The answer on all of the tokens: the one value, or the fault, before so many tokens from the end.
abbrev pub Judges : {T A : Type 0} → (T → Bool) → Langs T A → ℕ → List T → Result A (Why × ℕ)
    → Type 0
Judges opens L n s (Ok a) = IsOnly L n s a
Judges opens L n s (Err e) = IsFault e.0 opens L n s (length s - e.1) × (e.1 ≤ length s)
