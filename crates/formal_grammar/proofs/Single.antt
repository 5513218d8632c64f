-- One token, or none.
use Rattle.std.proofs.Common.{◌≡◌, ℕ, Bool, true, false, List, [], ◌∷◌, Option, Some, None, refl, sym, ap, ◌∙◌}
use Rattle.formal_grammar.specs.Lang.{gives, shown, token, the, one_of}
use Rattle.formal_grammar.specs.Parse.{pure, accepted, accept, this}
use Rattle.formal_grammar.specs.Exact.{Langs, none, Begins, Exact, IsRule}
use Rattle.formal_grammar.proofs.Contexts.{peek_first, some_is, not_none}
use Rattle.formal_grammar.proofs.Widening.{rule_same}

-- The empty text.
pub rule_gives : {T A : Type 0} {opens : T → Bool} (a : A) (ext : T → Bool) (n : ℕ) → IsRule opens (λ m. gives a) (pure a) ext n
rule_gives a ext n = record {
  grows = λ m k w b le t. t;
  has = λ m le. record { text = []; value = a; spells = (refl, refl) };
  exact = λ s. record { text = []; whole = refl; spells = (refl, refl); only = λ m w b k other t apart same e. t };
}

module _ {T A : Type 0} (opens : T → Bool) (view : T → Option A) (t0 : T) (a0 : A) (shows : view t0 ≡ Some a0) (n : ℕ) where
  -- the language of one token
  one : Langs T A
  one m = shown view

  -- no token begins it
  begins_none : Begins one n []
  unfolding one
  begins_none = record { more = t0 ∷ []; value = a0; text = (t0, refl, shows) }

  -- the outcome at a first token is exact
  accepted_exact : (t : T) (s : List T) (o : Option A) → view t ≡ o → Exact opens one none n (t ∷ s) (accepted o s (t ∷ s))
  unfolding one
  accepted_exact t s (Some a) e = record {
    text = t ∷ [];
    whole = refl;
    spells = (t, refl, e);
    only = λ m w b k other u apart same eq.
        let same_token : u.0 ≡ t = some_is (sym (peek_first w k (t ∷ other) u.1 eq)) in
        (u.1 ∙ ap (λ (z : T). z ∷ []) same_token, some_is (sym u.2 ∙ ap view same_token ∙ e));
  }
  accepted_exact t s None e = record {
    text = [];
    rest = t ∷ s;
    whole = refl;
    at = refl;
    begins = begins_none;
    bad = λ m w b k other u apart same eq.
        let same_token : u.0 ≡ t = some_is (sym (peek_first w k other u.1 eq) ∙ same) in
        not_none (sym u.2 ∙ ap view same_token ∙ e);
  }

  -- the outcome is exact everywhere
  accept_exact : (s : List T) → Exact opens one none n s (accept view s)
  unfolding one
  accept_exact [] = record {
    text = [];
    rest = [];
    whole = refl;
    at = refl;
    begins = begins_none;
    bad = λ m w b k other u apart same eq. not_none (sym (peek_first w k other u.1 eq) ∙ same);
  }
  accept_exact (t ∷ s) = accepted_exact t s (view t) refl

-- One token that shows a value; t0 is one that does.
pub rule_shown : {T A : Type 0} {opens : T → Bool} (view : T → Option A) (t0 : T) (a0 : A) → view t0 ≡ Some a0 → (n : ℕ) → IsRule opens (λ m. shown view) (accept view) none n
unfolding one
rule_shown {opens = opens} view t0 a0 shows n = record {
  grows = λ m k w b le t. t;
  has = λ m le. record { text = t0 ∷ []; value = a0; spells = (t0, refl, shows) };
  exact = accept_exact opens view t0 a0 shows n;
}

-- The one token that is made of a value, where the view takes it apart again.
pub rule_token : {T A : Type 0} {opens : T → Bool} (view : T → Option A) (make : A → T) → ((a : A) → view (make a) ≡ Some a) → ((t : T) (a : A) → view t ≡ Some a → t ≡ make a) → (a0 : A) (n : ℕ) → IsRule opens (λ m. token make) (accept view) none n
rule_token {T = T} view make shows only a0 n =
    rule_same (λ m. token make)
    (λ m w a u. u.1 ∙ ap (λ (z : T). z ∷ []) (only u.0 a u.2))
    (λ m w a e. (make a, e, shows a))
    (rule_shown view (make a0) a0 (shows a0) n)

-- what a test shows passes it
passed : {T : Type 0} (is : T → Bool) (t : T) (b : Bool) (a : Unit {0}) → is t ≡ b → this is t ≡ Some a → is t ≡ true
passed is t true a e shows = e
passed is t false a e shows = absurd (not_none (sym shows ∙ rw e refl))

this_passes : {T : Type 0} (f : T → Bool) (t : T) → f t ≡ true → this f t ≡ Some tt
this_passes f t passes = rw passes refl

-- One token that passes the test; t0 is one that does.
pub rule_one_of : {T : Type 0} {opens : T → Bool} (f : T → Bool) (t0 : T) → f t0 ≡ true → (n : ℕ) → IsRule opens (λ m. one_of f) (accept (this f)) none n
rule_one_of f t0 passes n =
    rule_same (λ m. one_of f)
    (λ m w a u. (u.0, u.1, passed f u.0 (f u.0) a refl u.2))
    (λ m w a u. (u.0, u.1, this_passes f u.0 u.2))
    (rule_shown (this f) t0 tt (this_passes f t0 passes) n)

-- This token, the only one that passes the test.
pub rule_the : {T : Type 0} {opens : T → Bool} (is : T → Bool) (t0 : T) → is t0 ≡ true → ((t : T) → is t ≡ true → t ≡ t0) → (n : ℕ) → IsRule opens (λ m. the t0) (accept (this is)) none n
rule_the {T = T} is t0 passes only n =
    rule_same (λ m. the t0)
    (λ m w a u. u.1 ∙ ap (λ (z : T). z ∷ []) (only u.0 (passed is u.0 (is u.0) a refl u.2)))
    (λ m w a e. (t0, e, rw passes refl))
    (rule_shown (this is) t0 tt (rw passes refl) n)
