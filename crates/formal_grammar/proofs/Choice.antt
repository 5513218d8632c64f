-- One part or the other: the first token decides, or the first two.
use Rattle.std.proofs.Common.{◌≡◌, ℕ, Bool, true, false, List, ◌++◌, Some, None, if◌then◌else◌, inl, inr, refl, ◌∙◌}
use Rattle.formal_grammar.specs.Lang.{◌or◌, gives, optional}
use Rattle.formal_grammar.specs.Parse.{Outcome, Parser, peek, sees, when, maybe}
use Rattle.formal_grammar.specs.Exact.{Langs, Within, Grows, Has, Exact, IsRule, Starts, Joins}
use Rattle.formal_grammar.proofs.Contexts.{sees-peek, starts-sees, both_ways}
use Rattle.formal_grammar.proofs.Widening.{exact_part}
use Rattle.formal_grammar.proofs.Sequence.{rule_then}
use Rattle.formal_grammar.proofs.Single.{rule_gives}
use Rattle.formal_grammar.proofs.Joins.{starts_then, joins_gives}

module _ {T A : Type 0} (opens : T → Bool) (p q : Langs T A) (ext : T → Bool) (n : ℕ) where
  -- the language of both
  abbrev choice : Langs T A
  choice m = p m or q m

  -- At s the first part alone can be there.
  pub exact_left : (s : List T) → ((m : ℕ) (w : List T) (a : A) (k : List T) → q m w a → sees ext k ≡ false → peek (w ++ k) ≡ peek s → ⊥) → (out : Outcome T A) → Exact opens p ext n s out → Exact opens choice ext n s out
  exact_left s not_right out exact = exact_part opens p choice ext ext n (λ t h. h) (λ m w a t. inl t) s from out exact
    where
      from : (m : ℕ) (w : List T) (a : A) (k : List T) → choice m w a → sees ext k ≡ false → peek (w ++ k) ≡ peek s → p m w a
      from m w a k (inl t) apart same = t
      from m w a k (inr t) apart same = absurd (not_right m w a k t apart same)

  -- At s the second part alone can be there.
  pub exact_right : (s : List T) → ((m : ℕ) (w : List T) (a : A) (k : List T) → p m w a → sees ext k ≡ false → peek (w ++ k) ≡ peek s → ⊥) → (out : Outcome T A) → Exact opens q ext n s out → Exact opens choice ext n s out
  exact_right s not_left out exact = exact_part opens q choice ext ext n (λ t h. h) (λ m w a t. inr t) s from out exact
    where
      from : (m : ℕ) (w : List T) (a : A) (k : List T) → choice m w a → sees ext k ≡ false → peek (w ++ k) ≡ peek s → q m w a
      from m w a k (inl t) apart same = absurd (not_left m w a k t apart same)
      from m w a k (inr t) apart same = t

  -- A choice grows as its parts do.
  pub grows_choice : Grows p → Grows q → Grows choice
  grows_choice x y m k w a le (inl t) = inl (x m k w a le t)
  grows_choice x y m k w a le (inr t) = inr (y m k w a le t)

  -- A choice has a text if its second part has.
  pub has_right : (m : ℕ) → Has q m → Has choice m
  has_right m x = record { text = x.text; value = x.value; spells = inr x.spells }

  module _ (f : T → Bool) (starts : Starts f p) (joins : Joins f q ext) where
    -- the part that the first token chooses
    chosen : (s : List T) (b : Bool) (x y : Outcome T A) → sees f s ≡ b → (b ≡ true → Exact opens p ext n s x) → (b ≡ false → Exact opens q ext n s y) → Exact opens choice ext n s (if b then x else y)
    chosen s true x y sees-is left right = exact_left s (λ m w a k t apart same. both_ways (sees-peek f (w ++ k) s same ∙ sees-is) (joins.clear m w a k t apart)) x (left refl)
    chosen s false x y sees-is left right = exact_right s (λ m w a k t apart same. both_ways (starts-sees w k (starts.first m w a t)) (sees-peek f (w ++ k) s same ∙ sees-is)) y (right refl)

-- The first part begins with a token of f, and where the second one is there is none.
pub rule_when : {T A : Type 0} {opens : T → Bool} {p q : Langs T A} {P Q : Parser T A} {ext : T → Bool} {n : ℕ} (f : T → Bool) → Starts f p → Joins f q ext → IsRule opens p P ext n → IsRule opens q Q ext n → IsRule opens (λ m. p m or q m) (when f P Q) ext n
rule_when {opens = opens} {p = p} {q = q} {P = P} {Q = Q} {ext = ext} {n = n} f starts joins x y = record {
  grows = grows_choice opens p q ext n x.grows y.grows;
  has = λ m le. has_right opens p q ext n m (y.has m le);
  exact = λ s. chosen opens p q ext n f starts joins s (sees f s) (P s) (Q s) refl (λ _. x.exact s) (λ _. y.exact s);
}

-- A part that begins with a token of f, or none.
pub rule_optional : {T A : Type 0} {opens : T → Bool} {p : Langs T A} {P : Parser T A} {e1 : T → Bool} {n : ℕ} (f ext : T → Bool) → Starts f p → Within f ext → Within e1 ext → IsRule opens p P e1 n → IsRule opens (λ m. optional (p m)) (maybe f P) ext n
rule_optional {p = p} {e1 = e1} {n = n} f ext starts f-within e1-within x =
    rule_when f (starts_then starts) (joins_gives f None ext f-within)
    (rule_then {q = λ a m. gives (Some a)} (λ a. joins_gives e1 (Some a) ext e1-within) x (λ a. rule_gives (Some a) ext n))
    (rule_gives None ext n)
