-- What comes first in a list of tokens, and what a refusal says in another language.
use Rattle.std.proofs.Common.{◌≡◌, ℕ, Bool, true, false, List, [], ◌∷◌, ◌++◌, Option, Some, None, refl, sym, ap, ◌∙◌}
use Rattle.formal_grammar.specs.declared.stop.Why.{Why}
use Rattle.formal_grammar.specs.declared.stop.Why.TheVariants.{Syntax, Deep}
use Rattle.formal_grammar.specs.Parse.{peek, sees}
use Rattle.formal_grammar.specs.Exact.{Langs, none, Within, StartsIn, Never, Deeper, IsBad}

-- After the same tokens the same token, or the end, comes first.
pub peek-append : {T : Type 0} (front a b : List T) → peek a ≡ peek b → peek (front ++ a) ≡ peek (front ++ b)
peek-append [] a b same = same
peek-append (t ∷ front) a b same = refl

-- the test of a first token, if there is one
seen : {T : Type 0} → (T → Bool) → Option T → Bool
seen f (Some t) = f t
seen f None = false

-- a test sees the first token alone
sees-seen : {T : Type 0} (f : T → Bool) (s : List T) → sees f s ≡ seen f (peek s)
unfolding seen
sees-seen f [] = refl
sees-seen f (t ∷ s) = refl

-- A test of the first token sees no more than that token.
pub sees-peek : {T : Type 0} (f : T → Bool) (a b : List T) → peek a ≡ peek b → sees f a ≡ sees f b
sees-peek f a b same = sees-seen f a ∙ ap (seen f) same ∙ sym (sees-seen f b)

-- No token is in the empty set.
pub sees-none : {T : Type 0} (s : List T) → sees none s ≡ false
sees-none [] = refl
sees-none (t ∷ s) = refl

-- What is no token of the larger set is none of the smaller.
pub sees-within : {T : Type 0} {small large : T → Bool} → Within small large → (s : List T) → sees large s ≡ false → sees small s ≡ false
sees-within within [] apart = refl
sees-within within (t ∷ s) apart = within t apart

-- Tokens that begin with one of f begin so whatever comes after them.
pub starts-sees : {T : Type 0} {f : T → Bool} (w k : List T) → StartsIn f w → sees f (w ++ k) ≡ true
starts-sees {f = f} w k x = ap (λ z. sees f (z ++ k)) x.cons ∙ x.passes

-- The first token of a text is the first of what it comes before.
pub peek_first : {T : Type 0} {t : T} {tail : List T} (w k x : List T) → w ≡ t ∷ tail → w ++ k ≡ x → peek x ≡ Some t
peek_first w k x w-is e = sym (ap peek e) ∙ ap (λ z. peek (z ++ k)) w-is

-- An option holds one value.
pub some_is : {A : Type 0} {a b : A} → ◌≡◌ {A = Option A} (Some a) (Some b) → a ≡ b
some_is e = cc

-- What is some value is not none.
pub not_none : {A : Type 0} {a : A} → ◌≡◌ {A = Option A} (Some a) None → ⊥
not_none e = cc

-- A test does not both pass and fail.
pub both_ways : {b : Bool} → b ≡ true → b ≡ false → ⊥
both_ways passes fails = cc

-- A refusal in one language is a refusal in another, if what never agrees and what is deeper is so there too.
pub bad_as : {T A B : Type 0} {opens : T → Bool} {L : Langs T A} {M : Langs T B} {e1 e2 : T → Bool} {n k : ℕ} {p q rest : List T} (why : Why) → ((m : ℕ) → Never L e1 m p rest → Never M e2 m q rest) → (Never L e1 n p rest → Never M e2 k q rest) → (Deeper opens L n p rest → Deeper opens M k q rest) → IsBad why opens L e1 n p rest → IsBad why opens M e2 k q rest
bad_as Syntax never here deeper bad = λ m. never m (bad m)
bad_as Deep never here deeper bad = (here bad.0, deeper bad.1)

-- What is refused never agrees at its own depth.
pub never_at : {T A : Type 0} (opens : T → Bool) (L : Langs T A) (ext : T → Bool) (n : ℕ) (p rest : List T) (why : Why) → IsBad why opens L ext n p rest → Never L ext n p rest
never_at opens L ext n p rest Syntax bad = bad n
never_at opens L ext n p rest Deep bad = bad.0
