-- Lemmas on lists.
use Rattle.std.proofs.Common.{◌≡◌, ◌≢◌, ℕ, Bool, true, false, List, [], ◌∷◌, ◌++◌, refl}
use Rattle.std.specs.Prelude.{map}
use Rattle.std.specs.List.{AllByRecursion}
use Rattle.std.specs.Str.{bytes_eq}
use Rattle.std.proofs.lemmas.Slice.Eq.{bytes_eq-Decides}

-- only an append of empty lists is empty
pub both_empty : {A : Type 0} (one other : List A) → one ++ other ≡ [] → (one ≡ []) × (other ≡ [])
both_empty [] other e = (refl, e)
both_empty (x ∷ one) other e = absurd (cc)

pub map_empty : {A B : Type 0} (f : A → B) (xs : List A) → map f xs ≡ [] → xs ≡ []
map_empty f [] e = refl
map_empty f (x ∷ xs) e = absurd (cc)

pub all_map : {A : Type 0} (P Q : A → Type 0) (xs : List A) → ((x : A) → P x → Q x) → AllByRecursion P xs → AllByRecursion Q xs
all_map P Q [] f all = tt
all_map P Q (x ∷ xs) f all = (f x all.0, all_map P Q xs f all.1)

pub all_append : {A : Type 0} (P : A → Type 0) (xs ys : List A) → AllByRecursion P xs → AllByRecursion P ys → AllByRecursion P (xs ++ ys)
all_append P [] ys all more = more
all_append P (x ∷ xs) ys all more = (all.0, all_append P xs ys all.1 more)

-- the entry after a prefix
pub all_at : {A : Type 0} (P : A → Type 0) (before after : List A) (x : A) → AllByRecursion P (before ++ x ∷ after) → P x
all_at P [] after x all = all.0
all_at P (y ∷ before) after x all = all_at P before after x all.1

-- ---- tests

pub tests_apart : (b : Bool) → b ≡ true → b ≡ false → ⊥
tests_apart b is other = absurd (cc)

pub names_equal : (one other : List ℕ) → bytes_eq one other ≡ true → one ≡ other
names_equal one other e = (bytes_eq-Decides one other).0 e

pub names_same : (one other : List ℕ) → one ≡ other → bytes_eq one other ≡ true
names_same one other e = (bytes_eq-Decides one other).1 e

pub names_differ : (one other : List ℕ) → one ≢ other → bytes_eq one other ≡ false
names_differ one other apart = by_test (bytes_eq one other) refl
  where
    by_test : (b : Bool) → bytes_eq one other ≡ b → bytes_eq one other ≡ false
    by_test true is = absurd (apart (names_equal one other is))
    by_test false is = is

-- ---- answers
