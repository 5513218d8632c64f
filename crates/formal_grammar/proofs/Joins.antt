-- What comes first where a text is: the conditions at each join of two parts.
use Rattle.std.proofs.Common.{◌≡◌, ℕ, zero, suc, Bool, true, false, List, [], ◌∷◌, ◌++◌, Option, Some, None, ◌⊎◌, inl, inr, refl, ap, ◌∙◌, append_assoc}
use Rattle.formal_grammar.specs.Lang.{Lang, ◌>>=◌, ◌or◌, gives, shown, token, the, one_of, optional, many, listed}
use Rattle.formal_grammar.specs.Parse.{sees}
use Rattle.formal_grammar.specs.Exact.{Langs, none, Within, Apart, StartsIn, Starts, Joins, nested}
use Rattle.formal_grammar.proofs.Contexts.{sees-none, sees-within, both_ways}

-- ---- with which tokens texts begin

-- What begins with a prefix begins as the prefix does.
pub starts_first : {T : Type 0} {f : T → Bool} (w front back : List T) → w ≡ front ++ back → StartsIn f front → StartsIn f w
starts_first w front back whole x = record { head = x.head; tail = x.tail ++ back; cons = whole ∙ ap (λ z. z ++ back) x.cons; passes = x.passes }

-- A sequence begins as its first part does.
pub starts_then : {T A B : Type 0} {f : T → Bool} {p : Langs T A} {q : A → Langs T B} → Starts f p → Starts f (λ m. p m >>= λ a. q a m)
starts_then starts = record { first = λ m w b t. starts_first w t.front t.back t.whole (starts.first m t.front t.value t.first) }

-- A choice begins as either part does.
pub starts_or : {T A : Type 0} {f : T → Bool} {p q : Langs T A} → Starts f p → Starts f q → Starts f (λ m. p m or q m)
starts_or {T = T} {A = A} {f = f} {p = p} {q = q} x y = record { first = first }
  where
    first : (m : ℕ) (w : List T) (a : A) → p m w a ⊎ q m w a → StartsIn f w
    first m w a (inl t) = x.first m w a t
    first m w a (inr t) = y.first m w a t

-- One token that shows a value begins with such a token.
pub starts_shown : {T A : Type 0} {f : T → Bool} {view : T → Option A} → ((t : T) (a : A) → view t ≡ Some a → f t ≡ true) → Starts f (λ m. shown view)
starts_shown passes = record { first = λ m w a t. record { head = t.0; tail = []; cons = t.1; passes = passes t.0 a t.2 } }

-- The token that is made of a value begins with itself.
pub starts_token : {T A : Type 0} {f : T → Bool} {make : A → T} → ((a : A) → f (make a) ≡ true) → Starts f (λ m. token make)
starts_token {make = make} passes = record { first = λ m w a e. record { head = make a; tail = []; cons = e; passes = passes a } }

-- This token begins with itself.
pub starts_the : {T : Type 0} {f : T → Bool} {t : T} → f t ≡ true → Starts f (λ m. the t)
starts_the {t = t} passes = record { first = λ m w a e. record { head = t; tail = []; cons = e; passes = passes } }

-- what passes a test passes a larger one
in_larger : (small large : Bool) → (large ≡ false → small ≡ false) → small ≡ true → large ≡ true
in_larger small true within passes = refl
in_larger small false within passes = absurd (both_ways passes (within refl))

-- One token that passes a test begins with such a token.
pub starts_one_of : {T : Type 0} {f : T → Bool} → Starts f (λ m. one_of f)
starts_one_of = record { first = λ m w a u. record { head = u.0; tail = []; cons = u.1; passes = u.2 } }

-- What begins with a token of a set begins with one of each larger set.
pub starts_wider : {T A : Type 0} {f g : T → Bool} {L : Langs T A} → Within f g → Starts f L → Starts g L
starts_wider {f = f} {g = g} within starts = record {
  first = λ m w a t.
      let x = starts.first m w a t in
      record { head = x.head; tail = x.tail; cons = x.cons; passes = in_larger (f x.head) (g x.head) (within x.head) x.passes };
}

-- Texts that are among others begin as those do.
pub starts_among : {T A : Type 0} {f : T → Bool} {L M : Langs T A} → ((m : ℕ) (w : List T) (a : A) → M m w a → L m w a) → Starts f L → Starts f M
starts_among among starts = record { first = λ m w a t. starts.first m w a (among m w a t) }

-- A list begins as its parts do.
pub starts_listed : {T A : Type 0} {f : T → Bool} {separator : Lang T (Unit {0})} {p : Langs T A} → Starts f p → Starts f (λ m. listed separator (p m))
starts_listed starts = record { first = λ m w b x. starts_first w x.front x.back x.whole (starts.first m x.front x.value x.first) }

-- Nested texts begin as all do.
pub starts_nested : {T A : Type 0} {f : T → Bool} {L : Langs T A} → Starts f L → Starts f (nested L)
starts_nested {T = T} {A = A} {f = f} {L = L} starts = record { first = first }
  where
    first : (m : ℕ) (w : List T) (a : A) → nested L m w a → StartsIn f w
    first zero w a t = absurd t
    first (suc m) w a t = starts.first m w a t

-- ---- what doesn't come first

-- No token is in the empty set.
pub joins_none : {T A : Type 0} {L : Langs T A} {ext : T → Bool} → Joins none L ext
joins_none = record { clear = λ m w a k t apart. sees-none (w ++ k) }

-- After the empty text comes what follows.
pub joins_gives : {T A : Type 0} (before : T → Bool) (a : A) (ext : T → Bool) → Within before ext → Joins before (λ m. gives a) ext
joins_gives before a ext within = record { clear = λ m w b k t apart. ap (λ z. sees before (z ++ k)) t.0 ∙ sees-within within k apart }

-- What texts begin with is apart from the set.
pub joins_starts : {T A : Type 0} {f before : T → Bool} {L : Langs T A} {ext : T → Bool} → Apart f before → Starts f L → Joins before L ext
joins_starts {before = before} apart starts = record {
  clear = λ m w a k t _.
      let x = starts.first m w a t in
      ap (λ z. sees before (z ++ k)) x.cons ∙ apart x.head x.passes;
}

-- This token, where it isn't in the set.
pub joins_the : {T : Type 0} {before ext : T → Bool} {t : T} → before t ≡ false → Joins before (λ m. the t) ext
joins_the {before = before} apart = record { clear = λ m w a k e _. ap (λ z. sees before (z ++ k)) e ∙ apart }

-- At the first part of a sequence the second one follows.
pub joins_then : {T A B : Type 0} {before between ext : T → Bool} {p : Langs T A} {q : A → Langs T B} → Joins before p between → ((a : A) → Joins between (q a) ext) → Joins before (λ m. p m >>= λ a. q a m) ext
joins_then {before = before} x y = record {
  clear = λ m w b k t apart.
      ap (λ z. sees before (z ++ k)) t.whole ∙ ap (sees before) (append_assoc t.front t.back k) ∙ x.clear m t.front t.value (t.back ++ k) t.first ((y t.value).clear m t.back b k t.second apart);
}

-- Each part of a choice.
pub joins_or : {T A : Type 0} {before ext : T → Bool} {p q : Langs T A} → Joins before p ext → Joins before q ext → Joins before (λ m. p m or q m) ext
joins_or {T = T} {A = A} {before = before} {ext = ext} {p = p} {q = q} x y = record { clear = clear }
  where
    clear : (m : ℕ) (w : List T) (a : A) (k : List T) → p m w a ⊎ q m w a → sees ext k ≡ false → sees before (w ++ k) ≡ false
    clear m w a k (inl t) apart = x.clear m w a k t apart
    clear m w a k (inr t) apart = y.clear m w a k t apart

-- An optional part that begins apart from the set, or what comes after it.
pub joins_skip : {T A B : Type 0} {f before ext : T → Bool} {p : Langs T A} {q : Option A → Langs T B} → Apart f before → Starts f p → ((o : Option A) → Joins before (q o) ext) → Joins before (λ m. optional (p m) >>= λ o. q o m) ext
joins_skip {before = before} apart starts behind = joins_then {between = before} (joins_or (joins_starts apart (starts_then starts)) (joins_gives before None before (λ t h. h))) behind

-- Many parts that begin apart from the set, or what follows.
pub joins_many : {T A : Type 0} {f before ext : T → Bool} {p : Langs T A} → Apart f before → Starts f p → Within before ext → Joins before (λ m. many (p m)) ext
joins_many {T = T} {A = A} {f = f} {before = before} {ext = ext} {p = p} apart starts within = record { clear = clear }
  where
    clear : (m : ℕ) (w : List T) (b : List A) (k : List T) → many (p m) w b → sees ext k ≡ false → sees before (w ++ k) ≡ false
    clear m w [] k t follows = ap (λ z. sees before (z ++ k)) t ∙ sees-within within k follows
    clear m w (a ∷ later) k t follows =
        let x = starts_first w t.0 t.1 t.4 (starts.first m t.0 a t.2) in
        ap (λ z. sees before (z ++ k)) x.cons ∙ apart x.head x.passes

-- Nested texts are where all are.
pub joins_nested : {T A : Type 0} {before ext : T → Bool} {L : Langs T A} → Joins before L ext → Joins before (nested L) ext
joins_nested {T = T} {A = A} {before = before} {ext = ext} {L = L} x = record { clear = clear }
  where
    clear : (m : ℕ) (w : List T) (a : A) (k : List T) → nested L m w a → sees ext k ≡ false → sees before (w ++ k) ≡ false
    clear zero w a k t apart = absurd t
    clear (suc m) w a k t apart = x.clear m w a k t apart
