-- Where each part has more texts, the whole has. Of use where a language calls itself, and its growth is a recursion.
use Rattle.std.proofs.Common.{ℕ, List, [], ◌∷◌, inl, inr, refl}
use Rattle.formal_grammar.specs.Lang.{Lang, ◌>>=◌, ◌>>◌, ◌or◌, optional, many, listed}
use Rattle.formal_grammar.specs.Exact.{Langs, Has, Begins}

-- Each text of the one language is one of the other.
abbrev pub Among : {T A : Type 0} → Lang T A → Lang T A → Type 0
Among {T = T} {A = A} p q = (w : List T) (a : A) → p w a → q w a

-- Sequences of more texts are more.
pub among_then : {T A B : Type 0} {p p' : Lang T A} {q q' : A → Lang T B} → Among p p' → ((a : A) → Among (q a) (q' a)) → Among (p >>= q) (p' >>= q')
among_then first second w b t = record { front = t.front; back = t.back; value = t.value; first = first t.front t.value t.first; second = second t.value t.back b t.second; whole = t.whole }

-- Choices of more texts are more.
pub among_or : {T A : Type 0} {p p' q q' : Lang T A} → Among p p' → Among q q' → Among (p or q) (p' or q')
among_or left right w a (inl t) = inl (left w a t)
among_or left right w a (inr t) = inr (right w a t)

-- Optional parts of more texts are more.
pub among_optional : {T A : Type 0} {p p' : Lang T A} → Among p p' → Among (optional p) (optional p')
among_optional more = among_or (among_then more (λ a w b t. t)) (λ w b t. t)

-- Repetitions of more texts are more.
pub among_many : {T A : Type 0} {p p' : Lang T A} → Among p p' → Among (many p) (many p')
among_many more w [] t = t
among_many more w (a ∷ later) t = (t.0, t.1, more t.0 a t.2, among_many more t.1 later t.3, t.4)

-- Lists of more texts are more.
pub among_listed : {T A : Type 0} (separator : Lang T (Unit {0})) {p p' : Lang T A} → Among p p' → Among (listed separator p) (listed separator p')
among_listed separator {p = p} {p' = p'} more = among_then more (λ a. among_then (among_many (among_then {p = separator} {q = λ _. p} {q' = λ _. p'} (λ w u t. t) (λ _. more))) (λ later w b t. t))

-- A token that is a text begins what comes after it, if there is such a text.
pub begins_behind : {T A B : Type 0} (first : Lang T B) (t : T) (b : B) {L : Langs T A} {m : ℕ} → first (t ∷ []) b → Has L m → Begins (λ k. first >> L k) m (t ∷ [])
begins_behind first t b one h = record {
  more = h.text;
  value = h.value;
  text = record { front = t ∷ []; back = h.text; value = b; first = one; second = h.spells; whole = refl };
}
