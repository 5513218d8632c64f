-- One more level of nesting, and the level at which there is no more.
use Rattle.std.proofs.Common.{◌≡◌, ℕ, zero, suc, ◌≤◌, Bool, true, false, List, [], ◌∷◌, ◌++◌, Ok, Err, if◌then◌else◌, inl, inr, refl, ap, ◌∙◌, arith}
use Rattle.formal_grammar.specs.declared.stop.Why.{Why}
use Rattle.formal_grammar.specs.declared.stop.Why.TheVariants.{Syntax, Deep}
use Rattle.formal_grammar.specs.Lang.{◌or◌}
use Rattle.formal_grammar.specs.Parse.{Outcome, Parser, peek, sees, stop, when}
use Rattle.formal_grammar.specs.Exact.{Langs, Grows, Has, Never, Begins, Took, IsBad, Exact, IsRule, Starts, Joins, nested}
use Rattle.formal_grammar.proofs.Contexts.{sees-peek, starts-sees, both_ways}
use Rattle.formal_grammar.proofs.Choice.{exact_right, grows_choice, has_right}

-- Nested texts grow as all do.
pub grows_nested : {T A : Type 0} (L : Langs T A) → Grows L → Grows (nested L)
grows_nested L grows zero k w a le t = absurd t
grows_nested L grows (suc m) zero w a le t = absurd (omega (arith, le))
grows_nested L grows (suc m) (suc k) w a le t = grows m k w a (omega (arith, le)) t

module _ {T A : Type 0} (opens : T → Bool) (L : Langs T A) (ext : T → Bool) (n : ℕ) where
  -- nested texts are there one level deeper
  has_nested : ((m : ℕ) → n ≤ m → Has L m) → (m : ℕ) → suc n ≤ m → Has (nested L) m
  has_nested has zero le = absurd (omega (arith, le))
  has_nested has (suc m) le = let h = has m (omega (arith, le)) in record { text = h.text; value = h.value; spells = h.spells }

  -- what begins a text begins a nested one
  begins_nested : (m : ℕ) (p : List T) → Begins L m p → Begins (nested L) (suc m) p
  begins_nested m p x = record { more = x.more; value = x.value; text = x.text }

  -- what is refused is refused of the nested texts
  bad_nested : (why : Why) (p rest : List T) → IsBad why opens L ext n p rest → IsBad why opens (nested L) ext (suc n) p rest
  bad_nested Syntax p rest bad = never
    where
      never : (m : ℕ) → Never (nested L) ext m p rest
      never zero w a k other t apart same e = t
      never (suc m) w a k other t apart same e = bad m w a k other t apart same e
  bad_nested Deep p rest bad =
      let d = bad.1 in
      (bad.0, record { depth = suc d.depth; head = d.head; tail = d.tail; cons = d.cons; opening = d.opening; more = omega (arith, d.more); begins = begins_nested d.depth (p ++ (d.head ∷ [])) d.begins })

  -- what was taken is taken of the nested texts
  took_nested : (s : List T) (a : A) (rest : List T) → Took L ext n s a rest → Took (nested L) ext (suc n) s a rest
  took_nested s a rest x = record { text = x.text; whole = x.whole; spells = x.spells; only = only }
    where
      only : (m : ℕ) (w : List T) (b : A) (k other : List T) → nested L m w b → sees ext k ≡ false → peek other ≡ peek rest → w ++ k ≡ x.text ++ other → (w ≡ x.text) × (b ≡ a)
      only zero w b k other t apart same e = absurd t
      only (suc m) w b k other t apart same e = x.only m w b k other t apart same e

  -- an outcome that is exact is exact for the nested texts
  exact_nested : (s : List T) (out : Outcome T A) → Exact opens L ext n s out → Exact opens (nested L) ext (suc n) s out
  exact_nested s (Ok y) exact = took_nested s y.0 y.1 exact
  exact_nested s (Err e) x = record {
    text = x.text;
    rest = x.rest;
    whole = x.whole;
    at = x.at;
    begins = begins_nested n x.text x.begins;
    bad = bad_nested e.0 x.text x.rest x.bad;
  }

-- One level deeper the same parser is exact for the nested texts.
pub rule_nested : {T A : Type 0} {opens : T → Bool} {L : Langs T A} {P : Parser T A} {ext : T → Bool} {n : ℕ} → IsRule opens L P ext n → IsRule opens (nested L) P ext (suc n)
rule_nested {opens = opens} {L = L} {P = P} {ext = ext} {n = n} x = record {
  grows = grows_nested L x.grows;
  has = has_nested opens L ext n x.has;
  exact = λ s. exact_nested opens L ext n s (P s) (x.exact s);
}

module _ {T A : Type 0} (opens : T → Bool) (p q : Langs T A) (ext f : T → Bool) (inside : (t : T) → f t ≡ true → opens t ≡ true) (starts : Starts f p) (joins : Joins f q ext) (empty : (w : List T) (a : A) → p 0 w a → ⊥) (begins : (t : T) → f t ≡ true → Begins p 1 (t ∷ [])) where
  -- the language of both
  abbrev choice : Langs T A
  choice m = p m or q m

  -- no token begins a text
  begins_empty : Has q 0 → Begins choice 0 []
  begins_empty h = record { more = h.text; value = h.value; text = inr h.spells }

  -- at depth 0 no text begins with what opens
  never_here : (s : List T) → sees f s ≡ true → Never choice ext 0 [] s
  never_here s sees-is w a k other (inl t) apart same e = empty w a t
  never_here s sees-is w a k other (inr t) apart same e = both_ways (sees-peek f (w ++ k) s (ap peek e ∙ same) ∙ sees-is) (joins.clear 0 w a k t apart)

  -- to stop there is exact
  floor_stops : (s : List T) → Has q 0 → sees f s ≡ true → Exact opens choice ext 0 s (stop Deep s)
  floor_stops [] h sees-is = absurd (both_ways sees-is refl)
  floor_stops (t ∷ s) h sees-is =
      let b = begins t sees-is in
      record {
        text = [];
        rest = t ∷ s;
        whole = refl;
        at = refl;
        begins = begins_empty h;
        bad = (never_here (t ∷ s) sees-is, record { depth = 1; head = t; tail = s; cons = refl; opening = inside t sees-is; more = omega arith; begins = record { more = b.more; value = b.value; text = inl b.text } });
      }

  -- the part that the first token chooses
  floor_chosen : (s : List T) (b : Bool) (Q : Parser T A) → sees f s ≡ b → Has q 0 → Exact opens q ext 0 s (Q s) → Exact opens choice ext 0 s (if b then stop Deep s else Q s)
  floor_chosen s true Q sees-is h exact = floor_stops s h sees-is
  floor_chosen s false Q sees-is h exact = exact_right opens p q ext 0 s (λ m w a k t apart same. both_ways (starts-sees w k (starts.first m w a t)) (sees-peek f (w ++ k) s same ∙ sees-is)) (Q s) exact

-- Where no more may be nested: what would open one more is refused as too deep, and the other part is read.
pub rule_floor : {T A : Type 0} {opens : T → Bool} (p : Langs T A) {q : Langs T A} {Q : Parser T A} {ext : T → Bool} (f : T → Bool) → ((t : T) → f t ≡ true → opens t ≡ true) → Grows p → ((w : List T) (a : A) → p 0 w a → ⊥) → ((t : T) → f t ≡ true → Begins p 1 (t ∷ [])) → Starts f p → Joins f q ext → IsRule opens q Q ext 0 → IsRule opens (λ m. p m or q m) (when f (stop Deep) Q) ext 0
rule_floor {opens = opens} p {q = q} {Q = Q} {ext = ext} f inside grows empty begins starts joins y = record {
  grows = grows_choice opens p q ext 0 grows y.grows;
  has = λ m le. has_right opens p q ext 0 m (y.has m le);
  exact = λ s. floor_chosen opens p q ext f inside starts joins empty begins s (sees f s) Q refl (y.has 0 le) (y.exact s);
}
  where
    le : 0 ≤ 0
    le = omega arith
