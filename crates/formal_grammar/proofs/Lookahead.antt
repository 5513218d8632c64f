-- One part or the other, where both begin alike and the second token decides.
use Rattle.std.proofs.Common.{◌≡◌, ℕ, Bool, true, false, List, [], ◌∷◌, ◌++◌, Ok, Err, if◌then◌else◌, inl, inr, refl, sym, ap, subst, ◌∙◌, append-nil}
use Rattle.formal_grammar.specs.declared.stop.Why.{Why}
use Rattle.formal_grammar.specs.Lang.{Lang, ◌>>◌, ◌or◌}
use Rattle.formal_grammar.specs.Parse.{Outcome, Parser, peek, sees, rest_of, when_two}
use Rattle.formal_grammar.specs.Exact.{Langs, Never, Begins, Took, Deeper, Stopped, Exact, IsRule, Starts, Joins, Seconds}
use Rattle.formal_grammar.proofs.Contexts.{peek-append, sees-peek, starts-sees, both_ways, bad_as, never_at}
use Rattle.formal_grammar.proofs.Choice.{exact_right, grows_choice, has_right}

-- the first two tokens, where the text that comes before it isn't empty
same_two : {T : Type 0} (text rest other s x : List T) → s ≡ text ++ rest → (text ≡ [] → ⊥) → x ≡ text ++ other → peek other ≡ peek rest → (peek x ≡ peek s) × (peek (rest_of x) ≡ peek (rest_of s))
same_two [] rest other s x whole some e same = absurd (some refl)
same_two (t ∷ text) rest other s x whole some e same =
    (ap peek e ∙ sym (ap peek whole), ap (λ z. peek (rest_of z)) e ∙ peek-append text other rest same ∙ sym (ap (λ z. peek (rest_of z)) whole))

module _ {T A : Type 0} (opens : T → Bool) (L M : Langs T A) (ext : T → Bool) (n : ℕ) (to : (m : ℕ) (w : List T) (a : A) → L m w a → M m w a) (s : List T) (some : (m : ℕ) (a : A) → L m [] a → ⊥) (t : T) (tail : List T) (cons : s ≡ t ∷ tail) (first_is : Begins L n (t ∷ [])) (from : (m : ℕ) (w : List T) (a : A) (k : List T) → M m w a → sees ext k ≡ false → peek (rest_of (w ++ k)) ≡ peek (rest_of s) → L m w a) where
  -- what was taken is taken of the larger language
  took_pair : (a : A) (rest : List T) → Took L ext n s a rest → Took M ext n s a rest
  took_pair a rest x = record {
    text = x.text;
    whole = x.whole;
    spells = to n x.text a x.spells;
    only = λ m w b k other u apart same e. x.only m w b k other (from m w b k u apart (same_two x.text rest other s (w ++ k) x.whole filled e same).1) apart same e;
  }
    where
      filled : x.text ≡ [] → ⊥
      filled e = some n a (subst (λ (z : List T). L n z a) e x.spells)

  -- the first token was not refused
  past_first : (text rest : List T) → s ≡ text ++ rest → Never L ext n text rest → text ≡ [] → ⊥
  past_first text rest whole none e =
      let first : peek rest ≡ peek (t ∷ tail) = sym (ap (λ z. peek (z ++ rest)) e) ∙ sym (ap peek whole) ∙ ap peek cons in
      none ((t ∷ []) ++ first_is.more) first_is.value [] (t ∷ first_is.more) first_is.text refl (sym first) (append-nil (t ∷ first_is.more) ∙ sym (ap (λ z. z ++ (t ∷ first_is.more)) e))

  -- what was refused is refused of the larger language
  stopped_pair : (e : Why × ℕ) → Stopped opens L ext n s e.0 e.1 → Stopped opens M ext n s e.0 e.1
  stopped_pair e x = record {
    text = x.text;
    rest = x.rest;
    whole = x.whole;
    at = x.at;
    begins = begins n x.text x.begins;
    bad = bad_as e.0 never (never n) deeper x.bad;
  }
    where
      begins : (m : ℕ) (p : List T) → Begins L m p → Begins M m p
      begins m p y = record { more = y.more; value = y.value; text = to m (p ++ y.more) y.value y.text }

      filled : x.text ≡ [] → ⊥
      filled = past_first x.text x.rest x.whole (never_at opens L ext n x.text x.rest e.0 x.bad)

      never : (m : ℕ) → Never L ext m x.text x.rest → Never M ext m x.text x.rest
      never m none w b k other u apart same eq = none w b k other (from m w b k u apart (same_two x.text x.rest other s (w ++ k) x.whole filled eq same).1) apart same eq

      deeper : Deeper opens L n x.text x.rest → Deeper opens M n x.text x.rest
      deeper d = record { depth = d.depth; head = d.head; tail = d.tail; cons = d.cons; opening = d.opening; more = d.more; begins = begins d.depth (x.text ++ (d.head ∷ [])) d.begins }

  -- Of the larger language only texts of the smaller one have the second token of s, so at s the same outcome is exact for both.
  exact_pair : (out : Outcome T A) → Exact opens L ext n s out → Exact opens M ext n s out
  exact_pair (Ok y) exact = took_pair y.0 y.1 exact
  exact_pair (Err e) exact = stopped_pair e exact

module _ {T A : Type 0} (opens : T → Bool) (p q : Langs T A) (ext g h : T → Bool) (n : ℕ) (starts_p : Starts g p) (starts_q : Starts g q) (second_p : Seconds h true p ext) (second_q : Seconds h false q ext) (heads_p : (t : T) → g t ≡ true → Begins p n (t ∷ [])) (heads_q : (t : T) → g t ≡ true → Begins q n (t ∷ [])) where
  -- the language of both
  abbrev choice : Langs T A
  choice m = p m or q m

  -- what begins with a token is not empty
  not_empty : (L : Langs T A) → Starts g L → (m : ℕ) (a : A) → L m [] a → ⊥
  not_empty L starts m a x = both_ways (starts-sees [] [] (starts.first m [] a x)) refl

  -- the part that the second token chooses
  second_chosen : (t : T) (s : List T) (b : Bool) (x y : Outcome T A) → g t ≡ true → sees h s ≡ b → Exact opens p ext n (t ∷ s) x → Exact opens q ext n (t ∷ s) y → Exact opens choice ext n (t ∷ s) (if b then x else y)
  second_chosen t s true x y passes sees-is left right = exact_pair opens p choice ext n (λ m w a u. inl u) (t ∷ s) (not_empty p starts_p) t s refl (heads_p t passes) from x left
    where
      from : (m : ℕ) (w : List T) (a : A) (k : List T) → choice m w a → sees ext k ≡ false → peek (rest_of (w ++ k)) ≡ peek s → p m w a
      from m w a k (inl u) apart same = u
      from m w a k (inr u) apart same = absurd (both_ways (sees-peek h (rest_of (w ++ k)) s same ∙ sees-is) (second_q.second m w a k u apart))
  second_chosen t s false x y passes sees-is left right = exact_pair opens q choice ext n (λ m w a u. inr u) (t ∷ s) (not_empty q starts_q) t s refl (heads_q t passes) from y right
    where
      from : (m : ℕ) (w : List T) (a : A) (k : List T) → choice m w a → sees ext k ≡ false → peek (rest_of (w ++ k)) ≡ peek s → q m w a
      from m w a k (inl u) apart same = absurd (both_ways (second_p.second m w a k u apart) (sees-peek h (rest_of (w ++ k)) s same ∙ sees-is))
      from m w a k (inr u) apart same = u

  -- the part that the first two tokens choose
  two_chosen : (s : List T) (b : Bool) (x y : Outcome T A) → sees g s ≡ b → Exact opens p ext n s x → Exact opens q ext n s y → Exact opens choice ext n s (if b then (if sees h (rest_of s) then x else y) else y)
  two_chosen [] true x y sees-is left right = absurd (both_ways sees-is refl)
  two_chosen (t ∷ s) true x y sees-is left right = second_chosen t s (sees h s) x y sees-is refl left right
  two_chosen s false x y sees-is left right = exact_right opens p q ext n s (λ m w a k u apart same. both_ways (starts-sees w k (starts_p.first m w a u)) (sees-peek g (w ++ k) s same ∙ sees-is)) y right

-- Both parts begin with any token of g; the second token of the one passes h, and that of the other doesn't.
pub rule_two : {T A : Type 0} {opens : T → Bool} {p q : Langs T A} {P Q : Parser T A} {ext : T → Bool} {n : ℕ} (g h : T → Bool) → Starts g p → Starts g q → Seconds h true p ext → Seconds h false q ext → ((t : T) → g t ≡ true → Begins p n (t ∷ [])) → ((t : T) → g t ≡ true → Begins q n (t ∷ [])) → IsRule opens p P ext n → IsRule opens q Q ext n → IsRule opens (λ m. p m or q m) (when_two g h P Q) ext n
rule_two {opens = opens} {p = p} {q = q} {P = P} {Q = Q} {ext = ext} {n = n} g h starts_p starts_q second_p second_q heads_p heads_q x y = record {
  grows = grows_choice opens p q ext n x.grows y.grows;
  has = λ m le. has_right opens p q ext n m (y.has m le);
  exact = λ s. two_chosen opens p q ext g h n starts_p starts_q second_p second_q heads_p heads_q s (sees g s) (P s) (Q s) refl (x.exact s) (y.exact s);
}

-- the tokens after one token
behind_one : {T B : Type 0} {first : Lang T B} → ((w : List T) (b : B) → first w b → (t : T) × (w ≡ t ∷ [])) → (w front back k : List T) (b : B) → first front b → w ≡ front ++ back → rest_of (w ++ k) ≡ back ++ k
behind_one single w front back k b one whole = ap (λ z. rest_of (z ++ k)) (whole ∙ ap (λ z. z ++ back) (single front b one).1)

-- After one token comes what begins with a token that passes.
pub seconds_starts : {T A B : Type 0} {h ext : T → Bool} {first : Lang T B} {q : Langs T A} → ((w : List T) (b : B) → first w b → (t : T) × (w ≡ t ∷ [])) → Starts h q → Seconds h true (λ m. first >> q m) ext
seconds_starts {h = h} single starts = record {
  second = λ m w a k x _. ap (sees h) (behind_one single w x.front x.back k x.value x.first x.whole) ∙ starts-sees x.back k (starts.first m x.back a x.second);
}

-- After one token comes what doesn't begin so, with what follows.
pub seconds_joins : {T A B : Type 0} {h ext : T → Bool} {first : Lang T B} {q : Langs T A} → ((w : List T) (b : B) → first w b → (t : T) × (w ≡ t ∷ [])) → Joins h q ext → Seconds h false (λ m. first >> q m) ext
seconds_joins {h = h} single joins = record {
  second = λ m w a k x apart. ap (sees h) (behind_one single w x.front x.back k x.value x.first x.whole) ∙ joins.clear m x.back a k x.second apart;
}
