-- One part and then another: the parser that reads both is exact for the language of both.
use Rattle.std.proofs.Common.{◌≡◌, ℕ, ◌≤◌, Bool, false, List, [], ◌∷◌, ◌++◌, Ok, Err, refl, sym, ap, subst, ◌∙◌, append_assoc, le_refl}
use Rattle.std.proofs.lemmas.List.{append_cancel_left}
use Rattle.formal_grammar.specs.declared.stop.Why.{Why}
use Rattle.formal_grammar.specs.Lang.{◌>>=◌}
use Rattle.formal_grammar.specs.Parse.{Outcome, Parser, and_then, peek, sees}
use Rattle.formal_grammar.specs.Exact.{Langs, Grows, Has, Never, Begins, Took, Deeper, Stopped, Exact, IsRule, Joins, none}
use Rattle.formal_grammar.proofs.Contexts.{peek-append, sees-none, bad_as}

module _ {T A B : Type 0} (opens : T → Bool) (p : Langs T A) (q : A → Langs T B) (e1 e2 : T → Bool) (n : ℕ) (joins : (a : A) → Joins e1 (q a) e2) where
  -- the language of both parts
  abbrev both : Langs T B
  both m = p m >>= λ a. q a m

  -- both parts in any context give the first part in a context of its own
  first_context : (m : ℕ) (w : List T) (b : B) (k : List T) (t : both m w b) → sees e2 k ≡ false → sees e1 (t.back ++ k) ≡ false
  first_context m w b k t apart = (joins t.value).clear m t.back b k t.second apart

  -- the first part, and the second with what follows, are the whole
  first_whole : (m : ℕ) (w : List T) (b : B) (k x : List T) (t : both m w b) → w ++ k ≡ x → t.front ++ (t.back ++ k) ≡ x
  first_whole m w b k x t e = sym (append_assoc t.front t.back k) ∙ ap (λ (z : List T). z ++ k) (sym t.whole) ∙ e

  -- the second part, where the first is the text that was taken
  record Behind (m : ℕ) (text : List T) (a : A) (w : List T) (b : B) (k later : List T) : Type 0 where
    back : List T
    second : q a m back b
    whole : w ≡ text ++ back
    context : back ++ k ≡ later

  -- the first part of a text that agrees is the one that was taken
  behind : (s u : List T) (a : A) (took : Took p e1 n s a u) (text rest : List T) → u ≡ text ++ rest → (m : ℕ) (w : List T) (b : B) (k other : List T) → both m w b → sees e2 k ≡ false → peek other ≡ peek rest → w ++ k ≡ (took.text ++ text) ++ other → Behind m took.text a w b k (text ++ other)
  behind s u a took text rest u-is m w b k other t apart same e =
      let whole = first_whole m w b k (took.text ++ (text ++ other)) t (e ∙ append_assoc took.text text other) in
      let one = took.only m t.front t.value (t.back ++ k) (text ++ other) t.first (first_context m w b k t apart) (peek-append text other rest same ∙ ap peek (sym u-is)) whole in
      record {
        back = t.back;
        second = subst (λ (v : A). q v m t.back b) one.1 t.second;
        whole = t.whole ∙ ap (λ (z : List T). z ++ t.back) one.0;
        context = append_cancel_left took.text (t.back ++ k) (text ++ other) (ap (λ (z : List T). z ++ (t.back ++ k)) (sym one.0) ∙ whole);
      }

  -- both parts were taken
  took_both : (s u rest : List T) (a : A) (b : B) → Took p e1 n s a u → Took (q a) e2 n u b rest → Took both e2 n s b rest
  took_both s u rest a b x y = record {
    text = x.text ++ y.text;
    whole = x.whole ∙ ap (λ (z : List T). x.text ++ z) y.whole ∙ sym (append_assoc x.text y.text rest);
    spells = record { front = x.text; back = y.text; value = a; first = x.spells; second = y.spells; whole = refl };
    only = λ m w c k other t apart same e.
        let h = behind s u a x y.text rest y.whole m w c k other t apart same e in
        let two = y.only m h.back c k other h.second apart same h.context in
        (h.whole ∙ ap (λ (z : List T). x.text ++ z) two.0, two.1);
  }

  -- a first part with the beginning of a second one
  begins_both : (m : ℕ) (front back : List T) (a : A) → p m front a → Begins (q a) m back → Begins both m (front ++ back)
  begins_both m front back a x y = record {
    more = y.more;
    value = y.value;
    text = record { front = front; back = back ++ y.more; value = a; first = x; second = y.text; whole = append_assoc front back y.more };
  }

  -- the beginning of a first part begins both, if there is a second one
  begins_first : (m : ℕ) (front : List T) → ((a : A) → Has (q a) m) → Begins p m front → Begins both m front
  begins_first m front has x =
      let h = has x.value in
      record {
        more = x.more ++ h.text;
        value = h.value;
        text = record { front = front ++ x.more; back = h.text; value = x.value; first = x.text; second = h.spells; whole = sym (append_assoc front x.more h.text) };
      }

  -- the second part was refused
  stopped_second : (s u : List T) (a : A) (e : Why × ℕ) → Grows p → Took p e1 n s a u → Stopped opens (q a) e2 n u e.0 e.1 → Stopped opens both e2 n s e.0 e.1
  stopped_second s u a e grows x y = record {
    text = x.text ++ y.text;
    rest = y.rest;
    whole = x.whole ∙ ap (λ (z : List T). x.text ++ z) y.whole ∙ sym (append_assoc x.text y.text y.rest);
    at = y.at;
    begins = begins_both n x.text y.text a x.spells y.begins;
    bad = bad_as e.0 never (never n) deeper y.bad;
  }
    where
      never : (m : ℕ) → Never (q a) e2 m y.text y.rest → Never both e2 m (x.text ++ y.text) y.rest
      never m none w c k other t apart same eq =
          let h = behind s u a x y.text y.rest y.whole m w c k other t apart same eq in
          none h.back c k other h.second apart same h.context

      deeper : Deeper opens (q a) n y.text y.rest → Deeper opens both n (x.text ++ y.text) y.rest
      deeper d = record {
        depth = d.depth;
        head = d.head;
        tail = d.tail;
        cons = d.cons;
        opening = d.opening;
        more = d.more;
        begins = subst (λ (z : List T). Begins both d.depth z) (sym (append_assoc x.text y.text (d.head ∷ []))) (begins_both d.depth x.text (y.text ++ (d.head ∷ [])) a (grows n d.depth x.text a d.more x.spells) d.begins);
      }

  -- the first part was refused
  stopped_first : (s : List T) (e : Why × ℕ) → ((a : A) (m : ℕ) → n ≤ m → Has (q a) m) → n ≤ n → Stopped opens p e1 n s e.0 e.1 → Stopped opens both e2 n s e.0 e.1
  stopped_first s e has self x = record {
    text = x.text;
    rest = x.rest;
    whole = x.whole;
    at = x.at;
    begins = begins_first n x.text (λ a. has a n self) x.begins;
    bad = bad_as e.0 never (never n) deeper x.bad;
  }
    where
      never : (m : ℕ) → Never p e1 m x.text x.rest → Never both e2 m x.text x.rest
      never m none w c k other t apart same eq = none t.front t.value (t.back ++ k) other t.first (first_context m w c k t apart) same (first_whole m w c k (x.text ++ other) t eq)

      deeper : Deeper opens p n x.text x.rest → Deeper opens both n x.text x.rest
      deeper d = record {
        depth = d.depth;
        head = d.head;
        tail = d.tail;
        cons = d.cons;
        opening = d.opening;
        more = d.more;
        begins = begins_first d.depth (x.text ++ (d.head ∷ [])) (λ a. has a d.depth d.more) d.begins;
      }

  -- after a first part that was taken the second decides
  exact_second : (s u : List T) (a : A) (out : Outcome T B) → Grows p → Took p e1 n s a u → Exact opens (q a) e2 n u out → Exact opens both e2 n s out
  exact_second s u a (Ok y) grows x exact = took_both s u y.1 a y.0 x exact
  exact_second s u a (Err e) grows x exact = stopped_second s u a e grows x exact

  -- The second parser has to be exact only where the first one stopped reading.
  pub exact_then : (s : List T) (Q : A → Parser T B) (out : Outcome T A) → Grows p → ((a : A) (m : ℕ) → n ≤ m → Has (q a) m) → Exact opens p e1 n s out → ((a : A) (u : List T) → out ≡ Ok (a, u) → Exact opens (q a) e2 n u (Q a u)) → Exact opens both e2 n s (and_then out Q)
  exact_then s Q (Ok x) grows has exact next = exact_second s x.1 x.0 (Q x.0 x.1) grows exact (next x.0 x.1 refl)
  exact_then s Q (Err e) grows has exact next = stopped_first s e has (le_refl n) exact

  -- a sequence grows as its parts do
  grows_both : Grows p → ((a : A) → Grows (q a)) → Grows both
  grows_both first second m k w b le t = record {
    front = t.front;
    back = t.back;
    value = t.value;
    first = first m k t.front t.value le t.first;
    second = second t.value m k t.back b le t.second;
    whole = t.whole;
  }

  -- a sequence has a text if its parts have
  has_both : (m : ℕ) → Has p m → ((a : A) → Has (q a) m) → Has both m
  has_both m x y =
      let h = y x.value in
      record {
        text = x.text ++ h.text;
        value = h.value;
        spells = record { front = x.text; back = h.text; value = x.value; first = x.spells; second = h.spells; whole = refl };
      }

-- One part and then another: where the second is, with what follows, there is no token that would go on with the first.
pub rule_then : {T A B : Type 0} {opens : T → Bool} {p : Langs T A} {q : A → Langs T B} {P : Parser T A} {Q : A → Parser T B} {e1 e2 : T → Bool} {n : ℕ} → ((a : A) → Joins e1 (q a) e2) → IsRule opens p P e1 n → ((a : A) → IsRule opens (q a) (Q a) e2 n) → IsRule opens (λ m. p m >>= λ a. q a m) (λ s. and_then (P s) Q) e2 n
rule_then {opens = opens} {p = p} {q = q} {P = P} {Q = Q} {e1 = e1} {e2 = e2} {n = n} joins x y = record {
  grows = grows_both opens p q e1 e2 n joins x.grows (λ a. (y a).grows);
  has = λ m le. has_both opens p q e1 e2 n joins m (x.has m le) (λ a. (y a).has m le);
  exact = λ s. exact_then opens p q e1 e2 n joins s Q (P s) x.grows (λ a. (y a).has) (x.exact s) (λ a u _. (y a).exact u);
}

-- The same where nothing goes on with the first part.
pub rule_seq : {T A B : Type 0} {opens : T → Bool} {p : Langs T A} {q : A → Langs T B} {P : Parser T A} {Q : A → Parser T B} {e2 : T → Bool} {n : ℕ} → IsRule opens p P none n → ((a : A) → IsRule opens (q a) (Q a) e2 n) → IsRule opens (λ m. p m >>= λ a. q a m) (λ s. and_then (P s) Q) e2 n
rule_seq x y = rule_then (λ a. record { clear = λ m w b k t apart. sees-none (w ++ k) }) x y
