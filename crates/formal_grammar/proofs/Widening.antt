-- From one language to another: what is exact for a part is exact for the whole where no other text agrees.
use Rattle.std.proofs.Common.{◌≡◌, ℕ, Bool, false, List, [], ◌∷◌, ◌++◌, Ok, Err, sym, ap, ◌∙◌}
use Rattle.formal_grammar.specs.declared.stop.Why.{Why}
use Rattle.formal_grammar.specs.Parse.{Outcome, Parser, peek, sees}
use Rattle.formal_grammar.specs.Exact.{Langs, Within, Never, Begins, Took, Deeper, Stopped, Exact, IsRule}
use Rattle.formal_grammar.proofs.Contexts.{peek-append, sees-within, bad_as}

module _ {T A : Type 0} (opens : T → Bool) (L M : Langs T A) (e1 e2 : T → Bool) (n : ℕ) (within : Within e1 e2) (to : (m : ℕ) (w : List T) (a : A) → L m w a → M m w a) (s : List T) (from : (m : ℕ) (w : List T) (a : A) (k : List T) → M m w a → sees e2 k ≡ false → peek (w ++ k) ≡ peek s → L m w a) where
  -- what was taken of the smaller language
  took_part : (a : A) (rest : List T) → Took L e1 n s a rest → Took M e2 n s a rest
  took_part a rest x = record {
    text = x.text;
    whole = x.whole;
    spells = to n x.text a x.spells;
    only = λ m w b k other t apart same e. x.only m w b k other (from m w b k t apart (ap peek e ∙ peek-append x.text other rest same ∙ ap peek (sym x.whole))) (sees-within within k apart) same e;
  }

  -- what was refused of the smaller language
  stopped_part : (e : Why × ℕ) → Stopped opens L e1 n s e.0 e.1 → Stopped opens M e2 n s e.0 e.1
  stopped_part e x = record {
    text = x.text;
    rest = x.rest;
    whole = x.whole;
    at = x.at;
    begins = begins n x.text x.begins;
    bad = bad_as e.0 never (never n) deeper x.bad;
  }
    where
      begins : (m : ℕ) (p : List T) → Begins L m p → Begins M m p
      begins m p y = record { more = y.more; value = y.value; text = to m (p ++ y.more) y.value y.text }

      never : (m : ℕ) → Never L e1 m x.text x.rest → Never M e2 m x.text x.rest
      never m none w b k other t apart same eq = none w b k other (from m w b k t apart (ap peek eq ∙ peek-append x.text other x.rest same ∙ ap peek (sym x.whole))) (sees-within within k apart) same eq

      deeper : Deeper opens L n x.text x.rest → Deeper opens M n x.text x.rest
      deeper d = record { depth = d.depth; head = d.head; tail = d.tail; cons = d.cons; opening = d.opening; more = d.more; begins = begins d.depth (x.text ++ (d.head ∷ [])) d.begins }

  -- Of the larger language only texts of the smaller one begin as s does, so at s the same outcome is exact for both.
  pub exact_part : (out : Outcome T A) → Exact opens L e1 n s out → Exact opens M e2 n s out
  exact_part (Ok y) exact = took_part y.0 y.1 exact
  exact_part (Err e) exact = stopped_part e exact

-- Two languages with the same texts have the same parser.
pub rule_same : {T A : Type 0} {opens : T → Bool} {L : Langs T A} {P : Parser T A} {ext : T → Bool} {n : ℕ} (M : Langs T A) → ((m : ℕ) (w : List T) (a : A) → L m w a → M m w a) → ((m : ℕ) (w : List T) (a : A) → M m w a → L m w a) → IsRule opens L P ext n → IsRule opens M P ext n
rule_same {opens = opens} {L = L} {P = P} {ext = ext} {n = n} M to from x = record {
  grows = λ m k w a le t. to k w a (x.grows m k w a le (from m w a t));
  has = λ m le. let h = x.has m le in record { text = h.text; value = h.value; spells = to m h.text h.value h.spells };
  exact = λ s. exact_part opens L M ext ext n (λ t apart. apart) to s (λ m w a k t apart same. from m w a t) (P s) (x.exact s);
}

-- A rule stays one where fewer tokens may follow.
pub rule_wider : {T A : Type 0} {opens : T → Bool} {L : Langs T A} {P : Parser T A} {ext : T → Bool} {n : ℕ} (large : T → Bool) → Within ext large → IsRule opens L P ext n → IsRule opens L P large n
rule_wider {opens = opens} {L = L} {P = P} {ext = ext} {n = n} large within x = record {
  grows = x.grows;
  has = x.has;
  exact = λ s. exact_part opens L L ext large n within (λ m w a t. t) s (λ m w a k t apart same. t) (P s) (x.exact s);
}
