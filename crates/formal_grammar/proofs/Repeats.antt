-- Any number of parts, and lists with a separator.
use Rattle.std.proofs.Common.{◌≡◌, ℕ, zero, suc, ◌+◌, ◌<◌, ◌≤◌, Bool, true, false, List, [], ◌∷◌, ◌++◌, length, Ok, if◌then◌else◌, refl, sym, ap, subst, ◌∙◌, append-nil, arith, length-append, le_refl}
use Rattle.formal_grammar.specs.Lang.{Lang, ◌>>=◌, ◌>>◌, gives, many, listed}
use Rattle.formal_grammar.specs.Parse.{Outcome, Parser, and_then, pure, accept, this, peek, sees, turns, repeat, separated}
use Rattle.formal_grammar.specs.Exact.{none, Langs, Within, Apart, Grows, Took, Exact, IsRule, Starts}
use Rattle.formal_grammar.proofs.Contexts.{sees-peek, sees-within, starts-sees, both_ways}
use Rattle.formal_grammar.proofs.Widening.{exact_part}
use Rattle.formal_grammar.proofs.Sequence.{exact_then, rule_then, rule_seq}
use Rattle.formal_grammar.proofs.Single.{rule_gives}
use Rattle.formal_grammar.proofs.Joins.{starts_first, starts_then, joins_gives, joins_then, joins_many}

-- A text that isn't empty leaves fewer tokens.
pub took_less : {T A : Type 0} {L : Langs T A} {f ext : T → Bool} {n : ℕ} {s : List T} {a : A} {u : List T} → Starts f L → Took L ext n s a u → length u < length s
took_less {n = n} {s = s} {a = a} {u = u} starts x =
    let b = starts.first n x.text a x.spells in
    let whole : length s ≡ length x.text + length u = ap length x.whole ∙ length-append x.text u in
    let some : length x.text ≡ suc (length b.tail) = ap length b.cons in
    omega (arith, whole, some)

module _ {T A : Type 0} (p : Langs T A) where
  -- one part, and any number after it
  abbrev some : Langs T (List A)
  some m = p m >>= λ a. many (p m) >>= λ later. gives (a ∷ later)

  -- one part or more are any number
  some_to_many : (m : ℕ) (w : List T) (b : List A) → some m w b → many (p m) w b
  some_to_many m w b t =
      let u = t.second in
      let value : b ≡ t.value ∷ u.value = u.second.1 in
      let back : t.back ≡ u.front = u.whole ∙ ap (λ (z : List T). u.front ++ z) u.second.0 ∙ append-nil u.front in
      subst (λ (c : List A). many (p m) w c) (sym value) (t.front, u.front, t.first, u.first, t.whole ∙ ap (λ (z : List T). t.front ++ z) back)

  -- more parts make more repetitions
  grows_many : Grows p → Grows (λ m. many (p m))
  grows_many grows m k w [] le t = t
  grows_many grows m k w (a ∷ later) le t = (t.0, t.1, grows m k t.0 a le t.2, grows_many grows m k t.1 later le t.3, t.4)

  module _ (opens f e1 ext : T → Bool) (n : ℕ) (starts : Starts f p) (apart : Apart f e1) (f-within : Within f ext) (e1-within : Within e1 ext) where
    -- where a text of many is and a token of f first, there is a first part
    many_to_some : (s : List T) → sees f s ≡ true → (m : ℕ) (w : List T) (b : List A) (k : List T) → many (p m) w b → sees ext k ≡ false → peek (w ++ k) ≡ peek s → some m w b
    many_to_some s here_one m w [] k t follows same =
        let here : sees f (w ++ k) ≡ false = ap (λ z. sees f (z ++ k)) t ∙ sees-within f-within k follows in
        absurd (both_ways here_one (sym (sees-peek f (w ++ k) s same) ∙ here))
    many_to_some s here_one m w (a ∷ later) k t follows same = record {
      front = t.0;
      back = t.1;
      value = a;
      first = t.2;
      second = record { front = t.1; back = []; value = later; first = t.3; second = (refl, refl); whole = sym (append-nil t.1) };
      whole = t.4;
    }

    -- where no part begins the empty repetition is exact
    exact_done : (s : List T) → sees f s ≡ false → Exact opens (λ m. many (p m)) ext n s (Ok ([], s))
    exact_done s closed = record { text = []; whole = refl; spells = refl; only = only }
      where
        only : (m : ℕ) (w : List T) (b : List A) (k other : List T) → many (p m) w b → sees ext k ≡ false → peek other ≡ peek s → w ++ k ≡ other → (w ≡ []) × (b ≡ [])
        only m w [] k other t follows same e = (t, refl)
        only m w (a ∷ later) k other t follows same e =
            let x = starts_first w t.0 t.1 t.4 (starts.first m t.0 a t.2) in
            absurd (both_ways (starts-sees w k x) (sees-peek f (w ++ k) s (ap peek e ∙ same) ∙ closed))

    module _ (P : Parser T A) (x : IsRule opens p P e1 n) where
      -- the reading after a first part
      abbrev later_parts : A → ℕ → Parser T (List A)
      later_parts a k u = and_then (turns f P k u) (λ later. pure (a ∷ later))

      -- the parts after a first one
      exact_later : (a : A) (k : ℕ) (u : List T) → Exact opens (λ m. many (p m)) ext n u (turns f P k u) → Exact opens (λ m. many (p m) >>= λ later. gives (a ∷ later)) ext n u (later_parts a k u)
      exact_later a k u exact =
          exact_then opens (λ m. many (p m)) (λ later m. gives (a ∷ later)) ext ext n (λ later. joins_gives ext (a ∷ later) ext (λ t h. h)) u (λ later. pure (a ∷ later)) (turns f P k u) (grows_many x.grows) (λ later. (rule_gives {opens = opens} (a ∷ later) ext n).has) exact (λ later v _. (rule_gives {opens = opens} (a ∷ later) ext n).exact v)

      -- a first part, and those after it
      exact_one : (k : ℕ) (s : List T) → length s ≤ suc k → sees f s ≡ true → ((u : List T) → length u ≤ k → Exact opens (λ m. many (p m)) ext n u (turns f P k u)) → Exact opens (λ m. many (p m)) ext n s (and_then (P s) (λ a u. later_parts a k u))
      exact_one k s short here_one rest_exact =
          exact_part opens some (λ m. many (p m)) ext ext n (λ t h. h) some_to_many s (many_to_some s here_one) (and_then (P s) (λ a u. later_parts a k u))
          (exact_then opens p (λ a m. many (p m) >>= λ later. gives (a ∷ later)) e1 ext n
          (λ a. joins_then (joins_many apart starts e1-within) (λ later. joins_gives ext (a ∷ later) ext (λ t h. h)))
          s (λ a u. later_parts a k u) (P s) x.grows
          (λ a m le. record { text = []; value = a ∷ []; spells = record { front = []; back = []; value = []; first = refl; second = (refl, refl); whole = refl } })
          (x.exact s)
          (λ a u e.
          let took : Took p e1 n s a u = subst (λ (o : Outcome T A). Exact opens p e1 n s o) e (x.exact s) in
          let less : length u < length s = took_less starts took in
          exact_later a k u (rest_exact u (omega arith))))

      -- a first part, or none
      chosen : (k : ℕ) (s : List T) (b : Bool) → sees f s ≡ b → length s ≤ suc k → ((u : List T) → length u ≤ k → Exact opens (λ m. many (p m)) ext n u (turns f P k u)) → Exact opens (λ m. many (p m)) ext n s (if b then and_then (P s) (λ a u. later_parts a k u) else Ok ([], s))
      chosen k s true sees-is short rest_exact = exact_one k s short sees-is rest_exact
      chosen k s false sees-is short rest_exact = exact_done s sees-is

      -- enough turns are exact
      exact_turns : (k : ℕ) (s : List T) → length s ≤ k → Exact opens (λ m. many (p m)) ext n s (turns f P k s)
      exact_turns zero [] short = exact_done [] refl
      exact_turns zero (t ∷ s) short = absurd (omega arith)
      exact_turns (suc k) s short = chosen k s (sees f s) refl short (λ u le. exact_turns k u le)

-- Any number of parts, each of which begins with a token of f.
pub rule_many : {T A : Type 0} {opens : T → Bool} {p : Langs T A} {P : Parser T A} {e1 : T → Bool} {n : ℕ} (f ext : T → Bool) → Starts f p → Apart f e1 → Within f ext → Within e1 ext → IsRule opens p P e1 n → IsRule opens (λ m. many (p m)) (repeat f P) ext n
rule_many {opens = opens} {p = p} {P = P} {e1 = e1} {n = n} f ext starts apart f-within e1-within x = record {
  grows = grows_many p x.grows;
  has = λ m le. record { text = []; value = []; spells = refl };
  exact = λ s. exact_turns p opens f e1 ext n starts apart f-within e1-within P x (length s) s (le_refl (length s));
}

-- One part or more, with a separator between them that begins with a token that passes the test.
pub rule_listed : {T A : Type 0} {opens : T → Bool} {separator : Lang T (Unit {0})} {p : Langs T A} {P : Parser T A} {e1 : T → Bool} {n : ℕ} (is ext : T → Bool) → Starts is (λ m. separator) → Apart is e1 → Within is ext → Within e1 ext → IsRule opens (λ m. separator) (accept (this is)) none n → IsRule opens p P e1 n → IsRule opens (λ m. listed separator (p m)) (separated is P) ext n
rule_listed {separator = separator} {p = p} {P = P} {e1 = e1} {n = n} is ext starts apart is-within e1-within between x =
    let item = rule_seq {q = λ _. p} between (λ _. x) in
    let item_starts : Starts is (λ m. separator >> p m) = starts_then {q = λ _. p} starts in
    rule_then {q = λ a m. many (separator >> p m) >>= λ later. gives (a ∷ later)}
    (λ a. joins_then (joins_many apart item_starts e1-within) (λ later. joins_gives ext (a ∷ later) ext (λ u h. h)))
    x
    (λ a. rule_then {q = λ later m. gives (a ∷ later)} (λ later. joins_gives ext (a ∷ later) ext (λ u h. h)) (rule_many is ext item_starts apart is-within e1-within item) (λ later. rule_gives (a ∷ later) ext n))
