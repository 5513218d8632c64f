-- What a rule says of the whole of the tokens.
use Rattle.std.proofs.Common.{◌≡◌, ℕ, suc, ◌+◌, ◌-◌, ◌≤◌, Bool, List, [], ◌∷◌, ◌++◌, length, take, slice_get, Some, Result, Ok, Err, refl, sym, ap, subst, ◌∙◌, append-nil, append_assoc, arith, length-append}
use Rattle.std.proofs.lemmas.List.{take_at, append_cancel_left}
use Rattle.formal_grammar.specs.declared.stop.Why.{Why}
use Rattle.formal_grammar.specs.declared.stop.Why.TheVariants.{Syntax, Deep}
use Rattle.formal_grammar.specs.Parse.{Outcome, Parser, peek, ended, all_of}
use Rattle.formal_grammar.specs.Exact.{Langs, Never, Begins, Took, Stopped, Exact, IsRule}
use Rattle.formal_grammar.specs.Fault.{Agrees, IsSyntaxFault, IsDeepFault, IsOnly, IsFault, Judges}
use Rattle.formal_grammar.proofs.Contexts.{never_at, not_none}

-- Tokens that agree up to one past the text have the text before it, and then the same token, or the end.
record Shares {T : Type 0} (text rest w : List T) : Type 0 where
  other : List T
  whole : w ≡ text ++ other
  same : peek other ≡ peek rest

-- equal lists have equal parts
heads : {T : Type 0} {x y : T} {xs ys : List T} → ◌≡◌ {A = List T} (x ∷ xs) (y ∷ ys) → (x ≡ y) × (xs ≡ ys)
heads e = (cc, cc)

-- a list with an element is not empty
nil_cons : {T : Type 0} {x : T} {xs : List T} → ◌≡◌ {A = List T} [] (x ∷ xs) → ⊥
nil_cons e = cc

-- what agrees one token past the text goes on as it does
shares : {T : Type 0} (text rest w : List T) → take (suc (length text)) w ≡ take (suc (length text)) (text ++ rest) → Shares text rest w
shares [] [] [] e = record { other = []; whole = refl; same = refl }
shares [] [] (y ∷ w) e = absurd (nil_cons (sym e))
shares [] (t ∷ rest) [] e = absurd (nil_cons e)
shares [] (t ∷ rest) (y ∷ w) e = record { other = y ∷ w; whole = refl; same = ap Some (heads e).0 }
shares (x ∷ text) rest [] e = absurd (nil_cons e)
shares (x ∷ text) rest (y ∷ w) e =
    let h = heads e in
    let r = shares text rest w h.1 in
    record { other = r.other; whole = ap (λ z. z ∷ w) h.0 ∙ ap (λ z. x ∷ z) r.whole; same = r.same }

-- the token after a text is at its length
get_behind : {T : Type 0} (text : List T) (t : T) (tail : List T) → slice_get (text ++ t ∷ tail) (length text) ≡ Some t
get_behind [] t tail = refl
get_behind (x ∷ text) t tail = get_behind text t tail

module _ {T A : Type 0} (opens : T → Bool) (L : Langs T A) (ext : T → Bool) (n : ℕ) where
  -- a beginning agrees with all that goes on from it
  agrees_begun : (m : ℕ) (text rest s : List T) → s ≡ text ++ rest → Begins L m text → Agrees L m (length text) s
  agrees_begun m text rest s whole b = record {
    text = text ++ b.more;
    value = b.value;
    spells = b.text;
    same = take_at text b.more (length text) refl ∙ sym (ap (take (length text)) whole ∙ take_at text rest (length text) refl);
  }

  -- what never agrees agrees with no text
  agrees_never : (m : ℕ) (text rest s : List T) → s ≡ text ++ rest → Never L ext m text rest → Agrees L m (suc (length text)) s → ⊥
  agrees_never m text rest s whole never x =
      let h = shares text rest x.text (x.same ∙ ap (take (suc (length text))) whole) in
      never x.text x.value [] h.other x.spells refl h.same (append-nil x.text ∙ h.whole)

  -- the length of two parts
  length_whole : (text rest s : List T) → s ≡ text ++ rest → length s ≡ length text + length rest
  length_whole text rest s whole = ap length whole ∙ length-append text rest

  -- what was taken to the end is the one value
  judged_value : (s : List T) (a : A) → Took L ext n s a [] → IsOnly L n s a
  judged_value s a x =
      let all : s ≡ x.text = x.whole ∙ append-nil x.text in
      record {
        spells = subst (λ (z : List T). L n z a) (sym all) x.spells;
        only = λ m b t. (x.only m s b [] [] t refl refl (append-nil s ∙ x.whole)).1;
      }

  -- a text begins itself
  begins_whole : (text : List T) (a : A) → L n text a → Begins L n text
  begins_whole text a t = record { more = []; value = a; text = subst (λ (z : List T). L n z a) (sym (append-nil text)) t }

  -- no text goes on after one that was taken
  goes_no_further : (s : List T) (a : A) (t : T) (rest : List T) (x : Took L ext n s a (t ∷ rest)) (m : ℕ) → Agrees L m (suc (length x.text)) s → ⊥
  goes_no_further s a t rest x m y =
      let h = shares x.text (t ∷ rest) y.text (y.same ∙ ap (take (suc (length x.text))) x.whole) in
      let one = x.only m y.text y.value [] h.other y.spells refl h.same (append-nil y.text ∙ h.whole) in
      let nothing : h.other ≡ [] = append_cancel_left x.text h.other [] (sym h.whole ∙ one.0 ∙ sym (append-nil x.text)) in
      not_none (sym h.same ∙ ap peek nothing)

  -- what was taken with more after it is a fault there
  judged_more : (s : List T) (a : A) (t : T) (rest : List T) → Took L ext n s a (t ∷ rest) → Judges opens L n s (Err (Syntax, length (t ∷ rest)))
  judged_more s a t rest x =
      let len = length_whole x.text (t ∷ rest) s x.whole in
      let at : length x.text ≡ length s - length (t ∷ rest) = omega (arith, len) in
      let fault : IsSyntaxFault L n s (length x.text) = record {
        within = omega (arith, len);
        before = agrees_begun n x.text (t ∷ rest) s x.whole (begins_whole x.text a x.spells);
        after = goes_no_further s a t rest x;
      } in
      (subst (λ (k : ℕ). IsSyntaxFault L n s k) at fault, omega (arith, len))

  -- what was refused is a fault there
  judged_stop : (s : List T) (e : Why × ℕ) → Stopped opens L ext n s e.0 e.1 → Judges opens L n s (Err e)
  judged_stop s (Syntax, left) x =
      let len = length_whole x.text x.rest s x.whole in
      let at : length x.text ≡ length s - left = omega (arith, len, x.at) in
      let fault : IsSyntaxFault L n s (length x.text) = record {
        within = omega (arith, len);
        before = agrees_begun n x.text x.rest s x.whole x.begins;
        after = λ m y. agrees_never m x.text x.rest s x.whole (x.bad m) y;
      } in
      (subst (λ (k : ℕ). IsSyntaxFault L n s k) at fault, omega (arith, len, x.at))
  judged_stop s (Deep, left) x =
      let len = length_whole x.text x.rest s x.whole in
      let at : length x.text ≡ length s - left = omega (arith, len, x.at) in
      let d = x.bad.1 in
      let some : length x.rest ≡ suc (length d.tail) = ap length d.cons in
      let past : length (x.text ++ (d.head ∷ [])) ≡ suc (length x.text) = omega (arith, length-append x.text (d.head ∷ [])) in
      let whole : s ≡ (x.text ++ (d.head ∷ [])) ++ d.tail = x.whole ∙ ap (λ (z : List T). x.text ++ z) d.cons ∙ sym (append_assoc x.text (d.head ∷ []) d.tail) in
      let fault : IsDeepFault opens L n s (length x.text) = record {
        within = omega (arith, len, some);
        token = d.head;
        there = ap (λ (z : List T). slice_get z (length x.text)) (x.whole ∙ ap (λ (z : List T). x.text ++ z) d.cons) ∙ get_behind x.text d.head d.tail;
        opening = d.opening;
        before = agrees_begun n x.text x.rest s x.whole x.begins;
        depth = d.depth;
        deeper = subst (λ (k : ℕ). Agrees L d.depth k s) past (agrees_begun d.depth (x.text ++ (d.head ∷ [])) d.tail s whole d.begins);
        after = λ y. agrees_never n x.text x.rest s x.whole x.bad.0 y;
      } in
      (subst (λ (k : ℕ). IsDeepFault opens L n s k) at fault, omega (arith, len, x.at))

  -- each outcome is judged
  judged : (s : List T) (out : Outcome T A) → Exact opens L ext n s out → Judges opens L n s (ended out)
  judged s (Ok (a, [])) x = judged_value s a x
  judged s (Ok (a, t ∷ rest)) x = judged_more s a t rest x
  judged s (Err e) x = judged_stop s e x

  -- the outcome where a value is spelled
  read : (s : List T) (a : A) → L n s a → (out : Outcome T A) → Exact opens L ext n s out → ended out ≡ Ok a
  read s a t (Ok (b, [])) x = ap Ok (sym (x.only n s a [] [] t refl refl (append-nil s ∙ x.whole)).1)
  read s a t (Ok (b, u ∷ rest)) x =
      let one = x.only n s a [] (u ∷ rest) t refl refl (append-nil s ∙ x.whole) in
      let nothing : u ∷ rest ≡ [] = append_cancel_left x.text (u ∷ rest) [] (sym x.whole ∙ one.0 ∙ sym (append-nil x.text)) in
      absurd (nil_cons (sym nothing))
  read s a t (Err e) x = absurd (never_at opens L ext n x.text x.rest e.0 x.bad s a [] x.rest t refl refl (append-nil s ∙ x.whole))

-- What a rule says of the answer on all of the tokens: the one value, or the fault and its place.
pub judges : {T A : Type 0} {opens : T → Bool} {L : Langs T A} {ext : T → Bool} {n : ℕ} {P : Parser T A} → IsRule opens L P ext n → (s : List T) → Judges opens L n s (all_of P s)
judges {opens = opens} {L = L} {ext = ext} {n = n} {P = P} x s = judged opens L ext n s (P s) (x.exact s)

-- What is spelled is read.
pub is_read : {T A : Type 0} {opens : T → Bool} {L : Langs T A} {ext : T → Bool} {n : ℕ} {P : Parser T A} → IsRule opens L P ext n → (s : List T) (a : A) → L n s a → all_of P s ≡ Ok a
is_read {opens = opens} {L = L} {ext = ext} {n = n} {P = P} x s a t = read opens L ext n s a t (P s) (x.exact s)

-- a result holds one value
value_is : {A E : Type 0} {a b : A} → ◌≡◌ {A = Result A E} (Ok a) (Ok b) → a ≡ b
value_is e = cc

-- Tokens spell one value at most, whatever the depth.
pub one_value : {T A : Type 0} {opens : T → Bool} {L : Langs T A} {ext : T → Bool} {P : ℕ → Parser T A} → ((n : ℕ) → IsRule opens L (P n) ext n) → (m n : ℕ) (s : List T) (a b : A) → L m s a → L n s b → a ≡ b
one_value rules m n s a b x y =
    let rule = rules (m + n) in
    value_is (sym (is_read rule s a (rule.grows m (m + n) s a (omega arith) x)) ∙ is_read rule s b (rule.grows n (m + n) s b (omega arith) y))

-- The value that was found is the only one.
pub found_by : {T A : Type 0} {opens : T → Bool} {L : Langs T A} {ext : T → Bool} {n : ℕ} {P : Parser T A} → IsRule opens L P ext n → (s : List T) (a : A) → all_of P s ≡ Ok a → IsOnly L n s a
found_by {opens = opens} {L = L} {n = n} rule s a e = subst (λ r. Judges opens L n s r) e (judges rule s)

-- The refusal is a fault of its kind at its place.
fault_by : {T A : Type 0} {opens : T → Bool} {L : Langs T A} {ext : T → Bool} {n : ℕ} {P : Parser T A} → IsRule opens L P ext n → (s : List T) (why : Why) (left : ℕ) → all_of P s ≡ Err (why, left) → IsFault why opens L n s (length s - left) × (left ≤ length s)
fault_by {opens = opens} {L = L} {n = n} rule s why left e = subst (λ r. Judges opens L n s r) e (judges rule s)

-- What is spelled is what was found.
pub complete_by : {T A : Type 0} {opens : T → Bool} {L : Langs T A} {ext : T → Bool} {n : ℕ} {P : Parser T A} → IsRule opens L P ext n → (s : List T) (a b : A) → all_of P s ≡ Ok a → L n s b → a ≡ b
complete_by rule s a b e t = value_is (sym e ∙ is_read rule s b t)

-- a value is no refusal
ok_is_not_err : {A E : Type 0} {a : A} {e : E} → ◌≡◌ {A = Result A E} (Ok a) (Err e) → ⊥
ok_is_not_err e = cc

-- What is spelled is not refused.
pub not_refused_by : {T A : Type 0} {opens : T → Bool} {L : Langs T A} {ext : T → Bool} {n : ℕ} {P : Parser T A} → IsRule opens L P ext n → (s : List T) (why : Why) (left : ℕ) (b : A) → all_of P s ≡ Err (why, left) → L n s b → ⊥
not_refused_by rule s why left b e t = ok_is_not_err (sym (is_read rule s b t) ∙ e)

-- A refusal by syntax is a fault of syntax at its place.
pub syntax_by : {T A : Type 0} {opens : T → Bool} {L : Langs T A} {ext : T → Bool} {n : ℕ} {P : Parser T A} → IsRule opens L P ext n → (s : List T) (left at : ℕ) → all_of P s ≡ Err (Syntax, left) → length s - left ≡ at → IsSyntaxFault L n s at
syntax_by {L = L} {n = n} rule s left at e place = subst (λ k. IsSyntaxFault L n s k) place (fault_by rule s Syntax left e).0

-- A refusal by depth is a fault of depth at its place.
pub deep_by : {T A : Type 0} {opens : T → Bool} {L : Langs T A} {ext : T → Bool} {n : ℕ} {P : Parser T A} → IsRule opens L P ext n → (s : List T) (left at : ℕ) → all_of P s ≡ Err (Deep, left) → length s - left ≡ at → IsDeepFault opens L n s at
deep_by {opens = opens} {L = L} {n = n} rule s left at e place = subst (λ k. IsDeepFault opens L n s k) place (fault_by rule s Deep left e).0

-- A refusal leaves no more tokens than there were.
pub left_within : {T A : Type 0} {opens : T → Bool} {L : Langs T A} {ext : T → Bool} {n : ℕ} {P : Parser T A} → IsRule opens L P ext n → (s : List T) (why : Why) (left : ℕ) → all_of P s ≡ Err (why, left) → left ≤ length s
left_within rule s why left e = (fault_by rule s why left e).1
