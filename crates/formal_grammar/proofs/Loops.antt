-- A `while` loop that reads parts, against the reading that repeats them.
use Rattle.std.proofs.Common.{◌≡◌, ℕ, zero, suc, ◌<◌, ◌≤◌, Bool, true, false, List, [], ◌∷◌, ◌++◌, length, fold, flat_map, Ok, Err, if◌then◌else◌, refl, sym, ap, subst, ◌∙◌, append-nil, append_assoc, arith, le_refl}
use Rattle.std.specs.List.{push}
use Rattle.formal_grammar.specs.declared.stop.Why.{Why}
use Rattle.formal_grammar.specs.declared.stop.ReadError.{ReadError}
use Rattle.formal_grammar.specs.declared.stop.ReadError.TheVariants as errors
use Rattle.formal_grammar.specs.Parse.{Outcome, Parser, and_then, ◌>>◌, pure, accept, this, sees, turns, repeat, separated, Fails}
use Rattle.formal_grammar.specs.Exact.{Langs, Exact, IsRule, Starts}
use Rattle.formal_grammar.proofs.Contexts.{both_ways}
use Rattle.formal_grammar.proofs.Repeats.{took_less}

-- What is left after a value is less than was there.
pub record Shrinks {T A : Type 0} (P : Parser T A) : Type 0 where
  pub less : (s : List T) (a : A) (u : List T) → P s ≡ Ok (a, u) → length u < length s

-- The parser of a language without the empty text takes a token.
pub shrinks : {T A : Type 0} {opens : T → Bool} {L : Langs T A} {P : Parser T A} {f ext : T → Bool} {n : ℕ} → Starts f L → IsRule opens L P ext n → Shrinks P
shrinks {opens = opens} {L = L} {ext = ext} {n = n} starts x = record { less = λ s a u e. took_less starts (subst (λ o. Exact opens L ext n s o) e (x.exact s)) }

-- two ways to go on that agree after each value agree
same_turns : {T A : Type 0} (b : Bool) (s : List T) (o : Outcome T A) (F G : A → Parser T (List A)) → ((a : A) (u : List T) → o ≡ Ok (a, u) → F a u ≡ G a u) → (if b then and_then o F else Ok ([], s)) ≡ (if b then and_then o G else Ok ([], s))
same_turns true s (Ok x) F G same = same x.0 x.1 refl
same_turns true s (Err e) F G same = refl
same_turns false s o F G same = refl

module _ {T A : Type 0} (f : T → Bool) (P : Parser T A) (less : Shrinks P) where
  -- Enough turns are enough.
  turns_enough : (j k : ℕ) (s : List T) → length s ≤ j → length s ≤ k → turns f P j s ≡ turns f P k s
  turns_enough zero zero s in_j in_k = refl
  turns_enough zero (suc k) [] in_j in_k = refl
  turns_enough zero (suc k) (t ∷ s) in_j in_k = absurd (omega (arith, in_j))
  turns_enough (suc j) zero [] in_j in_k = refl
  turns_enough (suc j) zero (t ∷ s) in_j in_k = absurd (omega (arith, in_k))
  turns_enough (suc j) (suc k) s in_j in_k =
      same_turns (sees f s) s (P s) (λ a u. and_then (turns f P j u) (λ later. pure (a ∷ later))) (λ a u. and_then (turns f P k u) (λ later. pure (a ∷ later)))
      (λ a u e.
      let lt : length u < length s = less.less s a u e in
      ap (λ o. and_then o (λ later. pure (a ∷ later))) (turns_enough j k u (omega arith) (omega arith)))

  -- a part that is there is the first of the repetition
  repeat_one : (s : List T) (a : A) (u : List T) → sees f s ≡ true → P s ≡ Ok (a, u) → repeat f P s ≡ and_then (repeat f P u) (λ later. pure (a ∷ later))
  repeat_one [] a u sees-is e = absurd (both_ways sees-is refl)
  repeat_one (t ∷ s) a u sees-is e =
      let lt : length u < length (t ∷ s) = less.less (t ∷ s) a u e in
      rw (sees-is, e) (ap (λ o. and_then o (λ later. pure (a ∷ later))) (turns_enough (length s) (length u) u (omega arith) (le_refl (length u))))

-- a part that is refused refuses the repetition
repeat_stop : {T A : Type 0} (f : T → Bool) (P : Parser T A) (s : List T) (e : Why × ℕ) → sees f s ≡ true → P s ≡ Err e → repeat f P s ≡ Err e
repeat_stop f P [] e sees-is stops = absurd (both_ways sees-is refl)
repeat_stop f P (t ∷ s) e sees-is stops = rw (sees-is, stops) refl

-- where no part begins the repetition is empty
repeat_done : {T A : Type 0} (f : T → Bool) (P : Parser T A) (s : List T) → sees f s ≡ false → repeat f P s ≡ Ok ([], s)
repeat_done f P [] sees-is = refl
repeat_done f P (t ∷ s) sees-is = rw sees-is refl

-- What was put together before, and the parts that are still to come.
abbrev pub fold_front : {T A B : Type 0} → (B → A → B) → B → Outcome T (List A) → Outcome T B
fold_front add v (Ok x) = Ok (fold add v x.0, x.1)
fold_front add v (Err e) = Err e

-- the first part goes to what was put together
fold_one : {T A B : Type 0} (add : B → A → B) (v : B) (a : A) (o : Outcome T (List A)) → fold_front add v (and_then o (λ later. pure (a ∷ later))) ≡ fold_front add (add v a) o
fold_one add v a (Ok x) = refl
fold_one add v a (Err e) = refl

-- A turn that read a part keeps the whole.
pub goes_on_by : {T A B : Type 0} (add : B → A → B) (f : T → Bool) (P : Parser T A) → Shrinks P → (v : B) (s : List T) (a : A) (u : List T) (total : Outcome T B) → sees f s ≡ true → P s ≡ Ok (a, u) → fold_front add v (repeat f P s) ≡ total → fold_front add (add v a) (repeat f P u) ≡ total
goes_on_by add f P less v s a u total sees-is e so_far = sym (fold_one add v a (repeat f P u)) ∙ ap (fold_front add v) (sym (repeat_one f P less s a u sees-is e)) ∙ so_far

-- A part that fails fails the whole.
pub ends_by : {T A B : Type 0} (add : B → A → B) (f : T → Bool) (P : Parser T A) (e : ReadError) (v : B) (s : List T) (total : Outcome T B) → sees f s ≡ true → Fails e (P s) → fold_front add v (repeat f P s) ≡ total → Fails e total
ends_by add f P errors.Memory v s total sees-is fails so_far = tt
ends_by add f P (errors.Stopped why left) v s total sees-is fails so_far = sym so_far ∙ ap (fold_front add v) (repeat_stop f P s (why, left) sees-is fails)

-- Where no part begins, what was put together is the whole.
pub is_done_by : {T A B : Type 0} (add : B → A → B) (f : T → Bool) (P : Parser T A) (v : B) (s : List T) (total : Outcome T B) → sees f s ≡ false → fold_front add v (repeat f P s) ≡ total → total ≡ Ok (v, s)
is_done_by add f P v s total sees-is so_far = sym so_far ∙ ap (fold_front add v) (repeat_done f P s sees-is)

-- A list without a separator after its first part has that part alone.
pub one_item : {T A : Type 0} (is : T → Bool) (P : Parser T A) (s : List T) (a : A) (u : List T) → P s ≡ Ok (a, u) → sees is u ≡ false → separated is P s ≡ Ok (a ∷ [], u)
one_item is P s a u e closed = rw e (rw (repeat_done is (accept (this is) >> P) u closed) refl)

-- A loop over a list begins after the first part.
pub more_items : {T A B : Type 0} (add : B → A → B) (is : T → Bool) (P : Parser T A) (v : B) (s : List T) (a : A) (u : List T) → P s ≡ Ok (a, u) → fold_front add (add v a) (repeat is (accept (this is) >> P) u) ≡ fold_front add v (separated is P s)
more_items add is P v s a u e = rw e (sym (fold_one add v a (repeat is (accept (this is) >> P) u)))

-- to append what each part gives is to append all of it
fold_flat : {A B : Type 0} (g : A → List B) (v : List B) (xs : List A) → fold (λ w a. w ++ g a) v xs ≡ v ++ flat_map g xs
fold_flat g v [] = sym (append-nil v)
fold_flat g v (a ∷ xs) = fold_flat g (v ++ g a) xs ∙ append_assoc v (g a) (flat_map g xs)

-- A loop that appends what each part gives ends with all of it.
pub flat_items : {T A B : Type 0} (g : A → List B) (v : List B) (o : Outcome T (List A)) → fold_front (λ w a. w ++ g a) v o ≡ and_then o (λ xs. pure (v ++ flat_map g xs))
flat_items g v (Ok x) = ap (λ z. Ok (z, x.1)) (fold_flat g v x.0)
flat_items g v (Err e) = refl

-- to push each part is to append them
fold_push : {A : Type 0} (v xs : List A) → fold push v xs ≡ v ++ xs
fold_push v [] = sym (append-nil v)
fold_push v (a ∷ xs) = fold_push (push v a) xs ∙ append_assoc v (a ∷ []) xs

-- A loop that pushes each part, from the empty list on, ends with all of them.
pub all_items : {T A : Type 0} (o : Outcome T (List A)) → fold_front push [] o ≡ o
all_items (Ok x) = ap (λ z. Ok (z, x.1)) (fold_push [] x.0)
all_items (Err e) = refl
