-- The readings of AND and OR, where one part is there and where there are more.
use Rattle.std.proofs.Common.{◌≡◌, ℕ, Bool, true, false, List, [], ◌∷◌, length, flat_map, Ok, Err, refl, sym, ap, subst, ◌∙◌}
use Rattle.paql_lexer.specs.declared.vocabulary.Kind.TheVariants as kinds
use Rattle.paql_ast.specs.declared.conditions.Pred.{Pred}
use Rattle.paql_ast.specs.declared.conditions.Pred.TheVariants as preds
use Rattle.formal_grammar.specs.Parse.{Outcome, Parser, and_then, pure, sees, turns, repeat, separated}
use Rattle.formal_grammar.proofs.Contexts.{both_ways}
use Rattle.formal_grammar.specs.Exact.{Langs, Exact, IsRule}
use Rattle.paql_grammar.specs.Lexemes.{Lexeme, is}
use Rattle.paql_grammar.specs.Conditions.{and_parts, and_of, or_parts, or_of}
use Rattle.paql_grammar.specs.ConditionReading.{next_and, more_and, and_rest, both, next_or, more_or, or_rest, joined}

-- what is made of a first part and those after it
behind_first : {T A B : Type 0} (g h : List A → B) → ((a : A) (later : List A) → g (a ∷ later) ≡ h (a ∷ later)) → (a : A) (out : Outcome T (List A)) → and_then (and_then out (λ later. pure (a ∷ later))) (λ l. pure (g l)) ≡ and_then (and_then out (λ later. pure (a ∷ later))) (λ l. pure (h l))
behind_first g h same a (Ok y) = ap (λ b. Ok (b, y.1)) (same a y.0)
behind_first g h same a (Err e) = refl

first_of : {T A B : Type 0} (f : T → Bool) (p : Parser T A) (k : ℕ) (g h : List A → B) → ((a : A) (later : List A) → g (a ∷ later) ≡ h (a ∷ later)) → (out : Outcome T A) → and_then (and_then out (λ a u. and_then (turns f p k u) (λ later. pure (a ∷ later)))) (λ l. pure (g l)) ≡ and_then (and_then out (λ a u. and_then (turns f p k u) (λ later. pure (a ∷ later)))) (λ l. pure (h l))
first_of f p k g h same (Ok x) = behind_first g h same x.0 (turns f p k x.1)
first_of f p k g h same (Err e) = refl

-- where a part is there, only lists of one part and more matter
some_parts : {T A B : Type 0} (f : T → Bool) (p : Parser T A) (g h : List A → B) → ((a : A) (later : List A) → g (a ∷ later) ≡ h (a ∷ later)) → (s : List T) → sees f s ≡ true → and_then (repeat f p s) (λ l. pure (g l)) ≡ and_then (repeat f p s) (λ l. pure (h l))
some_parts f p g h same [] sees-is = absurd (both_ways sees-is refl)
some_parts f p g h same (t ∷ s) sees-is = rw sees-is (first_of f p (length s) g h same (p (t ∷ s)))

-- where no part begins the repetition is empty
no_parts : {T A : Type 0} (f : T → Bool) (p : Parser T A) (s : List T) → sees f s ≡ false → repeat f p s ≡ Ok ([], s)
no_parts f p [] sees-is = refl
no_parts f p (t ∷ s) sees-is = rw sees-is refl

-- two functions of a repetition, one after the other
chained : {T A B C : Type 0} (o : Outcome T A) (f : A → B) (g : B → C) → and_then (and_then o (λ a. pure (f a))) (λ b. pure (g b)) ≡ and_then o (λ a. pure (g (f a)))
chained (Ok x) f g = refl
chained (Err e) f g = refl

-- ---- AND

-- what comes after a first part
and_behind : (single : Parser Lexeme Pred) (t : Pred) (u : List Lexeme) (b : Bool) → sees (is kinds.And) u ≡ b → and_then (and_then (repeat (is kinds.And) (next_and single) u) (λ later. pure (t ∷ later))) (λ parts. pure (and_of parts)) ≡ and_rest t single u
unfolding and_rest more_and
and_behind single t u true sees-is =
    let more = next_and single in
    chained (repeat (is kinds.And) more u) (λ later. t ∷ later) and_of ∙ (some_parts (is kinds.And) more (λ later. and_of (t ∷ later)) (λ later. preds.And (flat_map and_parts (t ∷ later))) (λ a later. refl) u sees-is ∙ (sym (chained (repeat (is kinds.And) more u) (λ later. flat_map and_parts (t ∷ later)) preds.And) ∙ rw sees-is refl))
and_behind single t u false sees-is = rw (no_parts (is kinds.And) (next_and single) u sees-is, sees-is) refl

and_at : (single : Parser Lexeme Pred) (out : Outcome Lexeme Pred) → and_then (and_then out (λ t. λ u. and_then (repeat (is kinds.And) (next_and single) u) (λ later. pure (t ∷ later)))) (λ parts. pure (and_of parts)) ≡ and_then out (λ t. and_rest t single)
and_at single (Ok x) = and_behind single x.0 x.1 (sees (is kinds.And) x.1) refl
and_at single (Err e) = refl

-- The reading of AND is that of a list whose parts are joined.
pub both_is : (single : Parser Lexeme Pred) (s : List Lexeme) → and_then (separated (is kinds.And) single s) (λ parts. pure (and_of parts)) ≡ both single s
unfolding both
both_is single s = and_at single (single s)

-- ---- OR

or_behind : (part : Parser Lexeme Pred) (t : Pred) (u : List Lexeme) (b : Bool) → sees (is kinds.Or) u ≡ b → and_then (and_then (repeat (is kinds.Or) (next_or part) u) (λ later. pure (t ∷ later))) (λ parts. pure (or_of parts)) ≡ or_rest t part u
unfolding or_rest more_or
or_behind part t u true sees-is =
    let more = next_or part in
    chained (repeat (is kinds.Or) more u) (λ later. t ∷ later) or_of ∙ (some_parts (is kinds.Or) more (λ later. or_of (t ∷ later)) (λ later. preds.Or (flat_map or_parts (t ∷ later))) (λ a later. refl) u sees-is ∙ (sym (chained (repeat (is kinds.Or) more u) (λ later. flat_map or_parts (t ∷ later)) preds.Or) ∙ rw sees-is refl))
or_behind part t u false sees-is = rw (no_parts (is kinds.Or) (next_or part) u sees-is, sees-is) refl

or_at : (part : Parser Lexeme Pred) (out : Outcome Lexeme Pred) → and_then (and_then out (λ t. λ u. and_then (repeat (is kinds.Or) (next_or part) u) (λ later. pure (t ∷ later)))) (λ parts. pure (or_of parts)) ≡ and_then out (λ t. or_rest t part)
or_at part (Ok x) = or_behind part x.0 x.1 (sees (is kinds.Or) x.1) refl
or_at part (Err e) = refl

-- The reading of OR is that of a list whose parts are joined.
pub joined_is : (part : Parser Lexeme Pred) (s : List Lexeme) → and_then (separated (is kinds.Or) part s) (λ parts. pure (or_of parts)) ≡ joined part s
unfolding joined
joined_is part s = or_at part (part s)

-- Two readings that are equal everywhere are exact for the same language.
pub rule_as : {A : Type 0} {opens ext : Lexeme → Bool} {L : Langs Lexeme A} {P : Parser Lexeme A} {n : ℕ} (Q : Parser Lexeme A) → ((s : List Lexeme) → P s ≡ Q s) → IsRule opens L P ext n → IsRule opens L Q ext n
rule_as {opens = opens} {ext = ext} {L = L} {n = n} Q same x = record {
  grows = x.grows;
  has = x.has;
  exact = λ s. subst (λ o. Exact opens L ext n s o) (same s) (x.exact s);
}
