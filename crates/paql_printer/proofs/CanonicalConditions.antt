-- The canonical lexemes of conditions are texts of them.
use Rattle.std.proofs.Common.{◌≡◌, ◌⊎◌, inl, inr, ℕ, zero, suc, ◌≤◌, length, length-append, List, [], ◌∷◌, ◌++◌, map, flat_map, Some, refl, sym, ap, subst, ◌∙◌, append-nil, arith}
use Rattle.paql_lexer.specs.declared.vocabulary.Kind.TheVariants as kinds
use Rattle.paql_lexer.specs.declared.vocabulary.Kind.{Kind}
use Rattle.schema_types.specs.declared.Lit.{Lit}
use Rattle.paql_ast.specs.declared.conditions.ColumnName.{ColumnName}
use Rattle.paql_ast.specs.declared.conditions.CmpOp.{CmpOp}
use Rattle.paql_ast.specs.declared.conditions.Operand.{Operand}
use Rattle.paql_ast.specs.declared.conditions.Pred.{Pred, out-Pred, out-roll-Pred}
use Rattle.paql_ast.specs.declared.conditions.Pred.TheVariants as preds
use Rattle.paql_ast.specs.declared.conditions.Pred.TheOpen.{Pred-F}
use Rattle.paql_ast.specs.declared.conditions.Pred.TheFolds.{fold-Pred, fold-roll-Pred}
use Rattle.formal_grammar.specs.Lang.{Lang, ◌>>◌, many, listed}
use Rattle.paql_grammar.specs.Lexemes.{Lexeme, word}
use Rattle.paql_grammar.specs.Conditions as grammar
use Rattle.paql_grammar.specs.Conditions.{and_parts, and_of, or_parts, or_of}
use Rattle.paql_printer.specs.Print as print
use Rattle.paql_printer.specs.Print.{Held, held, at_least}
use Rattle.paql_printer.specs.Spellings.{spelled}
use Rattle.paql_ast.specs.declared.conditions.CmpOp.TheVariants as ops
use Rattle.paql_ast.specs.declared.conditions.Operand.TheVariants as operands
use Rattle.paql_printer.proofs.CanonicalLeaves.{behind_word, before_word, ends_in, canonical_listed}
use Rattle.paql_printer.proofs.CanonicalAggregates.{spells_column}
use Rattle.paql_printer.proofs.CanonicalStatements.{spells_lit, canonical_lit, canonical_statement}
use Rattle.paql_grammar.proofs.ConditionRules.{single_rule}
use Rattle.paql_grammar.specs.Statements.{statement}
use Rattle.paql_printer.specs.Canonical.{Canonical}

-- ---- the printed layer of each variant

abbrev whole : Pred → Held
whole = fold-Pred Held held

held_or : (ts : List Pred) → whole (preds.Or ts) ≡ held (Pred-F.Or (map whole ts))
held_or ts = ap whole (sym (preds.rolls-Or ts)) ∙ fold-roll-Pred Held held (Pred-F.Or ts)

held_and : (ts : List Pred) → whole (preds.And ts) ≡ held (Pred-F.And (map whole ts))
held_and ts = ap whole (sym (preds.rolls-And ts)) ∙ fold-roll-Pred Held held (Pred-F.And ts)

held_not : (t : Pred) → whole (preds.Not t) ≡ held (Pred-F.Not (whole t))
held_not t = ap whole (sym (preds.rolls-Not t)) ∙ fold-roll-Pred Held held (Pred-F.Not t)

held_compare : (of : ColumnName) (op : CmpOp) (right : Operand) → whole (preds.Compare of op right) ≡ held (Pred-F.Compare of op right)
held_compare of op right = ap whole (sym (preds.rolls-Compare of op right)) ∙ fold-roll-Pred Held held (Pred-F.Compare of op right)

held_between : (of : ColumnName) (low high : Lit) → whole (preds.Between of low high) ≡ held (Pred-F.Between of low high)
held_between of low high = ap whole (sym (preds.rolls-Between of low high)) ∙ fold-roll-Pred Held held (Pred-F.Between of low high)

held_in : (of : ColumnName) (list : List Lit) → whole (preds.In of list) ≡ held (Pred-F.In of list)
held_in of list = ap whole (sym (preds.rolls-In of list)) ∙ fold-roll-Pred Held held (Pred-F.In of list)

-- ---- the parts of each variant

and_at : (t : Pred) (layer : Pred-F Pred) → out-Pred t ≡ layer → and_parts t ≡ grammar.and_parts_of t layer
and_at t layer e = ap (grammar.and_parts_of t) e

or_at : (t : Pred) (layer : Pred-F Pred) → out-Pred t ≡ layer → or_parts t ≡ grammar.or_parts_of t layer
or_at t layer e = ap (grammar.or_parts_of t) e

out_or : (ts : List Pred) → out-Pred (preds.Or ts) ≡ Pred-F.Or ts
out_or ts = ap out-Pred (sym (preds.rolls-Or ts)) ∙ out-roll-Pred (Pred-F.Or ts)

out_and : (ts : List Pred) → out-Pred (preds.And ts) ≡ Pred-F.And ts
out_and ts = ap out-Pred (sym (preds.rolls-And ts)) ∙ out-roll-Pred (Pred-F.And ts)

out_not : (t : Pred) → out-Pred (preds.Not t) ≡ Pred-F.Not t
out_not t = ap out-Pred (sym (preds.rolls-Not t)) ∙ out-roll-Pred (Pred-F.Not t)

out_compare : (of : ColumnName) (op : CmpOp) (right : Operand) → out-Pred (preds.Compare of op right) ≡ Pred-F.Compare of op right
out_compare of op right = ap out-Pred (sym (preds.rolls-Compare of op right)) ∙ out-roll-Pred (Pred-F.Compare of op right)

out_between : (of : ColumnName) (low high : Lit) → out-Pred (preds.Between of low high) ≡ Pred-F.Between of low high
out_between of low high = ap out-Pred (sym (preds.rolls-Between of low high)) ∙ out-roll-Pred (Pred-F.Between of low high)

out_in : (of : ColumnName) (list : List Lit) → out-Pred (preds.In of list) ≡ Pred-F.In of list
out_in of list = ap out-Pred (sym (preds.rolls-In of list)) ∙ out-roll-Pred (Pred-F.In of list)

-- A condition that is no AND is its own only part, and one that is no OR.
abbrev AndAlone : Pred → Type 0
AndAlone t = and_parts t ≡ t ∷ []

abbrev OrAlone : Pred → Type 0
OrAlone t = or_parts t ≡ t ∷ []

-- ---- leaves

-- what is known of a test of a column
record IsLeaf (t : Pred) : Type 0 where
  and_alone : AndAlone t
  or_alone : OrAlone t
  level : (whole t).level ≡ 2
  spells : grammar.leaf (whole t).lexemes t

shows_operator : (op : CmpOp) → grammar.operator_of (spelled (print.operator op)) ≡ Some op
shows_operator ops.Eq = refl
shows_operator ops.Ne = refl
shows_operator ops.Lt = refl
shows_operator ops.Le = refl
shows_operator ops.Gt = refl
shows_operator ops.Ge = refl

spells_operand : (right : Operand) → grammar.operand (print.operand right) right
spells_operand (operands.Lit value) = inr (ends_in (λ z. operands.Lit z) (print.lit value) value (spells_lit value))
spells_operand (operands.Column of) = inl (ends_in (λ z. operands.Column z) (print.column of) of (spells_column of))

compare_leaf : (of : ColumnName) (op : CmpOp) (right : Operand) → IsLeaf (preds.Compare of op right)
compare_leaf of op right =
    let e = held_compare of op right in
    record {
      and_alone = and_at (preds.Compare of op right) (Pred-F.Compare of op right) (out_compare of op right);
      or_alone = or_at (preds.Compare of op right) (Pred-F.Compare of op right) (out_compare of op right);
      level = ap (λ (z : Held). z.level) e;
      spells = subst (λ (z : Held). grammar.leaf z.lexemes (preds.Compare of op right)) (sym e) (record {
        front = print.column of;
        back = spelled (print.operator op) ∷ print.operand right;
        value = of;
        first = spells_column of;
        second = inl (record {
          front = spelled (print.operator op) ∷ [];
          back = print.operand right;
          value = op;
          first = (spelled (print.operator op), refl, shows_operator op);
          second = ends_in (λ z. preds.Compare of op z) (print.operand right) right (spells_operand right);
          whole = refl;
        });
        whole = refl;
      });
    }

between_leaf : (of : ColumnName) (low high : Lit) → IsLeaf (preds.Between of low high)
between_leaf of low high =
    let e = held_between of low high in
    record {
      and_alone = and_at (preds.Between of low high) (Pred-F.Between of low high) (out_between of low high);
      or_alone = or_at (preds.Between of low high) (Pred-F.Between of low high) (out_between of low high);
      level = ap (λ (z : Held). z.level) e;
      spells = subst (λ (z : Held). grammar.leaf z.lexemes (preds.Between of low high)) (sym e) (record {
        front = print.column of;
        back = spelled kinds.Between ∷ (print.lit low ++ spelled kinds.And ∷ print.lit high);
        value = of;
        first = spells_column of;
        second = inr (inl (behind_word kinds.Between (record {
          front = print.lit low;
          back = spelled kinds.And ∷ print.lit high;
          value = low;
          first = spells_lit low;
          second = behind_word kinds.And (ends_in (λ z. preds.Between of low z) (print.lit high) high (spells_lit high));
          whole = refl;
        })));
        whole = refl;
      });
    }

in_leaf : (of : ColumnName) (list : List Lit) (w : List Lexeme) → listed (word kinds.Comma) grammar.lit w list → IsLeaf (preds.In of list)
in_leaf of list w d =
    let e = held_in of list in
    record {
      and_alone = and_at (preds.In of list) (Pred-F.In of list) (out_in of list);
      or_alone = or_at (preds.In of list) (Pred-F.In of list) (out_in of list);
      level = ap (λ (z : Held). z.level) e;
      spells = subst (λ (z : Held). grammar.leaf z.lexemes (preds.In of list)) (sym e) (record {
        front = print.column of;
        back = spelled kinds.In ∷ (spelled kinds.LeftParen ∷ (print.listed kinds.Comma print.lit list ++ spelled kinds.RightParen ∷ []));
        value = of;
        first = spells_column of;
        second = inr (inr (behind_word kinds.In (behind_word kinds.LeftParen (before_word (λ z. preds.In of z) kinds.RightParen (print.listed kinds.Comma print.lit list) list (canonical_listed kinds.Comma print.lit canonical_lit w list d)))));
        whole = refl;
      });
    }

-- a test of a column that has a text
leaf_test : (of : ColumnName) (w : List Lexeme) (t : Pred) → grammar.test of w t → IsLeaf t
leaf_test of w t (inl d) = let x = d.second in subst IsLeaf (sym x.second.1) (compare_leaf of d.value x.value)
leaf_test of w t (inr (inl d)) =
    let l = d.second in
    let h = l.second.second in
    subst IsLeaf (sym h.second.1) (between_leaf of l.value h.value)
leaf_test of w t (inr (inr d)) =
    let x = d.second.second in
    subst IsLeaf (sym x.second.second.1) (in_leaf of x.value x.front x.first)

-- ---- the normal form

-- each of a list
abbrev Each : (Pred → Type 0) → List Pred → Type 0
Each P [] = Unit {0}
Each P (t ∷ ts) = P t × Each P ts

-- an AND of at least two parts, none of which is an AND
record AndOf (F : Pred → Type 0) (t : Pred) : Type 0 where
  parts : List Pred
  is : t ≡ preds.And parts
  two : 2 ≤ length parts
  each : Each (λ x. F x × AndAlone x) parts

abbrev Both : (Pred → Type 0) → Pred → Type 0
Both F t = (F t × AndAlone t) ⊎ AndOf F t

-- an OR of at least two parts, none of which is an OR
record OrOf (F : Pred → Type 0) (t : Pred) : Type 0 where
  parts : List Pred
  is : t ≡ preds.Or parts
  two : 2 ≤ length parts
  each : Each (λ x. Both F x × OrAlone x) parts

abbrev Joined : (Pred → Type 0) → Pred → Type 0
Joined F t = (Both F t × OrAlone t) ⊎ OrOf F t

record NotOf (F : Pred → Type 0) (t : Pred) : Type 0 where
  part : Pred
  is : t ≡ preds.Not part
  fits : F part

-- what a single condition is, with at most n brackets and NOTs open
abbrev Fits : ℕ → Pred → Type 0
Fits zero t = IsLeaf t
Fits (suc n) t = IsLeaf t ⊎ (NotOf (Fits n) t ⊎ Joined (Fits n) t)

-- ---- more depth

each_map : (P Q : Pred → Type 0) → ((t : Pred) → P t → Q t) → (ts : List Pred) → Each P ts → Each Q ts
each_map P Q f [] all = tt
each_map P Q f (t ∷ ts) all = (f t all.0, each_map P Q f ts all.1)

and_map : (F G : Pred → Type 0) → ((t : Pred) → F t → G t) → (t : Pred) → AndOf F t → AndOf G t
and_map F G f t x = record { parts = x.parts; is = x.is; two = x.two; each = each_map (λ u. F u × AndAlone u) (λ u. G u × AndAlone u) (λ u h. (f u h.0, h.1)) x.parts x.each }

both_map : (F G : Pred → Type 0) → ((t : Pred) → F t → G t) → (t : Pred) → Both F t → Both G t
both_map F G f t (inl x) = inl (f t x.0, x.1)
both_map F G f t (inr x) = inr (and_map F G f t x)

or_map : (F G : Pred → Type 0) → ((t : Pred) → F t → G t) → (t : Pred) → OrOf F t → OrOf G t
or_map F G f t x = record { parts = x.parts; is = x.is; two = x.two; each = each_map (λ u. Both F u × OrAlone u) (λ u. Both G u × OrAlone u) (λ u h. (both_map F G f u h.0, h.1)) x.parts x.each }

joined_map : (F G : Pred → Type 0) → ((t : Pred) → F t → G t) → (t : Pred) → Joined F t → Joined G t
joined_map F G f t (inl x) = inl (both_map F G f t x.0, x.1)
joined_map F G f t (inr x) = inr (or_map F G f t x)

grow : (n : ℕ) (t : Pred) → Fits n t → Fits (suc n) t
grow zero t x = inl x
grow (suc n) t (inl x) = inl x
grow (suc n) t (inr (inl x)) = inr (inl (record { part = x.part; is = x.is; fits = grow n x.part x.fits }))
grow (suc n) t (inr (inr x)) = inr (inr (joined_map (Fits n) (Fits (suc n)) (grow n) t x))

-- ---- alone or not

not_and_alone : (t u : Pred) → t ≡ preds.Not u → AndAlone t
not_and_alone t u is = subst AndAlone (sym is) (and_at (preds.Not u) (Pred-F.Not u) (out_not u))

not_or_alone : (t u : Pred) → t ≡ preds.Not u → OrAlone t
not_or_alone t u is = subst OrAlone (sym is) (or_at (preds.Not u) (Pred-F.Not u) (out_not u))

or_and_alone : (t : Pred) (ts : List Pred) → t ≡ preds.Or ts → AndAlone t
or_and_alone t ts is = subst AndAlone (sym is) (and_at (preds.Or ts) (Pred-F.Or ts) (out_or ts))

and_or_alone : (t : Pred) (ts : List Pred) → t ≡ preds.And ts → OrAlone t
and_or_alone t ts is = subst OrAlone (sym is) (or_at (preds.And ts) (Pred-F.And ts) (out_and ts))

-- an AND or none
and_or_not : (n : ℕ) (t : Pred) → Fits n t → Both (Fits n) t
and_or_not zero t x = inl (x, x.and_alone)
and_or_not (suc n) t (inl x) = inl (inl x, x.and_alone)
and_or_not (suc n) t (inr (inl x)) = inl (inr (inl x), not_and_alone t x.part x.is)
and_or_not (suc n) t (inr (inr (inl (inl x, alone)))) = inl (inr (inr (inl (inl x, alone))), x.1)
and_or_not (suc n) t (inr (inr (inl (inr x, alone)))) = inr (and_map (Fits n) (Fits (suc n)) (grow n) t x)
and_or_not (suc n) t (inr (inr (inr x))) = inl (inr (inr (inr x)), or_and_alone t x.parts x.is)

-- an OR or none
or_or_not : (n : ℕ) (t : Pred) → Both (Fits n) t → Joined (Fits n) t
or_or_not n t (inr x) = inl (inr x, and_or_alone t x.parts x.is)
or_or_not zero t (inl x) = inl (inl x, x.0.or_alone)
or_or_not (suc n) t (inl (inl x, alone)) = inl (inl (inl x, alone), x.or_alone)
or_or_not (suc n) t (inl (inr (inl x), alone)) = inl (inl (inr (inl x), alone), not_or_alone t x.part x.is)
or_or_not (suc n) t (inl (inr (inr (inl x)), alone)) = inl (inl (inr (inr (inl x)), alone), x.1)
or_or_not (suc n) t (inl (inr (inr (inr x)), alone)) = inr (or_map (Fits n) (Fits (suc n)) (grow n) t x)

-- ---- the parts of a list are joined

-- the parts of one, of which there is at least one
record AreParts (Q : Pred → Type 0) (ts : List Pred) : Type 0 where
  each : Each Q ts
  some : 1 ≤ length ts

and_spread : (F : Pred → Type 0) (t : Pred) → Both F t → AreParts (λ x. F x × AndAlone x) (and_parts t)
and_spread F t (inl x) = subst (AreParts (λ z. F z × AndAlone z)) (sym x.1) (record { each = (x, tt); some = omega arith })
and_spread F t (inr x) =
    subst (AreParts (λ z. F z × AndAlone z)) (sym (ap and_parts x.is ∙ and_at (preds.And x.parts) (Pred-F.And x.parts) (out_and x.parts))) (record { each = x.each; some = omega (arith, x.two) })

or_spread : (F : Pred → Type 0) (t : Pred) → Joined F t → AreParts (λ x. Both F x × OrAlone x) (or_parts t)
or_spread F t (inl x) = subst (AreParts (λ z. Both F z × OrAlone z)) (sym x.1) (record { each = (x, tt); some = omega arith })
or_spread F t (inr x) =
    subst (AreParts (λ z. Both F z × OrAlone z)) (sym (ap or_parts x.is ∙ or_at (preds.Or x.parts) (Pred-F.Or x.parts) (out_or x.parts))) (record { each = x.each; some = omega (arith, x.two) })

each_append : (Q : Pred → Type 0) (ts us : List Pred) → Each Q ts → Each Q us → Each Q (ts ++ us)
each_append Q [] us p q = q
each_append Q (t ∷ ts) us p q = (p.0, each_append Q ts us p.1 q)

-- all parts of all
each_flat : (Q : Pred → Type 0) (parts : Pred → List Pred) (ts : List Pred) → Each (λ t. AreParts Q (parts t)) ts → Each Q (flat_map parts ts) × (length ts ≤ length (flat_map parts ts))
each_flat Q parts [] all = (tt, omega arith)
each_flat Q parts (t ∷ ts) all =
    let later = each_flat Q parts ts all.1 in
    (each_append Q (parts t) (flat_map parts ts) all.0.each later.0, omega (arith, all.0.some, later.1, length-append (parts t) (flat_map parts ts)))

and_fits : (n : ℕ) (ts : List Pred) → Each (Fits n) ts → 1 ≤ length ts → Both (Fits n) (and_of ts)
and_fits n [] all some = absurd (omega (arith, some))
and_fits n (t ∷ []) all some = and_or_not n t all.0
and_fits n (t ∷ (u ∷ ts)) all some =
    let flat = each_flat (λ x. Fits n x × AndAlone x) and_parts (t ∷ (u ∷ ts)) (each_map (Fits n) (λ x. AreParts (λ z. Fits n z × AndAlone z) (and_parts x)) (λ x f. and_spread (Fits n) x (and_or_not n x f)) (t ∷ (u ∷ ts)) all) in
    inr (record { parts = flat_map and_parts (t ∷ (u ∷ ts)); is = refl; two = omega (arith, flat.1); each = flat.0 })

or_fits : (n : ℕ) (ts : List Pred) → Each (Both (Fits n)) ts → 1 ≤ length ts → Joined (Fits n) (or_of ts)
or_fits n [] all some = absurd (omega (arith, some))
or_fits n (t ∷ []) all some = or_or_not n t all.0
or_fits n (t ∷ (u ∷ ts)) all some =
    let flat = each_flat (λ x. Both (Fits n) x × OrAlone x) or_parts (t ∷ (u ∷ ts)) (each_map (Both (Fits n)) (λ x. AreParts (λ z. Both (Fits n) z × OrAlone z) (or_parts x)) (λ x f. or_spread (Fits n) x (or_or_not n x f)) (t ∷ (u ∷ ts)) all) in
    inr (record { parts = flat_map or_parts (t ∷ (u ∷ ts)); is = refl; two = omega (arith, flat.1); each = flat.0 })

-- ---- what has a text has the normal form

each_many : (p : Lang Lexeme Pred) (F : Pred → Type 0) → ((w : List Lexeme) (t : Pred) → p w t → F t) → (kind : Kind) (w : List Lexeme) (ts : List Pred) → many (word kind >> p) w ts → Each F ts
each_many p F f kind w [] d = tt
each_many p F f kind w (t ∷ ts) d = (f d.2.back t d.2.second, each_many p F f kind d.1 ts d.3)

-- a list has at least one part
each_listed : (p : Lang Lexeme Pred) (F : Pred → Type 0) → ((w : List Lexeme) (t : Pred) → p w t → F t) → (kind : Kind) (w : List Lexeme) (ts : List Pred) → listed (word kind) p w ts → Each F ts × (1 ≤ length ts)
each_listed p F f kind w ts d =
    let x = d.second in
    subst (λ (z : List Pred). Each F z × (1 ≤ length z)) (sym x.second.1) ((f d.front d.value d.first, each_many p F f kind x.front x.value x.first), omega arith)

module _ (n : ℕ) (single : Lang Lexeme Pred) (fits : (w : List Lexeme) (t : Pred) → single w t → Fits n t) where
  both_fits : (w : List Lexeme) (t : Pred) → grammar.both single w t → Both (Fits n) t
  both_fits w t d = let all = each_listed single (Fits n) fits kinds.And d.front d.value d.first in subst (Both (Fits n)) (sym d.second.1) (and_fits n d.value all.0 all.1)

  joined_fits : (w : List Lexeme) (t : Pred) → grammar.joined single w t → Joined (Fits n) t
  joined_fits w t d = let all = each_listed (grammar.both single) (Both (Fits n)) both_fits kinds.Or d.front d.value d.first in subst (Joined (Fits n)) (sym d.second.1) (or_fits n d.value all.0 all.1)

single_fits : (n : ℕ) (w : List Lexeme) (t : Pred) → grammar.single n w t → Fits n t
unfolding grammar.single
single_fits zero w t d = leaf_test d.value d.back t d.second
single_fits (suc n) w t (inl (inl d)) = let x = d.second in inr (inl (record { part = x.value; is = x.second.1; fits = single_fits n x.front x.value x.first }))
single_fits (suc n) w t (inl (inr d)) = let x = d.second in inr (inr (subst (Joined (Fits n)) (sym x.second.second.1) (joined_fits n (grammar.single n) (single_fits n) x.front x.value x.first)))
single_fits (suc n) w t (inr d) = inl (leaf_test d.value d.back t d.second)

-- ---- how tightly a condition holds together

-- an AND, an OR, or neither
abbrev Level : Pred → Type 0
Level t = ((whole t).level ≡ 2) ⊎ ((((whole t).level ≡ 1) × (AndAlone t → ⊥)) ⊎ (((whole t).level ≡ 0) × (OrAlone t → ⊥)))

-- no list of at least two parts is one of one part
not_one : (ts : List Pred) (t : Pred) → 2 ≤ length ts → ts ≡ t ∷ [] → ⊥
not_one ts t two e = omega (arith, two, ap (λ (z : List Pred). length z) e)

and_level : (F : Pred → Type 0) (t : Pred) → AndOf F t → ((whole t).level ≡ 1) × (AndAlone t → ⊥)
and_level F t x = (
  ap (λ (z : Pred). (whole z).level) x.is ∙ ap (λ (z : Held). z.level) (held_and x.parts),
  λ alone. not_one x.parts t x.two (sym (ap and_parts x.is ∙ and_at (preds.And x.parts) (Pred-F.And x.parts) (out_and x.parts)) ∙ alone),
)

or_level : (F : Pred → Type 0) (t : Pred) → OrOf F t → ((whole t).level ≡ 0) × (OrAlone t → ⊥)
or_level F t x = (
  ap (λ (z : Pred). (whole z).level) x.is ∙ ap (λ (z : Held). z.level) (held_or x.parts),
  λ alone. not_one x.parts t x.two (sym (ap or_parts x.is ∙ or_at (preds.Or x.parts) (Pred-F.Or x.parts) (out_or x.parts)) ∙ alone),
)

level_of : (n : ℕ) (t : Pred) → Fits n t → Level t
level_of zero t x = inl x.level
level_of (suc n) t (inl x) = inl x.level
level_of (suc n) t (inr (inl x)) = inl (ap (λ (z : Pred). (whole z).level) x.is ∙ ap (λ (z : Held). z.level) (held_not x.part))
level_of (suc n) t (inr (inr (inl (inl x, alone)))) = level_of n t x.0
level_of (suc n) t (inr (inr (inl (inr x, alone)))) = inr (inl (and_level (Fits n) t x))
level_of (suc n) t (inr (inr (inr x))) = inr (inr (or_level (Fits n) t x))

-- ---- brackets or none

open_two : (p : Held) → p.level ≡ 2 → at_least 2 p ≡ p.lexemes
open_two p e = rw e refl

abbrev in_brackets : List Lexeme → List Lexeme
in_brackets lexemes = spelled kinds.LeftParen ∷ (lexemes ++ spelled kinds.RightParen ∷ [])

closed_one : (p : Held) → p.level ≡ 1 → at_least 2 p ≡ in_brackets p.lexemes
closed_one p e = rw e refl

closed_none : (p : Held) → p.level ≡ 0 → at_least 2 p ≡ in_brackets p.lexemes
closed_none p e = rw e refl

open_in_or : (p : Held) → p.level ≡ 1 → at_least 1 p ≡ p.lexemes
open_in_or p e = rw e refl

-- in an OR a condition that is no AND is printed as in an AND
same_in_or : (t : Pred) → Level t → AndAlone t → at_least 1 (whole t) ≡ at_least 2 (whole t)
same_in_or t (inl e) alone = rw e refl
same_in_or t (inr (inl x)) alone = absurd (x.1 alone)
same_in_or t (inr (inr x)) alone = rw x.0 refl

-- what is no OR is printed in an OR as it is
bare_in_or : (F : Pred → Type 0) → ((t : Pred) → F t → Level t) → (t : Pred) → Both F t → OrAlone t → at_least 1 (whole t) ≡ (whole t).lexemes
bare_in_or F level t (inr x) alone = open_in_or (whole t) (and_level F t x).0
bare_in_or F level t (inl x) alone = bare (level t x.0)
  where
    bare : Level t → at_least 1 (whole t) ≡ (whole t).lexemes
    bare (inl e) = rw e refl
    bare (inr (inl y)) = rw y.0 refl
    bare (inr (inr y)) = absurd (y.1 alone)

-- ---- printed lists

listed_map : (kind : Kind) (print_part : Held → List Lexeme) (ts : List Pred) → print.listed kind print_part (map whole ts) ≡ print.listed kind (λ t. print_part (whole t)) ts
listed_map kind print_part [] = refl
listed_map kind print_part (t ∷ ts) = ap (λ (z : List Lexeme). print_part (whole t) ++ z) (later ts)
  where
    later : (us : List Pred) → flat_map (λ item. print.behind kind (print_part item)) (map whole us) ≡ flat_map (λ item. print.behind kind (print_part (whole item))) us
    later [] = refl
    later (u ∷ us) = ap (λ (z : List Lexeme). print.behind kind (print_part (whole u)) ++ z) (later us)

spells_many : (p : Lang Lexeme Pred) (kind : Kind) (print_part : Pred → List Lexeme) (ts : List Pred) → Each (λ t. p (print_part t) t) ts → many (word kind >> p) (flat_map (λ item. print.behind kind (print_part item)) ts) ts
spells_many p kind print_part [] all = refl
spells_many p kind print_part (t ∷ ts) all = (print.behind kind (print_part t), flat_map (λ item. print.behind kind (print_part item)) ts, behind_word kind all.0, spells_many p kind print_part ts all.1, refl)

spells_listed : (p : Lang Lexeme Pred) (kind : Kind) (print_part : Pred → List Lexeme) (ts : List Pred) → 1 ≤ length ts → Each (λ t. p (print_part t) t) ts → listed (word kind) p (print.listed kind print_part ts) ts
spells_listed p kind print_part [] some all = absurd (omega (arith, some))
spells_listed p kind print_part (t ∷ ts) some all = record {
  front = print_part t;
  back = flat_map (λ item. print.behind kind (print_part item)) ts;
  value = t;
  first = all.0;
  second = ends_in (λ z. t ∷ z) (flat_map (λ item. print.behind kind (print_part item)) ts) ts (spells_many p kind print_part ts all.1);
  whole = refl;
}

-- one part alone
spells_one : (p : Lang Lexeme Pred) (kind : Kind) (w : List Lexeme) (t : Pred) → p w t → listed (word kind) p w (t ∷ [])
spells_one p kind w t d = record { front = w; back = []; value = t; first = d; second = ends_in (λ z. t ∷ z) [] [] refl; whole = sym (append-nil w) }

-- parts that are alone are not opened
flat_alone : (parts : Pred → List Pred) (ts : List Pred) → Each (λ t. parts t ≡ t ∷ []) ts → flat_map parts ts ≡ ts
flat_alone parts [] all = refl
flat_alone parts (t ∷ ts) all = ap (λ (z : List Pred). z ++ flat_map parts ts) all.0 ∙ ap (λ (z : List Pred). t ∷ z) (flat_alone parts ts all.1)

and_again : (ts : List Pred) → 2 ≤ length ts → Each AndAlone ts → and_of ts ≡ preds.And ts
and_again [] two all = absurd (omega (arith, two))
and_again (t ∷ []) two all = absurd (omega (arith, two))
and_again (t ∷ (u ∷ ts)) two all = ap (λ (z : List Pred). preds.And z) (flat_alone and_parts (t ∷ (u ∷ ts)) all)

or_again : (ts : List Pred) → 2 ≤ length ts → Each OrAlone ts → or_of ts ≡ preds.Or ts
or_again [] two all = absurd (omega (arith, two))
or_again (t ∷ []) two all = absurd (omega (arith, two))
or_again (t ∷ (u ∷ ts)) two all = ap (λ (z : List Pred). preds.Or z) (flat_alone or_parts (t ∷ (u ∷ ts)) all)

-- ---- the normal form is printed as a text of it

module _ (single : Lang Lexeme Pred) (F : Pred → Type 0) (level : (t : Pred) → F t → Level t) (spells : (t : Pred) → F t → single (at_least 2 (whole t)) t) where
  spells_and : (t : Pred) → AndOf F t → grammar.both single (whole t).lexemes t
  spells_and t x =
      let print_part = λ (z : Pred). at_least 2 (whole z) in
      let text = ap (λ (z : Held). z.lexemes) (held_and x.parts) ∙ listed_map kinds.And (at_least 2) x.parts in
      let all = spells_listed single kinds.And print_part x.parts (omega (arith, x.two)) (each_map (λ z. F z × AndAlone z) (λ z. single (print_part z) z) (λ z h. spells z h.0) x.parts x.each) in
      let again = and_again x.parts x.two (each_map (λ z. F z × AndAlone z) AndAlone (λ z h. h.1) x.parts x.each) in
      subst (λ (z : Pred). grammar.both single (whole z).lexemes z) (sym x.is) (subst (λ (z : List Lexeme). grammar.both single z (preds.And x.parts)) (sym text) (subst (grammar.both single (print.listed kinds.And print_part x.parts)) again (ends_in and_of (print.listed kinds.And print_part x.parts) x.parts all)))

  spells_both : (t : Pred) → Both F t → grammar.both single (at_least 1 (whole t)) t
  spells_both t (inl x) = subst (λ (z : List Lexeme). grammar.both single z t) (sym (same_in_or t (level t x.0) x.1)) (ends_in and_of (at_least 2 (whole t)) (t ∷ []) (spells_one single kinds.And (at_least 2 (whole t)) t (spells t x.0)))
  spells_both t (inr x) = subst (λ (z : List Lexeme). grammar.both single z t) (sym (open_in_or (whole t) (and_level F t x).0)) (spells_and t x)

  spells_joined : (t : Pred) → Joined F t → grammar.joined single (whole t).lexemes t
  spells_joined t (inl x) =
      subst (λ (z : List Lexeme). grammar.joined single z t) (bare_in_or F level t x.0 x.1) (ends_in or_of (at_least 1 (whole t)) (t ∷ []) (spells_one (grammar.both single) kinds.Or (at_least 1 (whole t)) t (spells_both t x.0)))
  spells_joined t (inr x) =
      let print_part = λ (z : Pred). at_least 1 (whole z) in
      let text = ap (λ (z : Held). z.lexemes) (held_or x.parts) ∙ listed_map kinds.Or (at_least 1) x.parts in
      let all = spells_listed (grammar.both single) kinds.Or print_part x.parts (omega (arith, x.two)) (each_map (λ z. Both F z × OrAlone z) (λ z. grammar.both single (print_part z) z) (λ z h. spells_both z h.0) x.parts x.each) in
      let again = or_again x.parts x.two (each_map (λ z. Both F z × OrAlone z) OrAlone (λ z h. h.1) x.parts x.each) in
      subst (λ (z : Pred). grammar.joined single (whole z).lexemes z) (sym x.is) (subst (λ (z : List Lexeme). grammar.joined single z (preds.Or x.parts)) (sym text) (subst (grammar.joined single (print.listed kinds.Or print_part x.parts)) again (ends_in or_of (print.listed kinds.Or print_part x.parts) x.parts all)))

-- in brackets
spells_brackets : (single : Lang Lexeme Pred) (w : List Lexeme) (t : Pred) → grammar.joined single w t → grammar.bracketed (grammar.joined single) (in_brackets w) t
spells_brackets single w t d = behind_word kinds.LeftParen (before_word (λ z. z) kinds.RightParen w t d)

spells_single : (n : ℕ) (t : Pred) → Fits n t → grammar.single n (at_least 2 (whole t)) t
unfolding grammar.single
spells_single zero t x = subst (λ (z : List Lexeme). grammar.leaf z t) (sym (open_two (whole t) x.level)) x.spells
spells_single (suc n) t (inl x) = inr (subst (λ (z : List Lexeme). grammar.leaf z t) (sym (open_two (whole t) x.level)) x.spells)
spells_single (suc n) t (inr (inl x)) =
    subst (λ (z : Pred). grammar.single (suc n) (at_least 2 (whole z)) z) (sym x.is) (subst (λ (z : Held). grammar.single (suc n) (at_least 2 z) (preds.Not x.part)) (sym (held_not x.part)) (inl (inl (behind_word kinds.Not (ends_in (λ z. preds.Not z) (at_least 2 (whole x.part)) x.part (spells_single n x.part x.fits))))))
spells_single (suc n) t (inr (inr (inl (inl x, alone)))) = (single_rule 0).grows n (suc n) (at_least 2 (whole t)) t (omega arith) (spells_single n t x.0)
spells_single (suc n) t (inr (inr (inl (inr x, alone)))) =
    subst (λ (z : List Lexeme). grammar.single (suc n) z t) (sym (closed_one (whole t) (and_level (Fits n) t x).0)) (inl (inr (spells_brackets (grammar.single n) (whole t).lexemes t (spells_joined (grammar.single n) (Fits n) (level_of n) (spells_single n) t (inl (inr x, alone))))))
spells_single (suc n) t (inr (inr (inr x))) =
    subst (λ (z : List Lexeme). grammar.single (suc n) z t) (sym (closed_none (whole t) (or_level (Fits n) t x).0)) (inl (inr (spells_brackets (grammar.single n) (whole t).lexemes t (spells_joined (grammar.single n) (Fits n) (level_of n) (spells_single n) t (inr x)))))

-- A condition that has a text is spelled by its canonical lexemes, with no more depth.
pub canonical_pred : (n : ℕ) → Canonical (grammar.pred n) print.pred
canonical_pred n w t d = spells_joined (grammar.single n) (Fits n) (level_of n) (spells_single n) t (joined_fits n (grammar.single n) (single_fits n) w t d)

-- A statement that has a text is spelled by its canonical lexemes.
pub canonical_statements : (n : ℕ) → Canonical (statement n) print.statement
canonical_statements n = canonical_statement n (canonical_pred n)
