-- The canonical lexemes of columns, literals and conditions are sound.
use Rattle.std.proofs.Common.{◌≡◌, inl, inr, ℕ, zero, suc, Bool, true, false, if◌then◌else◌, nat_lt, List, [], ◌∷◌, ◌++◌, map, flat_map, Option, Some, None, refl, sym, ap, subst, ◌∙◌}
use Rattle.schema_types.specs.declared.Lit.{Lit}
use Rattle.paql_lexer.specs.Lexical.{IsWord}
use Rattle.paql_lexer.specs.declared.vocabulary.Kind.{Kind}
use Rattle.paql_lexer.specs.declared.vocabulary.Kind.TheVariants as kinds
use Rattle.paql_ast.specs.declared.conditions.ColumnName.{ColumnName}
use Rattle.paql_ast.specs.declared.conditions.CmpOp.{CmpOp}
use Rattle.paql_ast.specs.declared.conditions.CmpOp.TheVariants as ops
use Rattle.paql_ast.specs.declared.conditions.Operand.{Operand}
use Rattle.paql_ast.specs.declared.conditions.Pred.{Pred, out-Pred, out-roll-Pred}
use Rattle.paql_ast.specs.declared.conditions.Pred.TheVariants as preds
use Rattle.paql_ast.specs.declared.conditions.Pred.TheOpen.{Pred-F}
use Rattle.paql_ast.specs.declared.conditions.Pred.TheFolds.{fold-Pred, fold-roll-Pred}
use Rattle.formal_grammar.specs.Lang.{Lang, ◌>>◌, optional, many, listed}
use Rattle.formal_grammar.proofs.Contexts.{some_is, not_none}
use Rattle.paql_grammar.specs.Lexemes.{Lexeme, word}
use Rattle.paql_grammar.specs.Conditions as grammar
use Rattle.paql_grammar.specs.Conditions.{and_parts, and_of, or_parts, or_of}
use Rattle.paql_printer.specs.Print as print
use Rattle.paql_printer.specs.Print.{Held, held, at_least, behind}
use Rattle.paql_printer.specs.Spellings.{spelled, name}
use Rattle.paql_printer.proofs.Separable.{AreTokens}
use Rattle.paql_printer.proofs.Sound.{Plain, Sound, Sounds, sound_none, sound_append, sound_behind, sound_one, sound_before, tokens_split, in_front, in_back, sound_listed}
use Rattle.paql_printer.proofs.SoundWords.{plain_word, spelled_token, name_lexeme, name_plain, named_word, sound_content}
use Rattle.paql_printer.proofs.SoundNumbers.{sound_signed}

-- ---- columns and literals

-- the second name of a column is a word
suffix_word : (w : List Lexeme) (o : Option (List ℕ)) → optional grammar.suffix w o → AreTokens w → (of : List ℕ) → o ≡ Some of → IsWord of
suffix_word w o (inl d) all of e =
    let suffix = d.first in
    subst IsWord (some_is (sym d.second.1 ∙ e)) (named_word suffix.back d.value suffix.second (in_back suffix (in_front d all)))
suffix_word w o (inr d) all of e = absurd (not_none (sym e ∙ d.1))

-- A name, a point, and a name or a star.
pub sound_prefixed : (first : List ℕ) (last : Lexeme) → IsWord first → Plain last → Sound (name first ∷ (spelled kinds.Dot ∷ (last ∷ [])))
sound_prefixed first last is_word plain =
    let front = name_lexeme first is_word in
    record {
      first = front.plain.point;
      chained = (front.plain.token, record { number = rw front.number refl; minus = rw front.plain.minus refl }, (spelled_token kinds.Dot refl, record { number = refl; minus = refl }, (plain.token, plain.minus, tt)));
    }

sound_column_of : (first : List ℕ) (second : Option (List ℕ)) → IsWord first → ((word : List ℕ) → second ≡ Some word → IsWord word) → Sound (print.column (grammar.column_of first second))
sound_column_of first None is_first is_second = sound_one (name first) (name_plain first is_first)
sound_column_of first (Some second) is_first is_second = sound_prefixed first (name second) is_first (name_plain second (is_second second refl))

pub sound_column : Sounds grammar.column print.column
sound_column w of d all =
    let second = d.second in
    let words = suffix_word second.front second.value second.first (in_front second (in_back d all)) in
    subst (λ (z : ColumnName). Sound (print.column z)) (sym second.second.1) (sound_column_of d.value second.value (named_word d.front d.value d.first (in_front d all)) words)

pub sound_lit : Sounds grammar.lit print.lit
sound_lit w value (inl d) all = subst (λ (z : Lit). Sound (print.lit z)) (sym d.second.1) (sound_content d.front d.value d.first (in_front d all))
sound_lit w value (inr d) all = subst (λ (z : Lit). Sound (print.lit z)) (sym d.second.1) (sound_signed d.front d.value d.first (in_front d all))

sound_operand : Sounds grammar.operand print.operand
sound_operand w right (inl d) all = subst (λ (z : Operand). Sound (print.operand z)) (sym d.second.1) (sound_column d.front d.value d.first (in_front d all))
sound_operand w right (inr d) all = subst (λ (z : Operand). Sound (print.operand z)) (sym d.second.1) (sound_lit d.front d.value d.first (in_front d all))

pub operator_plain : (op : CmpOp) → Plain (spelled (print.operator op))
operator_plain ops.Eq = plain_word kinds.Equal refl
operator_plain ops.Ne = plain_word kinds.NotEqual refl
operator_plain ops.Lt = plain_word kinds.Less refl
operator_plain ops.Le = plain_word kinds.LessOrEqual refl
operator_plain ops.Gt = plain_word kinds.Greater refl
operator_plain ops.Ge = plain_word kinds.GreaterOrEqual refl

-- A word before a sound list.
pub word_behind : (kind : Kind) (w : List Lexeme) → Plain (spelled kind) → Sound w → Sound (behind kind w)
word_behind kind w plain p = sound_behind (spelled kind) w plain p

-- A sound list in brackets.
pub sound_brackets : (w : List Lexeme) → Sound w → Sound (behind kinds.LeftParen (w ++ spelled kinds.RightParen ∷ []))
sound_brackets w p = word_behind kinds.LeftParen (w ++ spelled kinds.RightParen ∷ []) (plain_word kinds.LeftParen refl) (sound_before w (spelled kinds.RightParen) p (plain_word kinds.RightParen refl))

-- ---- conditions by their parts

abbrev whole : Pred → Held
whole = fold-Pred Held held

abbrev SoundPred : Pred → Type 0
SoundPred t = Sound (print.pred t)

abbrev Each : (Pred → Type 0) → List Pred → Type 0
Each P [] = Unit {0}
Each P (t ∷ ts) = P t × Each P ts

-- A condition whose lexemes are sound, and those of its parts where it is an AND or an OR.
record Good (t : Pred) : Type 0 where
  sound : SoundPred t
  ands : Each SoundPred (and_parts t)
  ors : Each SoundPred (or_parts t)

-- in brackets or not
sound_at_least : (level : ℕ) (part : Held) → Sound part.lexemes → Sound (at_least level part)
sound_at_least level part p = bracketed (nat_lt part.level level)
  where
    bracketed : (b : Bool) → Sound (if b then behind kinds.LeftParen (part.lexemes ++ spelled kinds.RightParen ∷ []) else part.lexemes)
    bracketed true = sound_brackets part.lexemes p
    bracketed false = p

module _ (kind : Kind) (plain : Plain (spelled kind)) (level : ℕ) where
  sound_later : (ts : List Pred) → Each SoundPred ts → Sound (flat_map (λ item. behind kind (at_least level item)) (map whole ts))
  sound_later [] all = sound_none
  sound_later (t ∷ ts) all = sound_append (behind kind (at_least level (whole t))) (flat_map (λ item. behind kind (at_least level item)) (map whole ts)) (word_behind kind (at_least level (whole t)) plain (sound_at_least level (whole t) all.0)) (sound_later ts all.1)

  sound_parts : (ts : List Pred) → Each SoundPred ts → Sound (print.listed kind (at_least level) (map whole ts))
  sound_parts [] all = sound_none
  sound_parts (t ∷ ts) all = sound_append (at_least level (whole t)) (flat_map (λ item. behind kind (at_least level item)) (map whole ts)) (sound_at_least level (whole t) all.0) (sound_later ts all.1)

-- a condition that is no AND is its own only part, and one that is no OR
and_alone : (t : Pred) (layer : Pred-F Pred) → out-Pred t ≡ layer → grammar.and_parts_of t layer ≡ t ∷ [] → SoundPred t → Each SoundPred (and_parts t)
and_alone t layer e alone p = subst (Each SoundPred) (sym (ap (grammar.and_parts_of t) e ∙ alone)) (p, tt)

or_alone : (t : Pred) (layer : Pred-F Pred) → out-Pred t ≡ layer → grammar.or_parts_of t layer ≡ t ∷ [] → SoundPred t → Each SoundPred (or_parts t)
or_alone t layer e alone p = subst (Each SoundPred) (sym (ap (grammar.or_parts_of t) e ∙ alone)) (p, tt)

good_or : (ts : List Pred) → Each SoundPred ts → Good (preds.Or ts)
good_or ts all =
    let rolls = sym (preds.rolls-Or ts) in
    let out = ap out-Pred rolls ∙ out-roll-Pred (Pred-F.Or ts) in
    let sound = subst (λ (z : Held). Sound z.lexemes) (sym (ap whole rolls ∙ fold-roll-Pred Held held (Pred-F.Or ts))) (sound_parts kinds.Or (plain_word kinds.Or refl) 1 ts all) in
    record { sound = sound; ands = and_alone (preds.Or ts) (Pred-F.Or ts) out refl sound; ors = subst (Each SoundPred) (sym (ap (grammar.or_parts_of (preds.Or ts)) out)) all }

good_and : (ts : List Pred) → Each SoundPred ts → Good (preds.And ts)
good_and ts all =
    let rolls = sym (preds.rolls-And ts) in
    let out = ap out-Pred rolls ∙ out-roll-Pred (Pred-F.And ts) in
    let sound = subst (λ (z : Held). Sound z.lexemes) (sym (ap whole rolls ∙ fold-roll-Pred Held held (Pred-F.And ts))) (sound_parts kinds.And (plain_word kinds.And refl) 2 ts all) in
    record { sound = sound; ands = subst (Each SoundPred) (sym (ap (grammar.and_parts_of (preds.And ts)) out)) all; ors = or_alone (preds.And ts) (Pred-F.And ts) out refl sound }

-- a condition that is neither
good_alone : (t : Pred) (layer : Pred-F Pred) → out-Pred t ≡ layer → grammar.and_parts_of t layer ≡ t ∷ [] → grammar.or_parts_of t layer ≡ t ∷ [] → SoundPred t → Good t
good_alone t layer out ands ors p = record { sound = p; ands = and_alone t layer out ands p; ors = or_alone t layer out ors p }

good_not : (t : Pred) → SoundPred t → Good (preds.Not t)
good_not t part =
    let rolls = sym (preds.rolls-Not t) in
    let layer : Pred-F Pred = Pred-F.Not t in
    let shown = word_behind kinds.Not (at_least 2 (whole t)) (plain_word kinds.Not refl) (sound_at_least 2 (whole t) part) in
    good_alone (preds.Not t) layer (ap out-Pred rolls ∙ out-roll-Pred layer) refl refl (subst (λ (z : Held). Sound z.lexemes) (sym (ap whole rolls ∙ fold-roll-Pred Held held layer)) shown)

good_compare : (of : ColumnName) (op : CmpOp) (right : Operand) → Sound (print.column of) → Sound (print.operand right) → Good (preds.Compare of op right)
good_compare of op right column value =
    let rolls = sym (preds.rolls-Compare of op right) in
    let layer : Pred-F Pred = Pred-F.Compare of op right in
    let test = behind (print.operator op) (print.operand right) in
    let shown = sound_append (print.column of) test column (word_behind (print.operator op) (print.operand right) (operator_plain op) value) in
    good_alone (preds.Compare of op right) layer (ap out-Pred rolls ∙ out-roll-Pred layer) refl refl (subst (λ (z : Held). Sound z.lexemes) (sym (ap whole rolls ∙ fold-roll-Pred Held held layer)) shown)

good_between : (of : ColumnName) (low high : Lit) → Sound (print.column of) → Sound (print.lit low) → Sound (print.lit high) → Good (preds.Between of low high)
good_between of low high column from to =
    let rolls = sym (preds.rolls-Between of low high) in
    let layer : Pred-F Pred = Pred-F.Between of low high in
    let upper = behind kinds.And (print.lit high) in
    let ends = sound_append (print.lit low) upper from (word_behind kinds.And (print.lit high) (plain_word kinds.And refl) to) in
    let shown = sound_append (print.column of) (behind kinds.Between (print.lit low ++ upper)) column (word_behind kinds.Between (print.lit low ++ upper) (plain_word kinds.Between refl) ends) in
    good_alone (preds.Between of low high) layer (ap out-Pred rolls ∙ out-roll-Pred layer) refl refl (subst (λ (z : Held). Sound z.lexemes) (sym (ap whole rolls ∙ fold-roll-Pred Held held layer)) shown)

good_in : (of : ColumnName) (list : List Lit) → Sound (print.column of) → Sound (print.listed kinds.Comma print.lit list) → Good (preds.In of list)
good_in of list column values =
    let rolls = sym (preds.rolls-In of list) in
    let layer : Pred-F Pred = Pred-F.In of list in
    let brackets = behind kinds.LeftParen (print.listed kinds.Comma print.lit list ++ spelled kinds.RightParen ∷ []) in
    let test = word_behind kinds.In brackets (plain_word kinds.In refl) (sound_brackets (print.listed kinds.Comma print.lit list) values) in
    let shown = sound_append (print.column of) (behind kinds.In brackets) column test in
    good_alone (preds.In of list) layer (ap out-Pred rolls ∙ out-roll-Pred layer) refl refl (subst (λ (z : Held). Sound z.lexemes) (sym (ap whole rolls ∙ fold-roll-Pred Held held layer)) shown)

-- ---- lists of parts

each_append : (ts us : List Pred) → Each SoundPred ts → Each SoundPred us → Each SoundPred (ts ++ us)
each_append [] us p q = q
each_append (t ∷ ts) us p q = (p.0, each_append ts us p.1 q)

all_ands : (ts : List Pred) → Each Good ts → Each SoundPred (flat_map and_parts ts)
all_ands [] all = tt
all_ands (t ∷ ts) all = each_append (and_parts t) (flat_map and_parts ts) all.0.ands (all_ands ts all.1)

all_ors : (ts : List Pred) → Each Good ts → Each SoundPred (flat_map or_parts ts)
all_ors [] all = tt
all_ors (t ∷ ts) all = each_append (or_parts t) (flat_map or_parts ts) all.0.ors (all_ors ts all.1)

good_and_of : (ts : List Pred) → Each Good ts → Good (and_of ts)
good_and_of [] all = good_and [] tt
good_and_of (t ∷ []) all = all.0
good_and_of (t ∷ (u ∷ ts)) all = good_and (flat_map and_parts (t ∷ (u ∷ ts))) (all_ands (t ∷ (u ∷ ts)) all)

good_or_of : (ts : List Pred) → Each Good ts → Good (or_of ts)
good_or_of [] all = good_or [] tt
good_or_of (t ∷ []) all = all.0
good_or_of (t ∷ (u ∷ ts)) all = good_or (flat_map or_parts (t ∷ (u ∷ ts))) (all_ors (t ∷ (u ∷ ts)) all)

-- ---- conditions that have a text

-- What has a text of tokens is good.
abbrev Goods : Lang Lexeme Pred → Type 0
Goods L = (w : List Lexeme) (t : Pred) → L w t → AreTokens w → Good t

goods_many : (p : Lang Lexeme Pred) (kind : Kind) → Goods p → (w : List Lexeme) (ts : List Pred) → many (word kind >> p) w ts → AreTokens w → Each Good ts
goods_many p kind good w [] d all = tt
goods_many p kind good w (t ∷ ts) d all =
    let both = tokens_split d.0 d.1 (subst AreTokens d.4 all) in
    (good d.2.back t d.2.second (in_back d.2 both.0), goods_many p kind good d.1 ts d.3 both.1)

goods_listed : (p : Lang Lexeme Pred) (kind : Kind) → Goods p → (w : List Lexeme) (ts : List Pred) → listed (word kind) p w ts → AreTokens w → Each Good ts
goods_listed p kind good w ts d all =
    let x = d.second in
    subst (Each Good) (sym x.second.1) (good d.front d.value d.first (in_front d all), goods_many p kind good x.front x.value x.first (in_front x (in_back d all)))

goods_both : (single : Lang Lexeme Pred) → Goods single → Goods (grammar.both single)
goods_both single good w t d all = subst Good (sym d.second.1) (good_and_of d.value (goods_listed single kinds.And good d.front d.value d.first (in_front d all)))

goods_joined : (single : Lang Lexeme Pred) → Goods single → Goods (grammar.joined single)
goods_joined single good w t d all = subst Good (sym d.second.1) (good_or_of d.value (goods_listed (grammar.both single) kinds.Or (goods_both single good) d.front d.value d.first (in_front d all)))

-- a test of a column
goods_test : (of : ColumnName) → Sound (print.column of) → Goods (grammar.test of)
goods_test of column w t (inl d) all =
    let right = d.second in
    subst Good (sym right.second.1) (good_compare of d.value right.value column (sound_operand right.front right.value right.first (in_front right (in_back d all))))
goods_test of column w t (inr (inl d)) all =
    let low = d.second in
    let high = low.second.second in
    let tokens = in_back d all in
    subst Good (sym high.second.1) (good_between of low.value high.value column (sound_lit low.front low.value low.first (in_front low tokens)) (sound_lit high.front high.value high.first (in_front high (in_back low.second (in_back low tokens)))))
goods_test of column w t (inr (inr d)) all =
    let list = d.second.second in
    let tokens = in_back d.second (in_back d all) in
    subst Good (sym list.second.second.1) (good_in of list.value column (sound_listed kinds.Comma print.lit (plain_word kinds.Comma refl) sound_lit list.front list.value list.first (in_front list tokens)))

goods_leaf : Goods grammar.leaf
goods_leaf w t d all = goods_test d.value (sound_column d.front d.value d.first (in_front d all)) d.back t d.second (in_back d all)

goods_single : (n : ℕ) → Goods (grammar.single n)
unfolding grammar.single
goods_single zero w t d all = goods_leaf w t d all
goods_single (suc n) w t (inl (inl d)) all =
    let part = d.second in
    subst Good (sym part.second.1) (good_not part.value (goods_single n part.front part.value part.first (in_front part (in_back d all))).sound)
goods_single (suc n) w t (inl (inr d)) all =
    let part = d.second in
    subst Good (sym part.second.second.1) (goods_joined (grammar.single n) (goods_single n) part.front part.value part.first (in_front part (in_back d all)))
goods_single (suc n) w t (inr d) all = goods_leaf w t d all

-- The canonical lexemes of a condition that has a text of tokens are sound.
pub sound_pred : (n : ℕ) → Sounds (grammar.pred n) print.pred
sound_pred n w t d all = (goods_joined (grammar.single n) (goods_single n) w t d all).sound
