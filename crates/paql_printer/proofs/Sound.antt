-- Lists of lexemes of which no two become one, wherever such lists come one after the other.
use Rattle.std.proofs.Common.{◌≡◌, inl, inr, Bool, true, false, ◌&&◌, IsFalse, List, [], ◌∷◌, ◌++◌, flat_map, Option, refl, sym, subst}
use Rattle.paql_lexer.specs.declared.vocabulary.Kind.{Kind}
use Rattle.paql_lexer.specs.declared.vocabulary.Kind.TheVariants as kinds
use Rattle.formal_grammar.specs.Lang.{Lang, Then, ◌>>◌, optional, many, listed}
use Rattle.paql_grammar.specs.Lexemes.{Lexeme, is, word}
use Rattle.paql_printer.specs.Print.{optional as print_optional, listed as print_listed, behind}
use Rattle.paql_printer.specs.Spellings.{spelled}
use Rattle.paql_printer.proofs.Separable.{IsToken, AreTokens, Apart, Separable}

-- ---- sound lists

-- After the lexeme comes one that stays apart from it, or none where it is no minus.
abbrev pub Precedes : Lexeme → List Lexeme → Type 0
Precedes t [] = IsFalse (is kinds.Minus t)
Precedes t (next ∷ later) = Apart t next

-- Tokens, each of which precedes what comes after it.
abbrev pub Chained : List Lexeme → Type 0
Chained [] = Unit {0}
Chained (t ∷ later) = IsToken t × Precedes t later × Chained later

-- No point comes first.
abbrev pub NoPoint : List Lexeme → Type 0
NoPoint [] = Unit {0}
NoPoint (t ∷ later) = IsFalse (is kinds.Dot t)

-- Tokens of which no two become one, also where another such list comes before it or after.
pub record Sound (w : List Lexeme) : Type 0 where
  pub first : NoPoint w
  pub chained : Chained w

-- Where a value has a text of tokens, the lexemes that are printed for it are sound.
abbrev pub Sounds : {A : Type 0} → Lang Lexeme A → (A → List Lexeme) → Type 0
Sounds {A = A} L print = (w : List Lexeme) (a : A) → L w a → AreTokens w → Sound (print a)

-- ---- one list after another

and_false : (b : Bool) → (b && false) ≡ false
and_false true = refl
and_false false = refl

-- a lexeme that is no minus precedes each list without a point before it
precedes : (t : Lexeme) (w : List Lexeme) → IsFalse (is kinds.Minus t) → NoPoint w → Precedes t w
precedes t [] minus point = minus
precedes t (next ∷ later) minus point = record { number = rw point (and_false (is kinds.Number t)); minus = rw minus refl }

chained_append : (v w : List Lexeme) → Chained v → NoPoint w → Chained w → Chained (v ++ w)
chained_append [] w p point q = q
chained_append (t ∷ []) w p point q = (p.0, precedes t w p.1 point, q)
chained_append (t ∷ (u ∷ v)) w p point q = (p.0, p.1, chained_append (u ∷ v) w p.2 point q)

first_append : (v w : List Lexeme) → NoPoint v → NoPoint w → NoPoint (v ++ w)
first_append [] w p q = q
first_append (t ∷ v) w p q = p

pub sound_none : Sound []
sound_none = record { first = tt; chained = tt }

pub sound_append : (v w : List Lexeme) → Sound v → Sound w → Sound (v ++ w)
sound_append v w p q = record { first = first_append v w p.first q.first; chained = chained_append v w p.chained q.first q.chained }

-- A token that is no minus and no point comes before a sound list.
pub record Plain (t : Lexeme) : Type 0 where
  pub token : IsToken t
  pub minus : IsFalse (is kinds.Minus t)
  pub point : IsFalse (is kinds.Dot t)

pub sound_behind : (t : Lexeme) (w : List Lexeme) → Plain t → Sound w → Sound (t ∷ w)
sound_behind t w plain p = record { first = plain.point; chained = (plain.token, precedes t w plain.minus p.first, p.chained) }

pub sound_one : (t : Lexeme) → Plain t → Sound (t ∷ [])
sound_one t plain = sound_behind t [] plain sound_none

-- A sound list before a last lexeme.
pub sound_before : (w : List Lexeme) (t : Lexeme) → Sound w → Plain t → Sound (w ++ t ∷ [])
sound_before w t p plain = sound_append w (t ∷ []) p (sound_one t plain)

-- Sound lists are separable.
pub separable : (w : List Lexeme) → Sound w → Separable w
separable w p = chain w p.chained
  where
    chain : (v : List Lexeme) → Chained v → Separable v
    chain [] q = tt
    chain (t ∷ []) q = (q.0, tt, tt)
    chain (t ∷ (u ∷ v)) q = (q.0, q.1, chain (u ∷ v) q.2)

-- ---- the tokens of a text's parts

pub tokens_split : (v w : List Lexeme) → AreTokens (v ++ w) → AreTokens v × AreTokens w
tokens_split [] w all = (tt, all)
tokens_split (t ∷ v) w all = let later = tokens_split v w all.1 in ((all.0, later.0), later.1)

-- Those of the text before it, and those of the text after it.
pub in_front : {A B : Type 0} {p : Lang Lexeme A} {q : A → Lang Lexeme B} {w : List Lexeme} {b : B} (d : Then p q w b) → AreTokens w → AreTokens d.front
in_front d all = (tokens_split d.front d.back (subst AreTokens d.whole all)).0

pub in_back : {A B : Type 0} {p : Lang Lexeme A} {q : A → Lang Lexeme B} {w : List Lexeme} {b : B} (d : Then p q w b) → AreTokens w → AreTokens d.back
in_back d all = (tokens_split d.front d.back (subst AreTokens d.whole all)).1

-- ---- what may be absent, and repetitions

pub sound_optional : {A : Type 0} {p : Lang Lexeme A} (print : A → List Lexeme) → Sounds p print → Sounds (optional p) (print_optional print)
sound_optional {A = A} print sound w o (inl t) all = subst (λ (z : Option A). Sound (print_optional print z)) (sym t.second.1) (sound t.front t.value t.first (in_front t all))
sound_optional {A = A} print sound w o (inr t) all = subst (λ (z : Option A). Sound (print_optional print z)) (sym t.1) sound_none

pub sound_many : {A : Type 0} {p : Lang Lexeme A} (print : A → List Lexeme) → Sounds p print → Sounds (many p) (flat_map print)
sound_many print sound w [] t all = sound_none
sound_many print sound w (a ∷ later) t all =
    let both = tokens_split t.0 t.1 (subst AreTokens t.4 all) in
    sound_append (print a) (flat_map print later) (sound t.0 a t.2 both.0) (sound_many print sound t.1 later t.3 both.1)

pub sound_listed : {A : Type 0} {p : Lang Lexeme A} (kind : Kind) (print : A → List Lexeme) → Plain (spelled kind) → Sounds p print → Sounds (listed (word kind) p) (print_listed kind print)
sound_listed {A = A} {p = p} kind print plain sound w items t all =
    let x = t.second in
    let later = sound_many {p = word kind >> p} (λ item. behind kind (print item)) (λ u a d tokens. sound_behind (spelled kind) (print a) plain (sound d.back a d.second (in_back d tokens))) x.front x.value x.first (in_front x (in_back t all)) in
    subst (λ (z : List A). Sound (print_listed kind print z)) (sym x.second.1) (sound_append (print t.value) (flat_map (λ item. behind kind (print item)) x.value) (sound t.front t.value t.first (in_front t all)) later)
