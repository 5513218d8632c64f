-- Lemmas on the gaps between tokens.
use Rattle.std.proofs.Common.{◌≡◌, ℕ, ◌<◌, true, List, [], ◌∷◌, ◌++◌, length, IsTrue, refl, sym, ap, ◌∙◌, subst, inl, inr, arith, append_assoc}
use Rattle.std.specs.List.{concat}
use Rattle.paql_lexer.specs.Lexical.{NoneAt, IsPiece, ArePieces, IsGap, in_run, is_space}
use Rattle.paql_lexer.specs.declared.gaps.Run.TheVariants as run
use Rattle.paql_lexer.proofs.Runs.{run_once, same_tail}

-- a space is no minus
space_not_minus : (byte : ℕ) (bytes line rest : List ℕ) → IsTrue (is_space byte) → byte ∷ bytes ≡ 45 ∷ (line ++ rest) → ⊥
space_not_minus byte bytes line rest space e =
    let minus : byte ≡ 45 = cc in
    let no : is_space 45 ≡ true = subst (λ (n : ℕ). is_space n ≡ true) minus space in
    cc no

-- there is one piece at the start of a text
pub one_piece : (p q x y : List ℕ) → IsPiece p x → IsPiece q y → p ++ x ≡ q ++ y → p ≡ q
one_piece p q x y (inl s) (inl t) e =
    let front : s.0 ∷ x ≡ t.0 ∷ y = ap (λ (w : List ℕ). w ++ x) (sym s.2) ∙ (e ∙ ap (λ (w : List ℕ). w ++ y) t.2) in
    let byte : s.0 ≡ t.0 = cc in
    s.2 ∙ (ap (λ (n : ℕ). n ∷ []) byte ∙ sym t.2)
one_piece p q x y (inl s) (inr t) e =
    let front : s.0 ∷ x ≡ 45 ∷ ((45 ∷ t.0) ++ y) = ap (λ (w : List ℕ). w ++ x) (sym s.2) ∙ (e ∙ ap (λ (w : List ℕ). w ++ y) t.2) in
    absurd (space_not_minus s.0 x (45 ∷ t.0) y s.1 front)
one_piece p q x y (inr s) (inl t) e =
    let front : t.0 ∷ y ≡ 45 ∷ ((45 ∷ s.0) ++ x) = ap (λ (w : List ℕ). w ++ y) (sym t.2) ∙ (sym e ∙ ap (λ (w : List ℕ). w ++ x) s.2) in
    absurd (space_not_minus t.0 y (45 ∷ s.0) x t.1 front)
one_piece p q x y (inr s) (inr t) e =
    let front : 45 ∷ (45 ∷ (s.0 ++ x)) ≡ 45 ∷ (45 ∷ (t.0 ++ y)) = ap (λ (w : List ℕ). w ++ x) (sym s.2) ∙ (e ∙ ap (λ (w : List ℕ). w ++ y) t.2) in
    let lines : s.0 ++ x ≡ t.0 ++ y = cc in
    let same = run_once (in_run run.Line) s.0 t.0 x y s.1 t.1 s.3 t.3 lines in
    s.2 ∙ (ap (λ (w : List ℕ). 45 ∷ (45 ∷ w)) same ∙ sym t.2)

-- there is one list of pieces at the start of a text
one_run_of_pieces : (ps qs : List (List ℕ)) (x y : List ℕ) → ArePieces ps x → ArePieces qs y → concat ps ++ x ≡ concat qs ++ y → concat ps ≡ concat qs
one_run_of_pieces [] [] x y p q e = refl
one_run_of_pieces [] (b ∷ qs) x y p q e =
    absurd (p b (concat qs ++ y) (e ∙ append_assoc b (concat qs) y) q.0)
one_run_of_pieces (a ∷ ps) [] x y p q e =
    absurd (q a (concat ps ++ x) (sym e ∙ append_assoc a (concat ps) x) p.0)
one_run_of_pieces (a ∷ ps) (b ∷ qs) x y p q e =
    let whole : a ++ (concat ps ++ x) ≡ b ++ (concat qs ++ y) = sym (append_assoc a (concat ps) x) ∙ (e ∙ append_assoc b (concat qs) y) in
    let same = one_piece a b (concat ps ++ x) (concat qs ++ y) p.0 q.0 whole in
    let rest = one_run_of_pieces ps qs x y p.1 q.1 (same_tail a b (concat ps ++ x) (concat qs ++ y) same whole) in
    cc (same, rest)

-- there is one gap at the start of a text
pub one_gap : (g h x y : List ℕ) → IsGap g x → IsGap h y → g ++ x ≡ h ++ y → g ≡ h
one_gap g h x y p q e =
    p.2 ∙ (one_run_of_pieces p.0 q.0 x y p.1 q.1 (ap (λ (w : List ℕ). w ++ x) (sym p.2) ∙ (e ∙ ap (λ (w : List ℕ). w ++ y) q.2)) ∙ sym q.2)

-- what is a gap at the start of the rest goes on one at the start of the text
abbrev pub ExtendsGaps : List ℕ → List ℕ → Type 0
ExtendsGaps text rest = (gap end : List ℕ) → IsGap gap end → rest ≡ gap ++ end → (front : List ℕ) × IsGap front end × (text ≡ front ++ end)

pub extends_none : (text : List ℕ) → ExtendsGaps text text
extends_none text gap end is e = (gap, is, e)

pub extends_more : (text rest behind piece : List ℕ) → ExtendsGaps text rest → IsPiece piece behind → rest ≡ piece ++ behind → ExtendsGaps text behind
extends_more text rest behind piece extends is e gap end is_gap f =
    let pieces = is_gap.0 in
    let behind_is : behind ≡ concat pieces ++ end = f ∙ ap (λ (w : List ℕ). w ++ end) is_gap.2 in
    let first : IsPiece piece (concat pieces ++ end) = subst (λ (w : List ℕ). IsPiece piece w) behind_is is in
    let whole : rest ≡ (piece ++ concat pieces) ++ end = e ∙ (ap (λ (w : List ℕ). piece ++ w) behind_is ∙ sym (append_assoc piece (concat pieces) end)) in
    extends (piece ++ concat pieces) end (piece ∷ pieces, (first, is_gap.1), refl) whole

-- no piece is empty
pub piece_some : (piece rest : List ℕ) → IsPiece piece rest → 0 < length piece
piece_some piece rest (inl s) = omega (arith, ap (λ (w : List ℕ). length w) s.2)
piece_some piece rest (inr s) = omega (arith, ap (λ (w : List ℕ). length w) s.2)

-- after the last piece the gap is done
pub gap_done : (text rest : List ℕ) → ExtendsGaps text rest → NoneAt IsPiece rest → (gap : List ℕ) × IsGap gap rest × (text ≡ gap ++ rest)
gap_done text rest extends none = extends [] rest ([], none, refl) refl
