-- Where no space and no comment is, and the gap that one space is.
use Rattle.std.proofs.Common.{◌≡◌, ℕ, true, Bool, if◌then◌else◌, false, List, [], ◌∷◌, ◌++◌, refl, ap, ◌∙◌, subst, inl, inr}
use Rattle.paql_lexer.specs.Lexical.{NoneAt, BeginsWith, IsPiece, IsGap, is_space}
use Rattle.paql_lexer.proofs.FoundLemmas.{begins_with_head}

-- there is no piece in nothing
none_at_end : NoneAt IsPiece []
none_at_end piece rest e (inl s) = let h : [] ≡ s.0 ∷ rest = e ∙ ap (λ (w : List ℕ). w ++ rest) s.2 in cc h
none_at_end piece rest e (inr s) = let h : [] ≡ 45 ∷ (45 ∷ (s.0 ++ rest)) = e ∙ ap (λ (w : List ℕ). w ++ rest) s.2 in cc h

-- there is no piece where neither a space nor two minuses come first
pub no_piece : (first : ℕ) (bytes : List ℕ) → (is_space first ≡ true → ⊥) → (first ≡ 45 → BeginsWith 45 bytes → ⊥) → NoneAt IsPiece (first ∷ bytes)
no_piece first bytes space comment piece rest e (inl s) =
    let front : first ∷ bytes ≡ s.0 ∷ rest = e ∙ ap (λ (w : List ℕ). w ++ rest) s.2 in
    let byte : s.0 ≡ first = cc in
    space (subst (λ (n : ℕ). is_space n ≡ true) byte s.1)
no_piece first bytes space comment piece rest e (inr s) =
    let front : first ∷ bytes ≡ 45 ∷ (45 ∷ (s.0 ++ rest)) = e ∙ ap (λ (w : List ℕ). w ++ rest) s.2 in
    let byte : first ≡ 45 = cc in
    let behind : bytes ≡ 45 ∷ (s.0 ++ rest) = cc in
    comment byte (begins_with_head 45 bytes (s.0 ++ rest) behind)

-- Nothing where the lexemes touch, else one space.
abbrev pub gap_of : Bool → List ℕ
gap_of true = []
gap_of false = 32 ∷ []

-- it is a gap before what begins with no piece
pub gap_is : (touch : Bool) (rest : List ℕ) → NoneAt IsPiece rest → IsGap (gap_of touch) rest
gap_is true rest none = ([], none, refl)
gap_is false rest none = ((32 ∷ []) ∷ [], (inl (32, refl, refl), none), refl)

pub gap_at_end : IsGap [] []
gap_at_end = ([], none_at_end, refl)

-- the next lexeme's bytes after their gap
pub gap_and : (touch : Bool) (bytes more : List ℕ) → (if touch then bytes else 32 ∷ bytes) ++ more ≡ gap_of touch ++ (bytes ++ more)
gap_and true bytes more = refl
gap_and false bytes more = refl
