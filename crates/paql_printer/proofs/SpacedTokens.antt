-- The spaced text of lexemes that stay apart is cut into just these lexemes.
use Rattle.std.proofs.Common.{◌≡◌, ℕ, ◌+◌, true, List, [], ◌∷◌, ◌++◌, length, refl, sym, ap, ◌∙◌, arith, append_assoc, length-append}
use Rattle.paql_lexer.specs.Lexical.{Is, IsGap}
use Rattle.paql_lexer.specs.Tokens.{Reaches, IsTokens}
use Rattle.paql_lexer.specs.declared.lexer.Token.{Token}
use Rattle.paql_lexer.specs.declared.vocabulary.Kind.{Kind}
use Rattle.paql_grammar.specs.Lexemes.{Lexeme, lexeme, lexemes}
use Rattle.paql_printer.specs.Spacing.{touches, spaced, spaced_behind}
use Rattle.paql_printer.proofs.Separable.{Separable}
use Rattle.paql_printer.proofs.Pieces.{gap_of, gap_is, gap_and, gap_at_end}
use Rattle.paql_printer.proofs.TextTokens.{word_at}
use Rattle.paql_printer.proofs.Touching.{in_place, no_piece_at}

-- From the place on the text is cut into tokens, which are these lexemes of the text with what comes before.
abbrev IsCut : ℕ → List ℕ → List Lexeme → Type 0
IsCut at text later = (tokens : List Token) × Reaches at text tokens []
    × ((front : List ℕ) → length front ≡ at → lexemes (front ++ text) tokens ≡ later)

-- the token at the end of some prefix
abbrev token_at : Kind → ℕ → List ℕ → Token
token_at kind start word = record { kind = kind; start = start; end = start + length word }

-- its bytes are the word
lexeme_at : (t : Lexeme) (front more : List ℕ) (start : ℕ) → length front ≡ start → lexeme (front ++ (t.bytes ++ more)) (token_at t.kind start t.bytes) ≡ t
lexeme_at t front more start place = ap (λ (w : List ℕ). record { kind = t.kind; bytes = w }) (word_at front t.bytes more start (start + length t.bytes) place refl)

-- one lexeme before a cut text
cut_more : (at : ℕ) (gap : List ℕ) (t : Lexeme) (more : List ℕ) (later : List Lexeme) (text : List ℕ) → text ≡ gap ++ (t.bytes ++ more) → IsGap gap (t.bytes ++ more) → Is t.kind t.bytes more → IsCut (at + length gap + length t.bytes) more later → IsCut at text (t ∷ later)
cut_more at gap t more later text whole is_gap is cut =
    (token_at t.kind (at + length gap) t.bytes ∷ cut.0, (gap, t.bytes, more, is_gap, is, whole, refl, refl, cut.1), λ front place. shown front place)
  where
    shown : (front : List ℕ) → length front ≡ at → lexemes (front ++ text) (token_at t.kind (at + length gap) t.bytes ∷ cut.0) ≡ t ∷ later
    shown front place =
        let token = token_at t.kind (at + length gap) t.bytes in
        let gap_behind : front ++ text ≡ (front ++ gap) ++ (t.bytes ++ more) = ap (λ (w : List ℕ). front ++ w) whole ∙ sym (append_assoc front gap (t.bytes ++ more)) in
        let token_behind : front ++ text ≡ ((front ++ gap) ++ t.bytes) ++ more = gap_behind ∙ sym (append_assoc (front ++ gap) t.bytes more) in
        let start_is : length (front ++ gap) ≡ at + length gap = omega (arith, length-append front gap) in
        let end_is : length ((front ++ gap) ++ t.bytes) ≡ at + length gap + length t.bytes = omega (arith, length-append (front ++ gap) t.bytes) in
        let first : lexeme (front ++ text) token ≡ t = ap (λ (w : List ℕ). lexeme w token) gap_behind ∙ lexeme_at t (front ++ gap) more (at + length gap) start_is in
        let rest : lexemes (front ++ text) cut.0 ≡ later = ap (λ (w : List ℕ). lexemes w cut.0) token_behind ∙ cut.2 ((front ++ gap) ++ t.bytes) end_is in
        cc (first, rest)

cut_behind : (before last : Lexeme) (later : List Lexeme) (at : ℕ) → Separable later → IsCut at (spaced_behind before last later) later
cut_behind before last [] at separable = ([], ([], gap_at_end, refl), λ front place. refl)
cut_behind before last (next ∷ later) at separable =
    let touch = touches before last next in
    let more = spaced_behind last next later in
    let none = no_piece_at last next later separable.0 separable.1 separable.2 in
    let rest = cut_behind last next later (at + length (gap_of touch) + length next.bytes) separable.2 in
    cut_more at (gap_of touch) next more later (spaced_behind before last (next ∷ later)) (gap_and touch next.bytes more) (gap_is touch (next.bytes ++ more) none) (in_place last next later separable.0 separable.1 separable.2) rest

-- A spaced text of lexemes that stay apart has tokens, and they are just these lexemes.
pub spaced_is_cut : (lexemes_of : List Lexeme) → Separable lexemes_of → (tokens : List Token) × IsTokens (spaced lexemes_of) tokens × (lexemes (spaced lexemes_of) tokens ≡ lexemes_of)
spaced_is_cut [] separable = ([], ([], gap_at_end, refl), refl)
spaced_is_cut (first ∷ later) separable =
    let more = spaced_behind first first later in
    let none = no_piece_at first first later separable.0 separable.1 separable.2 in
    let rest = cut_behind first first later (0 + length (gap_of true) + length first.bytes) separable.2 in
    let cut = cut_more 0 (gap_of true) first more later (spaced (first ∷ later)) refl (gap_is true (first.bytes ++ more) none) (in_place first first later separable.0 separable.1 separable.2) rest in
    (cut.0, cut.1, cut.2 [] refl)
