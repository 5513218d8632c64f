-- Each of the lexemes that stay apart is a token in its place in the spaced text, and no gap goes on before it.
use Rattle.std.proofs.Common.{◌≡◌, ℕ, Bool, true, false, ◌||◌, ◌&&◌, not, if◌then◌else◌, List, [], ◌∷◌, ◌++◌, refl, sym, ◌∙◌, subst, arith}
use Rattle.std.proofs.lemmas.Bool.{both_ways, and_from, and_parts}
use Rattle.paql_lexer.specs.Lexical.{NoneAt, BeginsWith, IsPiece, Is}
use Rattle.paql_lexer.specs.declared.vocabulary.Kind.{Kind}
use Rattle.paql_lexer.specs.declared.vocabulary.Kind.TheVariants as kinds
use Rattle.paql_grammar.specs.Lexemes.{Lexeme, is}
use Rattle.paql_printer.specs.Spacing.{ends_term, calls, touches, spaced_behind}
use Rattle.paql_grammar.proofs.KindSets.{sample, of_is, only, passes}
use Rattle.paql_printer.proofs.Separable.{IsToken, Apart, ApartFrom, Separable}
use Rattle.paql_printer.proofs.Marks.{dot_is, left_paren_is, right_paren_is, comma_is, minus_is, minus_alone, no_space}
use Rattle.paql_printer.proofs.Pieces.{no_piece}
use Rattle.paql_printer.proofs.Following.{StaysBefore, before_space, before_left_paren, before_right_paren, before_comma, before_dot, at_end, dot_stays, left_paren_stays, minus_stays}

-- a lexeme of a kind passes the kind's test
passes_test : (kind : Kind) (t : Lexeme) → t.kind ≡ kind → is kind t ≡ true
passes_test kind t e = of_is kind t (sample kind) e ∙ passes kind

-- a token of a kind whose tokens are one byte is that byte
is_byte : (kind : Kind) (byte : ℕ) → ((word rest : List ℕ) → Is kind word rest → word ≡ byte ∷ []) → (t : Lexeme) → IsToken t → is kind t ≡ true → t.bytes ≡ byte ∷ []
is_byte kind byte bytes t token of = bytes t.bytes token.0 (subst (λ (k : Kind). Is k t.bytes token.0) (only kind t of) token.1)

-- a sign that nothing goes on
last_alone : (kind : Kind) (byte : ℕ) → ((word rest : List ℕ) → Is kind word rest → word ≡ byte ∷ []) → ((rest : List ℕ) → Is kind (byte ∷ []) rest) → (t : Lexeme) → IsToken t → is kind t ≡ true → (rest : List ℕ) → Is t.kind t.bytes rest
last_alone kind byte bytes stays t token of rest =
    let word = is_byte kind byte bytes t token of in
    subst (λ (w : List ℕ). Is t.kind w rest) (sym word) (subst (λ (k : Kind). Is k (byte ∷ []) rest) (sym (only kind t of)) (stays rest))

-- a token before a sign that goes on none
next_apart : (kind : Kind) (byte : ℕ) → ((word rest : List ℕ) → Is kind word rest → word ≡ byte ∷ []) → StaysBefore byte → (t next : Lexeme) (more : List ℕ) → IsToken t → IsToken next → is kind next ≡ true → Is t.kind t.bytes (next.bytes ++ more)
next_apart kind byte bytes before t next more token next_token of =
    subst (λ (w : List ℕ). Is t.kind t.bytes (w ++ more)) (sym (is_byte kind byte bytes next next_token of)) (before t.kind t.bytes token.0 more token.1)

next_dot : (t next : Lexeme) (more : List ℕ) → IsToken t → IsToken next → Apart t next → is kinds.Dot next ≡ true → Is t.kind t.bytes (next.bytes ++ more)
next_dot t next more token next_token apart of =
    let no_number = λ (e : t.kind ≡ kinds.Number). both_ways _ apart.number (and_from (is kinds.Number t) (is kinds.Dot next) (passes_test kinds.Number t e) of) in
    subst (λ (w : List ℕ). Is t.kind t.bytes (w ++ more)) (sym (is_byte kinds.Dot 46 dot_is next next_token of)) (before_dot t.kind t.bytes token.0 more no_number token.1)

-- what follows from either of two tests
by_either : {P : Type 0} (a b : Bool) → (a ≡ true → P) → (b ≡ true → P) → (a || b) ≡ true → P
by_either true b left right e = left refl
by_either false b left right e = right e

-- a token before one that it touches
touching : (before t next : Lexeme) (more : List ℕ) → IsToken t → IsToken next → Apart t next → touches before t next ≡ true → Is t.kind t.bytes (next.bytes ++ more)
touching before t next more token next_token apart =
    by_either (is kinds.Dot t) _ (λ of. last_alone kinds.Dot 46 dot_is dot_stays t token of (next.bytes ++ more))
    (by_either (is kinds.Dot next) _ (λ of. next_dot t next more token next_token apart of)
    (by_either (is kinds.LeftParen t) _ (λ of. last_alone kinds.LeftParen 40 left_paren_is left_paren_stays t token of (next.bytes ++ more))
    (by_either (is kinds.RightParen next) _ (λ of. next_apart kinds.RightParen 41 right_paren_is before_right_paren t next more token next_token of)
    (by_either (is kinds.Comma next) _ (λ of. next_apart kinds.Comma 44 comma_is before_comma t next more token next_token of)
    (by_either (is kinds.LeftParen next && calls t) (is kinds.Minus t && not (ends_term before))
    (λ of. next_apart kinds.LeftParen 40 left_paren_is before_left_paren t next more token next_token (and_parts (is kinds.LeftParen next) (calls t) of).0)
    (λ of. last_alone kinds.Minus 45 minus_is minus_stays t token (and_parts (is kinds.Minus t) (not (ends_term before)) of).0 (next.bytes ++ more)))))))

-- a token before the next lexeme, by whether they touch
in_front : (touch : Bool) (before t next : Lexeme) (more : List ℕ) → IsToken t → IsToken next → Apart t next → touches before t next ≡ touch → Is t.kind t.bytes ((if touch then next.bytes else 32 ∷ next.bytes) ++ more)
in_front true before t next more token next_token apart touch = touching before t next more token next_token apart touch
in_front false before t next more token next_token apart touch = before_space t.kind t.bytes token.0 (next.bytes ++ more) token.1

-- each lexeme is a token in its place
pub in_place : (before t : Lexeme) (later : List Lexeme) → IsToken t → ApartFrom t later → Separable later → Is t.kind t.bytes (spaced_behind before t later)
in_place before t [] token apart separable = at_end t.kind t.bytes token.0 token.1
in_place before t (next ∷ later) token apart separable = in_front (touches before t next) before t next (spaced_behind t next later) token separable.0 apart refl

-- ---- no gap goes on

-- a token whose first byte is a minus is one
minus_from_first : (t : Lexeme) (more : List ℕ) → IsToken t → BeginsWith 45 (t.bytes ++ more) → is kinds.Minus t ≡ true
minus_from_first t more token begins = by_bytes t.bytes begins token.1
  where
    by_bytes : (bytes : List ℕ) → BeginsWith 45 (bytes ++ more) → Is t.kind bytes token.0 → is kinds.Minus t ≡ true
    by_bytes [] begins here = absurd here
    by_bytes (first ∷ bytes) begins here = passes_test kinds.Minus t (minus_alone t.kind bytes token.0 (subst (λ (n : ℕ). Is t.kind (n ∷ bytes) token.0) begins here)).0

-- no minus comes after a minus
no_minus : (touch : Bool) (t next : Lexeme) (more : List ℕ) → t.kind ≡ kinds.Minus → IsToken next → Apart t next → BeginsWith 45 ((if touch then next.bytes else 32 ∷ next.bytes) ++ more) → ⊥
no_minus true t next more minus next_token apart begins =
    both_ways _ apart.minus (and_from (is kinds.Minus t) (is kinds.Minus next) (passes_test kinds.Minus t minus) (minus_from_first next more next_token begins))
no_minus false t next more minus next_token apart begins = omega arith

no_minus_behind : (before t : Lexeme) (later : List Lexeme) → t.kind ≡ kinds.Minus → ApartFrom t later → Separable later → BeginsWith 45 (spaced_behind before t later) → ⊥
no_minus_behind before t [] minus apart separable begins = begins
no_minus_behind before t (next ∷ later) minus apart separable begins = no_minus (touches before t next) t next (spaced_behind t next later) minus separable.0 apart begins

-- there is no piece where a lexeme does
pub no_piece_at : (before t : Lexeme) (later : List Lexeme) → IsToken t → ApartFrom t later → Separable later → NoneAt IsPiece (t.bytes ++ spaced_behind before t later)
no_piece_at before t later token apart separable = by_bytes t.bytes token.1
  where
    comment : (bytes : List ℕ) → Is t.kind (45 ∷ bytes) token.0 → BeginsWith 45 (bytes ++ spaced_behind before t later) → ⊥
    comment bytes here begins =
        let minus = minus_alone t.kind bytes token.0 here in
        no_minus_behind before t later minus.0 apart separable (subst (λ (w : List ℕ). BeginsWith 45 (w ++ spaced_behind before t later)) minus.1 begins)

    by_bytes : (bytes : List ℕ) → Is t.kind bytes token.0 → NoneAt IsPiece (bytes ++ spaced_behind before t later)
    by_bytes [] here = absurd here
    by_bytes (first ∷ bytes) here =
        no_piece first (bytes ++ spaced_behind before t later) (no_space first t.kind bytes token.0 here) (λ minus begins. comment bytes (subst (λ (n : ℕ). Is t.kind (n ∷ bytes) token.0) minus here) begins)
