-- Lemmas on the tokens that a text is cut into.
use Rattle.std.proofs.Common.{◌≡◌, ℕ, ◌+◌, ◌-◌, ◌<◌, ◌≤◌, Some, None, false, ◌==◌, List, [], ◌∷◌, ◌++◌, length, drop, refl, sym, ap, ◌∙◌, subst, arith, length-append}
use Rattle.paql_lexer.specs.Lexical.{Is, IsGap, NoneAt, Finds}
use Rattle.std.proofs.lemmas.Bool.Decides.{nat_tests}
use Rattle.std.proofs.lemmas.List.{drop_at}
use Rattle.paql_lexer.specs.Tokens.{Reaches, IsTokens, IsLexFault, OneCut, NoCut}
use Rattle.paql_lexer.specs.declared.lexer.Token.{Token}
use Rattle.paql_lexer.specs.declared.vocabulary.Kind.{Kind}
use Rattle.paql_lexer.proofs.GapLemmas.{one_gap}
use Rattle.paql_lexer.proofs.Runs.{same_tail}
use Rattle.paql_lexer.proofs.TokenLemmas.{one_token, token_some}

-- the tokens so far, and what comes after them and a gap
pub record IsReached (text : List ℕ) (tokens : List Token) (rest : List ℕ) : Type 0 where
  pub reached : Reaches 0 text tokens rest

-- the rest is no longer than the text
reaches_within : (at : ℕ) (text : List ℕ) (tokens : List Token) (rest : List ℕ) → Reaches at text tokens rest → length rest ≤ length text
reaches_within at text [] rest r = omega (arith, ap (λ (x : List ℕ). length x) r.2, length-append r.0 rest)
reaches_within at text (token ∷ tokens) rest r =
    omega (arith, ap (λ (x : List ℕ). length x) r.5, length-append r.0 (r.1 ++ r.2), length-append r.1 r.2, reaches_within token.end r.2 tokens rest r.8)

-- one token more, and the gap after it
reaches_more : (at : ℕ) (text : List ℕ) (tokens : List Token) (token : Token) (word behind gap rest : List ℕ) → Reaches at text tokens (word ++ behind) → Is token.kind word behind → IsGap gap rest → behind ≡ gap ++ rest → token.start + length (word ++ behind) ≡ at + length text → token.end ≡ token.start + length word → Reaches at text (tokens ++ token ∷ []) rest
reaches_more at text [] token word behind gap rest r is is_gap e start end =
    let place : token.start ≡ at + length r.0 = omega (arith, start, ap (λ (x : List ℕ). length x) r.2, length-append r.0 (word ++ behind)) in
    (r.0, word, behind, r.1, is, r.2, place, end, (gap, is_gap, e))
reaches_more at text (first ∷ tokens) token word behind gap rest r is is_gap e start end =
    let place : token.start + length (word ++ behind) ≡ first.end + length r.2 = omega (arith, start, ap (λ (x : List ℕ). length x) r.5, length-append r.0 (r.1 ++ r.2), length-append r.1 r.2, r.6, r.7) in
    (r.0, r.1, r.2, r.3, r.4, r.5, r.6, r.7, reaches_more first.end r.2 tokens token word behind gap rest r.8 is is_gap e place end)

-- a token from its fields
abbrev pub made_of : Kind → ℕ → ℕ → Token
made_of kind start end = record { kind = kind; start = start; end = end }

pub reached_first : (text rest : List ℕ) → (gap : List ℕ) × IsGap gap rest × (text ≡ gap ++ rest) → IsReached text [] rest
reached_first text rest first = record { reached = first }

pub reached_within : (text : List ℕ) (tokens : List Token) (rest : List ℕ) → IsReached text tokens rest → length rest ≤ length text
reached_within text tokens rest r = reaches_within 0 text tokens rest r.reached

-- a token that is found, and the gap after it
pub reached_more : (text : List ℕ) (tokens : List Token) (rest next : List ℕ) (kind : Kind) (len : ℕ) → IsReached text tokens rest → Finds Is rest (Some (kind, len)) → (gap : List ℕ) × IsGap gap next × (drop len rest ≡ gap ++ next) → IsReached text (tokens ++ made_of kind (length text - length rest) (length text - length rest + len) ∷ []) next
reached_more text tokens rest next kind len r found gap =
    let start = length text - length rest in
    let within = reaches_within 0 text tokens rest r.reached in
    let behind : drop len rest ≡ found.1 = ap (λ (w : List ℕ). drop len w) found.3 ∙ drop_at found.0 found.1 len found.4 in
    let reached : Reaches 0 text tokens (found.0 ++ found.1) = subst (λ (w : List ℕ). Reaches 0 text tokens w) found.3 r.reached in
    let place : start + length (found.0 ++ found.1) ≡ 0 + length text = omega (arith, within, ap (λ (w : List ℕ). length w) found.3) in
    record { reached = reaches_more 0 text tokens (made_of kind start (start + len)) found.0 found.1 gap.0 next reached found.2 gap.1 (sym behind ∙ gap.2) place (omega (arith, found.4)) }

-- a place where nothing is found
pub reached_fault : (text : List ℕ) (tokens : List Token) (rest : List ℕ) → IsReached text tokens rest → 0 < length rest → Finds Is rest None → IsLexFault text (length text - length rest)
reached_fault text tokens rest r some none =
    record { tokens = tokens; rest = rest; before = r.reached; place = omega (arith, reaches_within 0 text tokens rest r.reached); byte = some; none = none }

-- at the end
pub reached_all : (text : List ℕ) (tokens : List Token) (rest : List ℕ) → IsReached text tokens rest → length rest ≡ 0 → IsTokens text tokens
reached_all text tokens [] r none = r.reached
reached_all text tokens (byte ∷ rest) r none = absurd (omega arith)

-- no token is longer than the text
pub found_within : (rest : List ℕ) (kind : Kind) (len : ℕ) → Finds Is rest (Some (kind, len)) → (len ≤ length rest) × (0 < len)
found_within rest kind len found =
    (omega (arith, found.4, ap (λ (w : List ℕ). length w) found.3, length-append found.0 found.1), omega (arith, found.4, token_some kind found.0 found.1 found.2))

-- no token begins here
abbrev IsStuck : List ℕ → Type 0
IsStuck rest = (kind : Kind) → NoneAt (Is kind) rest

-- no token begins at the end
stuck_at_end : IsStuck []
stuck_at_end kind [] rest e is = is
stuck_at_end kind (byte ∷ word) rest e is = cc e

-- two tokens are one where their fields are
same_token : (k l : Kind) (a b c d : ℕ) → k ≡ l → a ≡ b → c ≡ d → made_of k a c ≡ made_of l b d
same_token k l a b c d kinds starts ends = ap (λ (x : Kind). made_of x a c) kinds ∙ (ap (λ (n : ℕ). made_of l n c) starts ∙ ap (λ (n : ℕ). made_of l b n) ends)

-- there is one list of tokens up to where none begins
stuck_once : (at : ℕ) (text : List ℕ) (ts us : List Token) (x y : List ℕ) → Reaches at text ts x → Reaches at text us y → IsStuck x → IsStuck y → (ts ≡ us) × (x ≡ y)
stuck_once at text [] [] x y r s stuck_x stuck_y =
    let whole : r.0 ++ x ≡ s.0 ++ y = sym r.2 ∙ s.2 in
    (refl, same_tail r.0 s.0 x y (one_gap r.0 s.0 x y r.1 s.1 whole) whole)
stuck_once at text [] (u ∷ us) x y r s stuck_x stuck_y =
    let whole : r.0 ++ x ≡ s.0 ++ (s.1 ++ s.2) = sym r.2 ∙ s.5 in
    let rest = same_tail r.0 s.0 x (s.1 ++ s.2) (one_gap r.0 s.0 x (s.1 ++ s.2) r.1 s.3 whole) whole in
    absurd (stuck_x u.kind s.1 s.2 rest s.4)
stuck_once at text (t ∷ ts) [] x y r s stuck_x stuck_y =
    let whole : s.0 ++ y ≡ r.0 ++ (r.1 ++ r.2) = sym s.2 ∙ r.5 in
    let rest = same_tail s.0 r.0 y (r.1 ++ r.2) (one_gap s.0 r.0 y (r.1 ++ r.2) s.1 r.3 whole) whole in
    absurd (stuck_y t.kind r.1 r.2 rest r.4)
stuck_once at text (t ∷ ts) (u ∷ us) x y r s stuck_x stuck_y =
    let whole : r.0 ++ (r.1 ++ r.2) ≡ s.0 ++ (s.1 ++ s.2) = sym r.5 ∙ s.5 in
    let gaps = one_gap r.0 s.0 (r.1 ++ r.2) (s.1 ++ s.2) r.3 s.3 whole in
    let front = same_tail r.0 s.0 (r.1 ++ r.2) (s.1 ++ s.2) gaps whole in
    let token = one_token t.kind u.kind r.1 s.1 r.2 s.2 r.4 s.4 front in
    let behind = same_tail r.1 s.1 r.2 s.2 token.0 front in
    let starts : t.start ≡ u.start = r.6 ∙ (ap (λ (g : List ℕ). at + length g) gaps ∙ sym s.6) in
    let ends : t.end ≡ u.end = omega (arith, r.7, s.7, starts, ap (λ (w : List ℕ). length w) token.0) in
    let moved : Reaches u.end s.2 ts x = subst (λ (n : ℕ). Reaches n s.2 ts x) ends (subst (λ (b : List ℕ). Reaches t.end b ts x) behind r.8) in
    let rest = stuck_once u.end s.2 ts us x y moved s.8 stuck_x stuck_y in
    let same : t ≡ u = same_token t.kind u.kind t.start u.start t.end u.end token.1 starts ends in
    (cc (same, rest.0), rest.1)

pub one_list_of_tokens : OneCut
one_list_of_tokens text one other p q = (stuck_once 0 text one other [] [] p q stuck_at_end stuck_at_end).0

pub no_list_of_tokens : NoCut
no_list_of_tokens text at fault = (
  λ tokens is. let both = stuck_once 0 text tokens fault.tokens [] fault.rest is fault.before stuck_at_end fault.none in omega (arith, ap (λ (w : List ℕ). length w) both.1, fault.byte),
  λ other next. let both = stuck_once 0 text fault.tokens next.tokens fault.rest next.rest fault.before next.before fault.none next.none in omega (arith, ap (λ (w : List ℕ). length w) both.1, fault.place, next.place),
)

-- what the test of an empty list tells
pub some_from_test : (count : ℕ) → false ≡ (count == 0) → 0 < count
some_from_test count is = grind (arith, nat_tests)
