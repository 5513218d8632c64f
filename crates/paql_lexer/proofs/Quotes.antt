-- Lemmas on the content of texts.
use Rattle.std.proofs.Common.{◌≡◌, ℕ, ◌+◌, ◌<◌, ◌≤◌, Bool, true, false, cond, List, [], ◌∷◌, ◌++◌, length, get_or, drop, refl, sym, ap, ◌∙◌, subst, inl, inr, arith, append_assoc, length-append}
use Rattle.std.proofs.lemmas.List.{append_cancel_right, drop_more, drop_at, drop_all}
use Rattle.paql_lexer.specs.Lexical.{EndsRun, BeginsWith, Closes, ClosesBehind, GoesOn, doubled, is_quote}

-- what comes after a byte of content
abbrev behind : Bool → List ℕ → List ℕ
behind quote bytes = cond quote (39 ∷ bytes) bytes

-- a quote that closes isn't the first of two
no_quote_behind : (rest more : List ℕ) → EndsRun is_quote rest → rest ≡ 39 ∷ more → ⊥
no_quote_behind rest more ends e =
    let fails : is_quote 39 ≡ false = subst (λ (s : List ℕ). EndsRun is_quote s) e ends in
    cc fails

-- content doesn't begin where its closing quote is
closing_is_no_content : (byte : ℕ) (content x rest : List ℕ) → EndsRun is_quote rest → doubled (byte ∷ content) ++ x ≡ 39 ∷ rest → ⊥
closing_is_no_content byte content x rest ends e =
    let quote : byte ≡ 39 = cc in
    let more : behind (is_quote byte) (doubled content) ++ x ≡ rest = cc in
    let as_quote : 39 ∷ (doubled content ++ x) ≡ rest = subst (λ (n : ℕ). behind (is_quote n) (doubled content) ++ x ≡ rest) quote more in
    no_quote_behind rest (doubled content ++ x) ends (sym as_quote)

-- equal bytes leave equal rests
same_behind : (quote : Bool) (one other x y : List ℕ) → behind quote one ++ x ≡ behind quote other ++ y → one ++ x ≡ other ++ y
same_behind true one other x y e = cc
same_behind false one other x y e = e

-- the content up to the closing quote goes on with each prefix of it
pub content_goes_on : (front content x rest : List ℕ) → EndsRun is_quote rest → doubled front ++ x ≡ doubled content ++ 39 ∷ rest → (more : List ℕ) × (x ≡ doubled more ++ 39 ∷ rest)
content_goes_on [] content x rest ends e = (content, e)
content_goes_on (byte ∷ front) [] x rest ends e = absurd (closing_is_no_content byte front x rest ends e)
content_goes_on (byte ∷ front) (other ∷ content) x rest ends e =
    let same : byte ≡ other = cc in
    let tails : behind (is_quote byte) (doubled front) ++ x ≡ behind (is_quote other) (doubled content) ++ 39 ∷ rest = cc in
    let alike : behind (is_quote other) (doubled front) ++ x ≡ behind (is_quote other) (doubled content) ++ 39 ∷ rest = subst (λ (n : ℕ). behind (is_quote n) (doubled front) ++ x ≡ behind (is_quote other) (doubled content) ++ 39 ∷ rest) same tails in
    content_goes_on front content x rest ends (same_behind (is_quote other) (doubled front) (doubled content) x (39 ∷ rest) alike)

-- there is one closing quote
pub one_content : (a b x y : List ℕ) → EndsRun is_quote x → EndsRun is_quote y → doubled a ++ 39 ∷ x ≡ doubled b ++ 39 ∷ y → doubled a ≡ doubled b
one_content a b x y ends_x ends_y e =
    let on = content_goes_on a b (39 ∷ x) y ends_y e in
    closed on.0 on.1
  where
    closed : (more : List ℕ) → 39 ∷ x ≡ doubled more ++ 39 ∷ y → doubled a ≡ doubled b
    closed [] f = let same : x ≡ y = cc in append_cancel_right (doubled a) (doubled b) (39 ∷ x) (e ∙ ap (λ (w : List ℕ). doubled b ++ 39 ∷ w) (sym same))
    closed (byte ∷ more) f = absurd (closing_is_no_content byte more (39 ∷ y) x ends_x (sym f))

-- a prefix of two parts after a byte
behind-append : (quote : Bool) (whole one other : List ℕ) → whole ≡ one ++ other → behind quote whole ≡ behind quote one ++ other
behind-append true whole one other e = ap (λ (w : List ℕ). 39 ∷ w) e
behind-append false whole one other e = e

-- doubled content of two parts
pub doubled-append : (a b : List ℕ) → doubled (a ++ b) ≡ doubled a ++ doubled b
doubled-append [] b = refl
doubled-append (byte ∷ a) b =
    ap (λ (w : List ℕ). byte ∷ w) (behind-append (is_quote byte) (doubled (a ++ b)) (doubled a) (doubled b) (doubled-append a b))

-- so many bytes of the body are content
abbrev pub IsContentBefore : List ℕ → ℕ → Type 0
IsContentBefore body at = (content rest : List ℕ) × (body ≡ doubled content ++ rest) × (length (doubled content) ≡ at)

pub content_none : (body : List ℕ) → IsContentBefore body 0
content_none body = ([], body, refl, refl)

-- the rest of the body
rest_is : (body : List ℕ) (at : ℕ) (before : IsContentBefore body at) → drop at body ≡ before.1
rest_is body at before = ap (λ (w : List ℕ). drop at w) before.2 ∙ drop_at (doubled before.0) before.1 at before.3

-- one character more
content_push : (body : List ℕ) (at byte len : ℕ) (rest : List ℕ) → IsContentBefore body at → drop at body ≡ doubled (byte ∷ []) ++ rest → length (doubled (byte ∷ [])) ≡ len → IsContentBefore body (at + len)
content_push body at byte len rest before e l =
    let more : List ℕ = byte ∷ [] in
    let whole : body ≡ (doubled before.0 ++ doubled more) ++ rest = before.2 ∙ (ap (λ (w : List ℕ). doubled before.0 ++ w) (sym (rest_is body at before) ∙ e) ∙ sym (append_assoc (doubled before.0) (doubled more) rest)) in
    (before.0 ++ more, rest, whole ∙ ap (λ (w : List ℕ). w ++ rest) (sym (doubled-append before.0 more)), omega (arith, ap (λ (w : List ℕ). length w) (doubled-append before.0 more), length-append (doubled before.0) (doubled more), before.3, l))

-- a byte that begins a text
pub begins_is : (byte : ℕ) (text : List ℕ) → BeginsWith byte text → (rest : List ℕ) × (text ≡ byte ∷ rest)
begins_is byte [] h = absurd h
begins_is byte (first ∷ rest) h = (rest, ap (λ (n : ℕ). n ∷ rest) h)

pub content_more : (body : List ℕ) (at len : ℕ) → IsContentBefore body at → at < length body → GoesOn (get_or body at 0) (drop (at + 1) body) len → IsContentBefore body (at + len)
content_more body at len before within (inl one) =
    let byte = get_or body at 0 in
    let alone : doubled (byte ∷ []) ≡ byte ∷ [] = ap (λ (b : Bool). byte ∷ behind b []) one.0 in
    content_push body at byte len (drop (at + 1) body) before (drop_more body at 0 within ∙ ap (λ (w : List ℕ). w ++ drop (at + 1) body) (sym alone)) (ap (λ (w : List ℕ). length w) alone ∙ sym one.1)
content_more body at len before within (inr two) =
    let twin = begins_is 39 (drop (at + 1) body) two.1 in
    content_push body at 39 len twin.0 before (drop_more body at 0 within ∙ (ap (λ (n : ℕ). n ∷ drop (at + 1) body) two.0 ∙ ap (λ (w : List ℕ). 39 ∷ w) twin.1)) (sym two.2)

-- a quote that closes, after the content
pub content_closes : (body : List ℕ) (at : ℕ) → IsContentBefore body at → at < length body → Closes (get_or body at 0) (drop (at + 1) body) → (content : List ℕ) × ClosesBehind body content × (length (doubled content) ≡ at)
content_closes body at before within closes =
    let front : before.1 ≡ 39 ∷ drop (at + 1) body = sym (rest_is body at before) ∙ (drop_more body at 0 within ∙ ap (λ (n : ℕ). n ∷ drop (at + 1) body) closes.0) in
    (before.0, (drop (at + 1) body, before.2 ∙ ap (λ (w : List ℕ). doubled before.0 ++ w) front, closes.1), before.3)

-- a body that is all content has no closing quote
pub content_unclosed : (body : List ℕ) (at : ℕ) → IsContentBefore body at → length body ≤ at → (content : List ℕ) → ClosesBehind body content → ⊥
content_unclosed body at before end content closed =
    let on = content_goes_on before.0 content before.1 closed.0 closed.2 (sym before.2 ∙ closed.1) in
    let none : length (drop at body) ≡ 0 = ap (λ (w : List ℕ). length w) (drop_all at body end) in
    omega (arith, none, ap (λ (w : List ℕ). length w) (rest_is body at before ∙ on.1), length-append (doubled on.0) (39 ∷ closed.0))
