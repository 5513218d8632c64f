-- What the bytes of a prefix are after more bytes and more lexemes.
use Rattle.std.proofs.Common.{◌≡◌, ℕ, ◌+◌, ◌<◌, length, take, get_or, Bool, true, false, not, ◌||◌, ◌&&◌, if◌then◌else◌, List, [], ◌∷◌, ◌++◌, ◌==◌, refl, sym, ap, ◌∙◌, append_assoc, append-nil}
use Rattle.std.proofs.lemmas.List.{take_more}
use Rattle.paql_lexer.specs.declared.vocabulary.Kind.{Kind}
use Rattle.paql_lexer.specs.declared.vocabulary.Kind.TheVariants as kinds
use Rattle.paql_lexer.specs.Lexical.{doubled}
use Rattle.paql_grammar.specs.Lexemes.{Lexeme, is}
use Rattle.paql_printer.specs.Spacing.{calls, ends_term, touches, spaced_behind, spaced}
use Rattle.paql_printer.specs.Fronts.{Front, start, of_kind, begun, more, put, written}

-- ---- bytes

pub more_nil : (front : Front) → more front [] ≡ front
unfolding more
more_nil front = ap (λ (bytes : List ℕ). record front { bytes = bytes }) (append-nil front.bytes)

pub more_more : (front : Front) (bytes behind : List ℕ) → more (more front bytes) behind ≡ more front (bytes ++ behind)
unfolding more
more_more front bytes behind = ap (λ (all : List ℕ). record front { bytes = all }) (append_assoc front.bytes bytes behind)

-- bytes between two quotes
pub more_quoted : (front : Front) (quote : ℕ) (content : List ℕ) → more (more (more front (quote ∷ [])) content) (quote ∷ []) ≡ more front (quote ∷ (content ++ quote ∷ []))
more_quoted front quote content =
    more_more (more front (quote ∷ [])) content (quote ∷ []) ∙ more_more front (quote ∷ []) (content ++ quote ∷ [])

pub put_is : (front : Front) (next : Lexeme) → put front next ≡ more (begun front next.kind) next.bytes
unfolding put
put_is front next = refl

-- one byte more of a text
after_quote : (quote : Bool) (bytes : List ℕ) → (if quote then 39 ∷ [] else []) ++ bytes ≡ (if quote then 39 ∷ bytes else bytes)
after_quote true bytes = refl
after_quote false bytes = refl

doubled_cons : (byte : ℕ) (behind : List ℕ) → doubled (byte ∷ []) ++ doubled behind ≡ doubled (byte ∷ behind)
doubled_cons byte behind = ap (λ (bytes : List ℕ). byte ∷ bytes) (after_quote (byte == 39) (doubled behind))

doubled_append : (bytes behind : List ℕ) → doubled (bytes ++ behind) ≡ doubled bytes ++ doubled behind
doubled_append [] behind = refl
doubled_append (byte ∷ bytes) behind =
    sym (doubled_cons byte (bytes ++ behind)) ∙ (ap (λ (all : List ℕ). doubled (byte ∷ []) ++ all) (doubled_append bytes behind)
    ∙ (sym (append_assoc (doubled (byte ∷ [])) (doubled bytes) (doubled behind)) ∙ ap (λ (all : List ℕ). all ++ doubled behind) (doubled_cons byte bytes)))

pub doubled_more : (front : Front) (bytes : List ℕ) (at : ℕ) → at < length bytes → more (more front (doubled (take at bytes))) (doubled (get_or bytes at 0 ∷ [])) ≡ more front (doubled (take (at + 1) bytes))
doubled_more front bytes at within =
    more_more front (doubled (take at bytes)) (doubled (get_or bytes at 0 ∷ []))
    ∙ ap (λ (all : List ℕ). more front all) (sym (doubled_append (take at bytes) (get_or bytes at 0 ∷ [])) ∙ ap doubled (sym (take_more bytes at 0 within)))

-- ---- lexemes

-- only the kinds of the last two lexemes matter
spaced_kinds : (before last : Lexeme) (lexemes : List Lexeme) → spaced_behind (of_kind before.kind) (of_kind last.kind) lexemes ≡ spaced_behind before last lexemes
spaced_kinds before last [] = refl
spaced_kinds before last (next ∷ later) =
    ap (λ (bytes : List ℕ). (if touches before last next then next.bytes else 32 ∷ next.bytes) ++ bytes) (sym (spaced_kinds (of_kind last.kind) next later) ∙ spaced_kinds last next later)

with_space : (touching : Bool) (front bytes later : List ℕ) → ((if touching then front else front ++ 32 ∷ []) ++ bytes) ++ later ≡ front ++ ((if touching then bytes else 32 ∷ bytes) ++ later)
with_space true front bytes later = append_assoc front bytes later
with_space false front bytes later = append_assoc (front ++ 32 ∷ []) bytes later ∙ append_assoc front (32 ∷ []) (bytes ++ later)

-- the bytes after more lexemes
pub written_bytes : (front : Front) (lexemes : List Lexeme) → (written front lexemes).bytes ≡ front.bytes ++ spaced_behind (of_kind front.before) (of_kind front.last) lexemes
unfolding put begun more
written_bytes front [] = sym (append-nil front.bytes)
written_bytes front (next ∷ later) =
    let touching = touches (of_kind front.before) (of_kind front.last) next in
    written_bytes (put front next) later
    ∙ (ap (λ (bytes : List ℕ). ((if touching then front.bytes else front.bytes ++ 32 ∷ []) ++ next.bytes) ++ bytes) (spaced_kinds (of_kind front.last) next later)
    ∙ with_space touching front.bytes next.bytes (spaced_behind (of_kind front.last) next later))

-- a minus that comes first is a sign
first_minus : (kind : Kind) → (is kinds.Minus (of_kind kind) && not (ends_term (of_kind kind))) ≡ (is kinds.Minus (of_kind kind) && true)
first_minus kinds.Minus = refl
first_minus _ = refl

first_touches : (first next : Lexeme) → touches (of_kind kinds.LeftParen) first next ≡ touches first first next
first_touches first next =
    ap (λ (sign : Bool). is kinds.Dot first || (is kinds.Dot next || (is kinds.LeftParen first || (is kinds.RightParen next || (is kinds.Comma next || ((is kinds.LeftParen next && calls first) || sign)))))) (sym (first_minus first.kind))

behind_first : (first : Lexeme) (later : List Lexeme) → spaced_behind (of_kind kinds.LeftParen) first later ≡ spaced_behind first first later
behind_first first [] = refl
behind_first first (next ∷ later) =
    ap (λ (touching : Bool). (if touching then next.bytes else 32 ∷ next.bytes) ++ spaced_behind first next later) (first_touches first next)

or_true : (one : Bool) → (one || true) ≡ true
or_true true = refl
or_true false = refl

-- what is written from the start on
pub start_bytes : (lexemes : List Lexeme) → (written start lexemes).bytes ≡ spaced lexemes
start_bytes [] = refl
start_bytes (first ∷ later) =
    written_bytes start (first ∷ later)
    ∙ (ap (λ (touching : Bool). (if touching then first.bytes else 32 ∷ first.bytes) ++ spaced_behind (of_kind kinds.LeftParen) first later) (or_true (is kinds.Dot first))
    ∙ ap (λ (bytes : List ℕ). first.bytes ++ bytes) (behind_first first later))

-- a lexeme that is written in three pieces
pub quoted_is : (front begins opens within closes : Front) (next : Lexeme) (quote : ℕ) (content : List ℕ) → next.bytes ≡ quote ∷ (content ++ quote ∷ []) → begins ≡ begun front next.kind → opens ≡ more begins (quote ∷ []) → within ≡ more opens content → closes ≡ more within (quote ∷ []) → closes ≡ put front next
quoted_is front begins opens within closes next quote content spelled begin open_quote inside close_quote =
    close_quote ∙ (ap (λ (now : Front). more now (quote ∷ [])) (inside ∙ ap (λ (now : Front). more now content) (open_quote ∙ ap (λ (now : Front). more now (quote ∷ [])) begin))
    ∙ (more_quoted (begun front next.kind) quote content ∙ (ap (λ (bytes : List ℕ). more (begun front next.kind) bytes) (sym spelled) ∙ sym (put_is front next))))
