-- The lexemes that a text is cut into are tokens.
use Rattle.std.proofs.Common.{◌≡◌, ℕ, ◌+◌, ◌-◌, List, [], ◌∷◌, ◌++◌, length, take, drop, sym, ap, subst, ◌∙◌, refl, arith, append_assoc, length-append}
use Rattle.std.proofs.lemmas.List.{take_at, drop_at}
use Rattle.paql_lexer.specs.Lexical.{Is}
use Rattle.paql_lexer.specs.Tokens.{Reaches, IsTokens}
use Rattle.paql_lexer.specs.declared.lexer.Token.{Token}
use Rattle.paql_grammar.specs.Lexemes.{lexeme, lexemes}
use Rattle.paql_printer.proofs.Separable.{AreTokens}

-- the word after a prefix is taken out by its places
pub word_at : (front word more : List ℕ) (start end : ℕ) → length front ≡ start → end ≡ start + length word → take (end - start) (drop start (front ++ (word ++ more))) ≡ word
word_at front word more start end place past =
    let len : length word ≡ end - start = omega arith in
    ap (λ (w : List ℕ). take (end - start) w) (drop_at front (word ++ more) start place) ∙ take_at word more (end - start) len

-- the lexemes of a text after some prefix are tokens
tokens_behind : (tokens : List Token) (at : ℕ) (front text rest : List ℕ) → length front ≡ at → Reaches at text tokens rest → AreTokens (lexemes (front ++ text) tokens)
tokens_behind [] at front text rest place reaches = tt
tokens_behind (token ∷ tokens) at front text rest place (gap, word, more, is_gap, is, whole, start, past, later) =
    let gap_behind : front ++ text ≡ (front ++ gap) ++ (word ++ more) = ap (λ (w : List ℕ). front ++ w) whole ∙ sym (append_assoc front gap (word ++ more)) in
    let token_behind : front ++ text ≡ ((front ++ gap) ++ word) ++ more = gap_behind ∙ sym (append_assoc (front ++ gap) word more) in
    let start_is : length (front ++ gap) ≡ token.start = omega (arith, length-append front gap) in
    let end_is : length ((front ++ gap) ++ word) ≡ token.end = omega (arith, length-append (front ++ gap) word) in
    let bytes : (lexeme (front ++ text) token).bytes ≡ word = ap (λ (w : List ℕ). take (token.end - token.start) (drop token.start w)) gap_behind ∙ word_at (front ++ gap) word more token.start token.end start_is past in
    let rest_is = tokens_behind tokens token.end ((front ++ gap) ++ word) more rest end_is later in
    ((more, subst (λ (w : List ℕ). Is token.kind w more) (sym bytes) is), subst (λ (w : List ℕ). AreTokens (lexemes w tokens)) (sym token_behind) rest_is)

-- The lexemes of a text's tokens are tokens.
pub text_is_tokens : (text : List ℕ) (tokens : List Token) → IsTokens text tokens → AreTokens (lexemes text tokens)
text_is_tokens text tokens cut = tokens_behind tokens 0 [] text [] refl cut
