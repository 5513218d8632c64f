-- Lemmas on the content of a text.
use Rattle.std.proofs.Common.{◌≡◌, ℕ, ◌+◌, ◌<◌, true, false, ◌==◌, List, [], ◌∷◌, ◌++◌, length, drop, get_or, sym, ap, ◌∙◌, append_assoc}
use Rattle.std.proofs.lemmas.List.{drop_more}
use Rattle.paql_grammar.specs.Lexemes.{undoubled}

-- one byte more, where it is kept
pub kept : (content bytes : List ℕ) (at : ℕ) → at < length bytes → (content ++ get_or bytes at 0 ∷ []) ++ undoubled (get_or bytes at 0 == 39) (drop (at + 1) bytes) ≡ content ++ undoubled false (drop at bytes)
kept content bytes at within =
    append_assoc content (get_or bytes at 0 ∷ []) (undoubled (get_or bytes at 0 == 39) (drop (at + 1) bytes)) ∙ ap (λ rest. content ++ undoubled false rest) (sym (drop_more bytes at 0 within))

-- one byte more, where it is left out
pub left_out : (content bytes : List ℕ) (at : ℕ) → at < length bytes → content ++ undoubled false (drop (at + 1) bytes) ≡ content ++ undoubled true (drop at bytes)
left_out content bytes at within = ap (λ rest. content ++ undoubled true rest) (sym (drop_more bytes at 0 within))
