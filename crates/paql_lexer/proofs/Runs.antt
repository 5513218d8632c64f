-- Lemmas on runs of bytes.
use Rattle.std.proofs.Common.{◌≡◌, ℕ, ◌+◌, ◌-◌, ◌<◌, ◌≤◌, Bool, false, List, [], ◌∷◌, ◌++◌, length, get_or, take, drop, IsTrue, refl, sym, ap, ◌∙◌, subst, arith}
use Rattle.std.proofs.lemmas.Bool.{false≢true}
use Rattle.std.proofs.lemmas.List.{append_cancel_left, take_more, take_all}
use Rattle.paql_lexer.specs.Lexical.{AllIn, EndsRun}

-- two lists that begin alike go on alike
pub same_tail : (a b x y : List ℕ) → a ≡ b → a ++ x ≡ b ++ y → x ≡ y
same_tail a b x y same e = append_cancel_left b x y (ap (λ (s : List ℕ). s ++ x) (sym same) ∙ e)

-- what passes a test isn't what ends its run
pub ends_not_passes : (test : ℕ → Bool) (byte : ℕ) (bytes rest : List ℕ) → EndsRun test rest → IsTrue (test byte) → rest ≡ byte ∷ bytes → ⊥
ends_not_passes test byte bytes rest ends passes e =
    let fails : test byte ≡ false = subst (λ (s : List ℕ). EndsRun test s) e ends in
    false≢true (sym fails ∙ passes)

-- there is one run at the start of a text
pub run_once : (test : ℕ → Bool) (a b x y : List ℕ) → AllIn test a → AllIn test b → EndsRun test x → EndsRun test y → a ++ x ≡ b ++ y → a ≡ b
run_once test [] [] x y p q no_x no_y e = refl
run_once test [] (d ∷ b) x y p q no_x no_y e = absurd (ends_not_passes test d (b ++ y) x no_x q.0 e)
run_once test (c ∷ a) [] x y p q no_x no_y e = absurd (ends_not_passes test c (a ++ x) y no_y p.0 (sym e))
run_once test (c ∷ a) (d ∷ b) x y p q no_x no_y e =
    let heads : c ≡ d = cc in
    let tails : a ++ x ≡ b ++ y = cc in
    let rest = run_once test a b x y p.1 q.1 no_x no_y tails in
    cc (heads, rest)

-- a run with one byte more
pub AllIn-push : (test : ℕ → Bool) (bytes : List ℕ) (byte : ℕ) → AllIn test bytes → IsTrue (test byte) → AllIn test (bytes ++ byte ∷ [])
AllIn-push test [] byte all passes = (passes, tt)
AllIn-push test (first ∷ bytes) byte all passes = (all.0, AllIn-push test bytes byte all.1 passes)

pub AllIn-more : (test : ℕ → Bool) (bytes : List ℕ) (at : ℕ) → at < length bytes → AllIn test (take at bytes) → IsTrue (test (get_or bytes at 0)) → AllIn test (take (at + 1) bytes)
AllIn-more test bytes at within all passes =
    subst (λ (s : List ℕ). AllIn test s) (sym (take_more bytes at 0 within)) (AllIn-push test (take at bytes) (get_or bytes at 0) all passes)

-- a text by its first byte, and by its first two, as a slice pattern sees it
pub by_first : (text : List ℕ) → 1 ≤ length text → text ≡ get_or text 0 0 ∷ take (length text - 1) (drop 1 text)
by_first [] some = absurd (omega arith)
by_first (a ∷ rest) some = ap (λ (w : List ℕ). a ∷ w) (sym (take_all (length (a ∷ rest) - 1) rest (omega arith)))

pub by_first_two : (text : List ℕ) → 2 ≤ length text → text ≡ get_or text 0 0 ∷ (get_or text 1 0 ∷ take (length text - 2) (drop 2 text))
by_first_two [] some = absurd (omega arith)
by_first_two (a ∷ []) some = absurd (omega arith)
by_first_two (a ∷ (b ∷ rest)) some = ap (λ (w : List ℕ). a ∷ (b ∷ w)) (sym (take_all (length (a ∷ (b ∷ rest)) - 2) rest (omega arith)))
