use Rattle.std.proofs.Common.{◌≡◌, ◌-◌, ◌≤◌, ℕ, length, take, drop, get_or, List, ◌∷◌, ◌++◌, [], inl, inr, refl, arith, sym}
use Rattle.paql_lexer.proofs.Runs.{by_first, by_first_two}
use Rattle.paql_lexer.proofs.gaps.skip_piece.Goals as goal

pub returns-in-len1-up : goal.returns-in-len1-up
returns-in-len1-up c =
    let byte = get_or c.args.text.now 0 0 in
    (byte ∷ [], inl (byte, sym c.if-is_space.ensures, refl), by_first c.args.text.now (omega arith))

minuses : (text behind : List ℕ) → 2 ≤ length text → get_or text 0 0 ≡ 45 → get_or text 1 0 ≡ 45 → take (length text - 2) (drop 2 text) ≡ behind → text ≡ 45 ∷ (45 ∷ behind)
minuses text behind some first second e =
    let whole = by_first_two text some in
    cc (whole, first, second, e)

pub returns-in-45 : goal.returns-in-45
returns-in-45 c =
    let line = c.split_run.result.0.now in
    let rest = c.split_run.result.1.now in
    (45 ∷ (45 ∷ line), inr (line, c.split_run.ensures.all, refl, c.split_run.ensures.ends), minuses c.args.text.now (line ++ rest) (omega arith) (omega arith) (omega arith) c.split_run.ensures.whole)
