-- The ranges of multipliers.
use Rattle.std.proofs.Common.{◌≡◌, ◌≢◌, ℕ, zero, suc, ◌+◌, ◌^◌, ◌<◌, List, [], ◌∷◌, length, drop, get_or, replicate, refl, ◌∙◌, ap, arith}
use Rattle.std.proofs.lemmas.List.{drop_more}
use Rattle.cert_text.specs.declared.numbers.Range.{Range}
use Rattle.cert_text.specs.Expected.{range, weight_range, AreGood, ranges, rows_in}
use Rattle.cert_text.specs.declared.kinds.Expect.{Expect}
use Rattle.cert_text.specs.declared.kinds.Kind.TheVariants.{Close, Split}

weight_at : (m place : ℕ) → get_or (weight_range ∷ replicate m weight_range) place weight_range ≡ weight_range
weight_at m zero = refl
weight_at zero (suc place) = refl
weight_at (suc m) (suc place) = weight_at m place

split_weight_at : (expect : Expect) (place : ℕ) → place ≢ 0 → place ≢ 1 → get_or (ranges expect Split) place weight_range ≡ weight_range
split_weight_at expect zero none one = absurd (none refl)
split_weight_at expect (suc zero) none one = absurd (one refl)
split_weight_at expect (suc (suc place)) none one = weight_at (rows_in expect) place

pub close_weights : (expect : Expect) (place : ℕ) → place < length (ranges expect Close) → drop place (ranges expect Close) ≡ weight_range ∷ drop (place + 1) (ranges expect Close)
close_weights expect place within =
    drop_more (ranges expect Close) place weight_range within
    ∙ ap (λ (one : Range). one ∷ drop (place + 1) (ranges expect Close)) (weight_at (rows_in expect) place)

pub split_weights : (expect : Expect) (place : ℕ) → place < length (ranges expect Split) → place ≢ 0 → place ≢ 1 → drop place (ranges expect Split) ≡ weight_range ∷ drop (place + 1) (ranges expect Split)
split_weights expect place within none one =
    drop_more (ranges expect Split) place weight_range within
    ∙ ap (λ (one : Range). one ∷ drop (place + 1) (ranges expect Split)) (split_weight_at expect place none one)

good_weights : (m : ℕ) → AreGood (replicate m weight_range)
good_weights zero = tt
good_weights (suc m) = (omega arith, omega arith, good_weights m)

pub close_good : (expect : Expect) → AreGood (ranges expect Close)
close_good expect = (omega arith, omega arith, good_weights (rows_in expect))

pub split_good : (expect : Expect) → AreGood (ranges expect Split)
split_good expect =
    let rest : AreGood (range 0 (10 ^ 12) ∷ (weight_range ∷ replicate (rows_in expect) weight_range)) = (omega arith, omega arith, (omega arith, omega arith, good_weights (rows_in expect))) in
    (omega arith, omega arith, rest)
