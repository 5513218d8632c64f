-- Sums of coefficients times counts fit the machine's numbers.
use Rattle.std.proofs.Common.{◌≡◌, ℕ, ◌+◌, ◌*◌, ◌^◌, ◌<◌, ◌≤◌, length, ap, ◌∙◌, arith, add-one, List}
use Rattle.std.specs.Prelude.{ℤ, pos, ◌+ℤ◌, ◌*ℤ◌, unsigned_abs, FitsSigned}
use Rattle.std.proofs.lemmas.Int.{ints, fits_signed_from_abs}
use mir.Syntax.{w64, w128}
use Rattle.lin_bound.specs.Sums.{int_at, nat_at}
use Rattle.lin_bound.specs.Problem.{ProblemData, variables, value_at, load}
use Rattle.lin_bound.proofs.Sums.{count-more}
use Rattle.lin_bound.proofs.Sizes.{value_small}

-- no prefix of the sum is larger than this
abbrev pub IsSmallBelow : List ℤ → List ℕ → ℕ → Type 0
IsSmallBelow coefficients x most = (n : ℕ) → n ≤ most → unsigned_abs (value_at coefficients x n) ≤ 2 ^ 60

-- the next prefix is the one before and one part more
pub value_more : (coefficients : List ℤ) (x : List ℕ) (i : ℕ) (total part : ℤ) → total ≡ value_at coefficients x i → part ≡ int_at coefficients i *ℤ pos (nat_at x i) → total +ℤ part ≡ value_at coefficients x (i + 1)
value_more coefficients x i total part total_is part_is = rw add-one (omega (arith, ints, total_is, part_is))

-- a prefix fits
pub value_fits : (coefficients : List ℤ) (x : List ℕ) (most n : ℕ) (total : ℤ) → IsSmallBelow coefficients x most → n ≤ most → total ≡ value_at coefficients x n → FitsSigned w64 total
value_fits coefficients x most n total small h total_is =
    let size : unsigned_abs total ≤ 2 ^ 60 = rw total_is (small n h) in fits_signed_from_abs w64 total (omega (arith, size))

pub value_fits_wide : (coefficients : List ℤ) (x : List ℕ) (most n : ℕ) (total : ℤ) → IsSmallBelow coefficients x most → n ≤ most → total ≡ value_at coefficients x n → FitsSigned w128 total
value_fits_wide coefficients x most n total small h total_is =
    let size : unsigned_abs total ≤ 2 ^ 60 = rw total_is (small n h) in fits_signed_from_abs w128 total (omega (arith, size))

-- no prefix of a light row is large at a point within the uppers
pub light_is_small : (p : ProblemData) (coefficients known : List ℤ) (x point : List ℕ) → coefficients ≡ known → x ≡ point → load p.upper known (variables p) ≤ 2 ^ 60 → length point ≡ variables p → ((i : ℕ) → i < variables p → nat_at point i ≤ nat_at p.upper i) → IsSmallBelow coefficients x (length x)
light_is_small p coefficients known x point coefficients_is x_is light each within n h =
    let count : length x ≡ variables p = ap length x_is ∙ each in
    let size : unsigned_abs (value_at known point n) ≤ load p.upper known n = value_small p.upper point known n (λ i below. within i (omega (arith, below, h, count))) in
    let more : load p.upper known n ≤ load p.upper known (variables p) = count-more (λ (i : ℕ). nat_at p.upper i * unsigned_abs (int_at known i)) n (variables p) (omega (arith, h, count)) in
    rw (coefficients_is, x_is) (omega (arith, size, more, light))
