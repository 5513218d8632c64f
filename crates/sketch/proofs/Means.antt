-- Means, and how large they are.
use Rattle.std.proofs.Common.{◌≡◌, ℕ, suc, ◌+◌, ◌-◌, ◌*◌, ◌/◌, ◌^◌, ◌<◌, ◌≤◌, List, length, refl, ap, ◌∙◌, arith, add-one, mul-le-mul_left}
use Rattle.std.specs.Prelude.{ℤ, pos, negsuc, neg_ℤ, ◌+ℤ◌, int_div, unsigned_abs}
use Rattle.std.proofs.lemmas.Int.{ints, to_z-of_z, to_z_pos}
use Rattle.std.proofs.Math.Nat.{div-le_of_le-mul, div-mul-le_self}
use mir.Syntax.{w64, w128}
use mir.Val.{SFits, to_z, of_z}
use Rattle.lin_bound.specs.Sums.{sum_below, count_below, int_at, nat_at}
use Rattle.lin_bound.proofs.Sums.{count-ext, count-scale}
use Rattle.lin_bound.proofs.Sizes.{abs-sum_below, stored}
use Rattle.sketch.specs.Parts.{part_sum, mean, upper_sum, IsSumOf64}
use Rattle.sketch.proofs.Totals.{count-same}

-- a quotient times its divisor is no larger than what was divided
pub quotient_size : (a : ℤ) (k : ℕ) → unsigned_abs (int_div a (pos k)) * k ≤ unsigned_abs a
quotient_size (pos a) k = div-mul-le_self a k
quotient_size (negsuc a) k =
    let size : unsigned_abs (neg_ℤ (pos (suc a / k))) ≡ suc a / k = omega (arith, ints) in
    omega (arith, ap (λ (q : ℕ). q * k) size, div-mul-le_self (suc a) k)

-- what a part comes to in the sketch is no more than what its members do, each at the same upper
pub part_load : (uppers part : List ℕ) (numbers : List ℤ) (u : ℕ) → ((k : ℕ) → k < length part → nat_at uppers (nat_at part k) ≡ u)
    → upper_sum uppers part * unsigned_abs (mean numbers part) ≤ count_below (λ (k : ℕ). nat_at uppers (nat_at part k) * unsigned_abs (int_at numbers (nat_at part k))) (length part)
part_load uppers part numbers u same =
    let m = length part in
    let size = λ (k : ℕ). unsigned_abs (int_at numbers (nat_at part k)) in
    let upper : upper_sum uppers part ≡ m * u = count-same (λ (k : ℕ). nat_at uppers (nat_at part k)) u m same in
    let each : count_below (λ (k : ℕ). nat_at uppers (nat_at part k) * size k) m ≡ count_below (λ (k : ℕ). u * size k) m = count-ext (λ (k : ℕ). nat_at uppers (nat_at part k) * size k) (λ (k : ℕ). u * size k) m (λ k h. ap (λ (v : ℕ). v * size k) (same k h)) in
    let scaled = count-scale u size m in
    let sum : unsigned_abs (part_sum numbers part) ≤ count_below size m = abs-sum_below (λ (k : ℕ). int_at numbers (nat_at part k)) size m (λ k h. omega arith) in
    let quotient = quotient_size (part_sum numbers part) m in
    let q = unsigned_abs (mean numbers part) in
    let inner : q * m ≤ count_below size m = omega (arith, sum, quotient) in
    omega (arith, ap (λ (v : ℕ). v * q) upper, each, scaled, mul-le-mul_left u inner)

-- ---- sums of the machine's numbers

-- one number more
pub sum_more : (f : ℕ → ℤ) (i : ℕ) (sum x : ℤ) → sum ≡ sum_below f i → x ≡ f i → sum +ℤ x ≡ sum_below f (i + 1)
sum_more f i sum x sum_is x_is = rw add-one (omega (arith, ints, sum_is, x_is))

pub range_more : (i : ℕ) (sum x : ℤ) → IsSumOf64 i sum → SFits w64 x → IsSumOf64 (i + 1) (sum +ℤ x)
range_more i sum x range fits = record {
  low = omega (arith, ints, range.low);
  high = omega (arith, ints, range.high);
}

-- a sum of fewer numbers than there can be variables fits
pub range_fits : (i : ℕ) (sum : ℤ) → IsSumOf64 i sum → i ≤ 2 ^ 32 → SFits w128 sum
range_fits i sum range few = omega (arith, ints, range.low, range.high)

-- and their mean fits 64 bits
pub mean_fits : (a : ℤ) (k : ℕ) → IsSumOf64 k a → SFits w64 (int_div a (pos k))
mean_fits (pos a) k range =
    let most : a / k ≤ 2 ^ 63 - 1 = div-le_of_le-mul k (omega (arith, ints, range.high)) in omega (arith, ints, most)
mean_fits (negsuc a) k range =
    let most : suc a / k ≤ 2 ^ 63 = div-le_of_le-mul k (omega (arith, ints, range.low)) in omega (arith, ints, most)

-- one number more, as the machine adds it
pub stored_more : (f : ℕ → ℤ) (i : ℕ) (sum x : ℤ) → sum ≡ sum_below f i → IsSumOf64 i sum → x ≡ f i → SFits w64 x → i < 2 ^ 32
    → (to_z w128 (of_z w128 (sum +ℤ to_z w128 (of_z w128 x))) ≡ sum_below f (i + 1)) × IsSumOf64 (i + 1) (to_z w128 (of_z w128 (sum +ℤ to_z w128 (of_z w128 x))))
stored_more f i sum x sum_is range x_is fits few =
    let wide : SFits w128 x = omega (arith, ints, fits) in
    let next = range_more i sum x range fits in
    let sum_fits : SFits w128 (sum +ℤ x) = range_fits (i + 1) (sum +ℤ x) next (omega (arith, few)) in
    let same = stored sum x (sum +ℤ x) wide sum_fits refl in
    (same ∙ sum_more f i sum x sum_is x_is, rw same next)

-- and the mean, as it divides
pub stored_mean : (s : ℤ) (n : ℕ) → IsSumOf64 n s → n < 2 ^ 32 → to_z w128 (of_z w128 (int_div (to_z w128 (of_z w128 s)) (to_z w128 n))) ≡ int_div s (pos n)
stored_mean s n range few =
    let s_fits = range_fits n s range (omega (arith, few)) in
    let narrow = mean_fits s n range in
    let wide : SFits w128 (int_div s (pos n)) = omega (arith, ints, narrow) in
    rw (to_z_pos w128 n (omega (arith, few)), to_z-of_z w128 s s_fits) (to_z-of_z w128 (int_div s (pos n)) wide)
