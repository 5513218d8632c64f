-- No sum of the bound is too large for the machine's numbers.
use Rattle.std.proofs.Common.{◌∙◌, ap, ◌≡◌, ℕ, zero, suc, ◌+◌, ◌*◌, ◌^◌, ◌<◌, ◌≤◌, arith, add-one, List, mul-le-mul, mul-le-mul_right}
use Rattle.std.specs.Prelude.{ℤ, pos, ◌+ℤ◌, ◌-ℤ◌, ◌*ℤ◌, unsigned_abs, FitsSigned}
use Rattle.std.specs.Int.{int_max}
use Rattle.std.proofs.lemmas.Int.{ints, clamps, unsigned_abs-mul, fits_signed_from_abs, to_z-of_z, to_z_pos}
use mir.Syntax.{w64, w128}
use mir.Val.{SFits, to_z, of_z}
use Rattle.lin_bound.specs.Sums.{sum_below, count_below, int_at, nat_at}
use Rattle.lin_bound.specs.Problem.{value_at, load, ProblemData, variables, row_count, coefficient_of, IsLegal}
use Rattle.lin_bound.specs.Box.{IsRegion}
use Rattle.lin_bound.specs.Bound.{IsMult, share_of, weight, greatest, part_of}
use Rattle.lin_bound.specs.Weights.{mass}
use Rattle.lin_bound.specs.declared.region.Region.{Region}
use Rattle.lin_bound.specs.declared.mult.Mult.{Mult}
use Rattle.lin_bound.proofs.Sums.{count-zero, count-more, count-most}

-- a sum is no larger than its parts together
pub abs-add : (a b : ℤ) → unsigned_abs (a +ℤ b) ≤ unsigned_abs a + unsigned_abs b
abs-add a b = omega (arith, ints)

-- nor is a difference
pub abs-sub : (a b : ℤ) → unsigned_abs (a -ℤ b) ≤ unsigned_abs a + unsigned_abs b
abs-sub a b = omega (arith, ints)

-- the greater of two is no larger than both
pub abs-max : (a b : ℤ) (n : ℕ) → unsigned_abs a ≤ n → unsigned_abs b ≤ n → unsigned_abs (int_max a b) ≤ n
abs-max a b n ha hb = omega (arith, ints, clamps)

-- the size of a number times one of no sign
pub abs-times : (m : ℕ) (z : ℤ) → unsigned_abs (pos m *ℤ z) ≡ m * unsigned_abs z
abs-times m z = unsigned_abs-mul (pos m) z

-- the size of a sum of places is at most the sum of their sizes
pub abs-sum_below : (f : ℕ → ℤ) (g : ℕ → ℕ) (n : ℕ) → ((i : ℕ) → i < n → unsigned_abs (f i) ≤ g i) → unsigned_abs (sum_below f n) ≤ count_below g n
abs-sum_below f g zero sizes = omega arith
abs-sum_below f g (suc n) sizes =
    omega (arith, abs-add (sum_below f n) (f n), abs-sum_below f g n (λ i h. sizes i (omega arith)), sizes n (omega arith))

-- a factor of no sign below a bound
pub abs-share : (m most : ℕ) (z : ℤ) → m ≤ most → unsigned_abs (pos m *ℤ z) ≤ most * unsigned_abs z
abs-share m most z h = omega (arith, abs-times m z, mul-le-mul_right (unsigned_abs z) h)

-- the same of the machine's numbers
pub product_small : (m : ℕ) (z a b : ℤ) → a ≡ pos m → b ≡ to_z w64 (of_z w64 z) → m ≤ 2 ^ 30 → SFits w64 z → unsigned_abs (to_z w128 (of_z w128 (to_z w128 (of_z w128 a) *ℤ to_z w128 (of_z w128 b)))) ≤ 2 ^ 30 * unsigned_abs z
product_small m z a b a_is b_is h fits =
    let b_is_z : b ≡ z = simp to_z-of_z at b_is in
    let size : unsigned_abs z ≤ 2 ^ 63 = omega (arith, ints, fits) in
    let product = abs-share m (2 ^ 30) z h in
    let a_fits : SFits w128 (pos m) = omega (arith, ints) in
    let z_fits : SFits w128 z = omega (arith, ints) in
    let product_fits : SFits w128 (pos m *ℤ z) = fits_signed_from_abs w128 (pos m *ℤ z) (omega (arith, product, size)) in
    rw (a_is, b_is_z) (simp to_z-of_z product)

-- the rows' products, with one more product in each
loads-step : (l a b : ℕ → ℕ) (u m : ℕ) → count_below (λ j. l j * (a j + u * b j)) m ≡ count_below (λ j. l j * a j) m + u * count_below (λ j. l j * b j) m
loads-step l a b u zero = omega arith
loads-step l a b u (suc m) = omega (arith, loads-step l a b u m)

-- a sum over variables of what cost and rows weigh there is the multipliers' sum of the loads
loads : (u c l : ℕ → ℕ) (a : ℕ → ℕ → ℕ) (d m n : ℕ) → count_below (λ i. u i * (d * c i + count_below (λ j. l j * a j i) m)) n ≡ d * count_below (λ i. u i * c i) n + count_below (λ j. l j * count_below (λ i. u i * a j i) n) m
loads u c l a d m zero = omega (arith, count-zero (λ (j : ℕ). l j * 0) m (λ j h. omega arith))
loads u c l a d m (suc n) =
    omega (arith, loads u c l a d m n, loads-step l (λ j. count_below (λ i. u i * a j i) n) (λ j. a j n) (u n) m)

weight_size : (p : ProblemData) (mult : Mult) (i : ℕ) → unsigned_abs (weight p mult i) ≤ mass p mult i
weight_size p mult i =
    let taken = abs-sum_below (share_of p mult i) (λ (j : ℕ). nat_at mult.lambda j * unsigned_abs (coefficient_of p j i)) (row_count p) (λ j h. omega (arith, abs-times (nat_at mult.lambda j) (coefficient_of p j i))) in
    omega (arith, abs-sub (pos mult.d *ℤ int_at p.cost i) (sum_below (share_of p mult i) (row_count p)), abs-times mult.d (int_at p.cost i), taken)

-- the upper times the weight's size, at each variable
abbrev pub reach : ProblemData → Mult → ℕ → ℕ
reach p mult i = nat_at p.upper i * mass p mult i

-- all variables together reach no further than the loads allow
reach_small : (p : ProblemData) (mult : Mult) → IsLegal p → IsMult p mult → (n : ℕ) → n ≤ variables p → count_below (reach p mult) n ≤ 65 * 2 ^ 90
reach_small p mult legal ok n h =
    let m = row_count p in
    let by_cost = λ (i : ℕ). nat_at p.upper i * unsigned_abs (int_at p.cost i) in
    let by_row = λ (j i : ℕ). nat_at p.upper i * unsigned_abs (coefficient_of p j i) in
    let whole = loads (nat_at p.upper) (λ (i : ℕ). unsigned_abs (int_at p.cost i)) (nat_at mult.lambda) (λ (j i : ℕ). unsigned_abs (coefficient_of p j i)) mult.d m n in
    let cost_load : count_below by_cost n ≤ 2 ^ 60 = omega (arith, count-more by_cost n (variables p) h, legal.cost_load) in
    let cost : mult.d * count_below by_cost n ≤ 2 ^ 30 * 2 ^ 60 = mul-le-mul ok.cost cost_load in
    let row : (j : ℕ) → j < m → nat_at mult.lambda j * count_below (by_row j) n ≤ 2 ^ 30 * 2 ^ 60 = λ j below.
    let row_load : count_below (by_row j) n ≤ 2 ^ 60 = omega (arith, count-more (by_row j) n (variables p) h, legal.row_loads j below) in
    mul-le-mul (ok.small j below) row_load in
    let rows = count-most (λ (j : ℕ). nat_at mult.lambda j * count_below (by_row j) n) (2 ^ 30 * 2 ^ 60) m row in
    omega (arith, whole, cost, rows, legal.few_rows)

-- a count within the upper reaches no further
pub share_small : (p : ProblemData) (mult : Mult) → IsLegal p → IsMult p mult → (i t : ℕ) → i < variables p → t ≤ nat_at p.upper i → unsigned_abs (weight p mult i) * t ≤ 65 * 2 ^ 90
share_small p mult legal ok i t h within =
    let whole : count_below (reach p mult) (suc i) ≤ 65 * 2 ^ 90 = reach_small p mult legal ok (suc i) (omega arith) in
    let one : unsigned_abs (weight p mult i) * t ≤ mass p mult i * nat_at p.upper i = mul-le-mul (weight_size p mult i) within in
    omega (arith, whole, one)

part_size : (p : ProblemData) (box : Region) (mult : Mult) → IsRegion p box → (i : ℕ) → i < variables p → unsigned_abs (part_of p box mult i) ≤ reach p mult i
part_size p box mult region i h =
    let w = weight p mult i in
    let low = nat_at box.low i in
    let high = nat_at box.high i in
    let upper = nat_at p.upper i in
    let low_within : low ≤ upper = omega (arith, region.ordered i h, region.within i h) in
    let high_within : high ≤ upper = region.within i h in
    let at_low : unsigned_abs w * low ≤ mass p mult i * upper = mul-le-mul (weight_size p mult i) low_within in
    let at_high : unsigned_abs w * high ≤ mass p mult i * upper = mul-le-mul (weight_size p mult i) high_within in
    abs-max (w *ℤ pos low) (w *ℤ pos high) (reach p mult i)
    (omega (arith, at_low, unsigned_abs-mul w (pos low)))
    (omega (arith, at_high, unsigned_abs-mul w (pos high)))

-- what the first variables add is small
pub parts_small : (p : ProblemData) (box : Region) (mult : Mult) → IsLegal p → IsRegion p box → IsMult p mult → (n : ℕ) → n ≤ variables p → unsigned_abs (sum_below (part_of p box mult) n) ≤ 65 * 2 ^ 90
parts_small p box mult legal region ok n h =
    omega (arith, reach_small p mult legal ok n h, abs-sum_below (part_of p box mult) (reach p mult) n (λ i below. part_size p box mult region i (omega arith)))

-- a low end times the weight is small
pub low_small : (p : ProblemData) (box : Region) (mult : Mult) → IsLegal p → IsRegion p box → IsMult p mult → (i : ℕ) → i < variables p → (w : ℤ) (low : List ℕ) → w ≡ weight p mult i → low ≡ box.low → unsigned_abs w * nat_at low i < 2 ^ 127
low_small p box mult legal region ok i h w low w_is low_is =
    rw (w_is, low_is) (omega (arith, share_small p mult legal ok i (nat_at box.low i) h (omega (arith, region.ordered i h, region.within i h))))

-- and so is a high end
pub high_small : (p : ProblemData) (box : Region) (mult : Mult) → IsLegal p → IsRegion p box → IsMult p mult → (i : ℕ) → i < variables p → (w : ℤ) (high : List ℕ) → w ≡ weight p mult i → high ≡ box.high → unsigned_abs w * nat_at high i < 2 ^ 127
high_small p box mult legal region ok i h w high w_is high_is =
    rw (w_is, high_is) (omega (arith, share_small p mult legal ok i (nat_at box.high i) h (region.within i h)))

-- the parts so far and the next are the parts to the next place
pub parts_more : (p : ProblemData) (box : Region) (mult : Mult) (i : ℕ) (total w gain : ℤ) (low high : List ℕ) → total ≡ sum_below (part_of p box mult) i → w ≡ weight p mult i → low ≡ box.low → high ≡ box.high → gain ≡ greatest w (nat_at low i) (nat_at high i) → total +ℤ gain ≡ sum_below (part_of p box mult) (i + 1)
parts_more p box mult i total w gain low high total_is w_is low_is high_is gain_is =
    let gain_is_part : gain ≡ part_of p box mult i = rw (w_is, low_is, high_is) at gain_is in
    rw add-one (omega (arith, ints, total_is, gain_is_part))

-- and they fit
pub parts_fit : (p : ProblemData) (box : Region) (mult : Mult) → IsLegal p → IsRegion p box → IsMult p mult → (i : ℕ) (total : ℤ) → i ≤ variables p → total ≡ sum_below (part_of p box mult) i → unsigned_abs total ≤ 65 * 2 ^ 90
parts_fit p box mult legal region ok i total h total_is = rw total_is (parts_small p box mult legal region ok i h)

-- a sum of parts is a number of 128 bits
pub fits_small : (z : ℤ) → unsigned_abs z ≤ 65 * 2 ^ 90 → FitsSigned w128 z
fits_small z small = fits_signed_from_abs w128 z (omega (arith, small))

-- a sum that fits is what the machine adds
pub stored : (total gain sum : ℤ) → SFits w128 gain → SFits w128 (total +ℤ gain) → total +ℤ gain ≡ sum → to_z w128 (of_z w128 (total +ℤ to_z w128 (of_z w128 gain))) ≡ sum
stored total gain sum gain_fits sum_fits is = simp to_z-of_z is

-- a value within the uppers is no larger than the load
pub value_small : (upper x : List ℕ) (coefficients : List ℤ) (n : ℕ) → ((i : ℕ) → i < n → nat_at x i ≤ nat_at upper i) → unsigned_abs (value_at coefficients x n) ≤ load upper coefficients n
value_small upper x coefficients n within =
    abs-sum_below (λ (i : ℕ). int_at coefficients i *ℤ pos (nat_at x i)) (λ (i : ℕ). nat_at upper i * unsigned_abs (int_at coefficients i)) n
    (λ i h. omega (arith, unsigned_abs-mul (int_at coefficients i) (pos (nat_at x i)), mul-le-mul_right (unsigned_abs (int_at coefficients i)) (within i h)))

-- a product of the machine's numbers
pub gain_stored : (each end : ℤ) (count : ℕ) (most : ℤ) → SFits w128 each → end ≡ pos count → count < 2 ^ 64 → unsigned_abs each * count < 2 ^ 127 → each *ℤ pos count ≡ most
    → to_z w128 (of_z w128 (to_z w128 (of_z w128 each) *ℤ to_z w128 (of_z w128 end))) ≡ most
gain_stored each end count most fits end_is few small is =
    let end_fits : SFits w128 (pos count) = omega (arith, ints, few) in
    let product_fits : SFits w128 (each *ℤ pos count) = fits_signed_from_abs w128 (each *ℤ pos count) (omega (arith, unsigned_abs-mul each (pos count), small)) in
    rw end_is (simp to_z-of_z is)

pub part_stored : (each : ℤ) (count : ℕ) (most : ℤ) → SFits w64 each → count ≤ 10 ^ 12 → unsigned_abs each * count ≤ 2 ^ 60 → each *ℤ pos count ≡ most
    → to_z w64 (of_z w64 (to_z w64 (of_z w64 each) *ℤ to_z w64 count)) ≡ most
part_stored each count most fits few small is =
    let product_fits : SFits w64 (each *ℤ pos count) = fits_signed_from_abs w64 (each *ℤ pos count) (omega (arith, unsigned_abs-mul each (pos count), small)) in
    rw (to_z_pos w64 count (omega (arith, few))) (simp to_z-of_z is)

-- the parts so far and the next, in a block from a start on
pub block_more : (p : ProblemData) (box : Region) (mult : Mult) (start place : ℕ) (total w gain : ℤ) (low high : List ℕ) → total ≡ sum_below (part_of p box mult) (start + place)
    → w ≡ weight p mult (start + place) → low ≡ box.low → high ≡ box.high → gain ≡ greatest w (nat_at low (start + place)) (nat_at high (start + place))
    → total +ℤ gain ≡ sum_below (part_of p box mult) (start + (place + 1))
block_more p box mult start place total w gain low high total_is w_is low_is high_is gain_is =
    let next : (start + place) + 1 ≡ start + (place + 1) = omega arith in
    parts_more p box mult (start + place) total w gain low high total_is w_is low_is high_is gain_is ∙ ap (sum_below (part_of p box mult)) next

-- a sum of 64 bits that fits is what the machine adds
pub stored_narrow : (total part sum : ℤ) → SFits w64 part → SFits w64 (total +ℤ part) → total +ℤ part ≡ sum → to_z w64 (of_z w64 (total +ℤ to_z w64 (of_z w64 part))) ≡ sum
stored_narrow total part sum part_fits sum_fits is = simp to_z-of_z is
