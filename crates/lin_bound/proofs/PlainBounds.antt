-- The bounds of plain multipliers: what the cost, or one row alone, comes to in the box.
use Rattle.std.proofs.Common.{subst, below_more, ◌≡◌, ◌≢◌, ℕ, suc, ◌+◌, ◌*◌, ◌^◌, ◌<◌, ◌≤◌, List, refl, ◌∙◌, ap, arith, add-one, replicate, get_or-set_same, get_or-set_other, mul-le-mul_left, mul-le-mul_right}
use Rattle.std.specs.Prelude.{ℤ, pos, negsuc, ◌+ℤ◌, ◌-ℤ◌, ◌*ℤ◌, ◌≤ℤ◌, ◌<ℤ◌, ◌↔◌, Option, None, Some, slice_set, unsigned_abs, FitsSigned}
use mir.Syntax.{w64}
use Rattle.std.proofs.lemmas.Int.{ints, clamps, fits_signed_from_abs}
use Rattle.std.proofs.lemmas.List.{get_or-replicate, length-replicate}
use Rattle.std.proofs.Math.IntN.{zero-*ℤ}
use Rattle.lin_bound.specs.Sums.{sum_below, int_at, nat_at}
use Rattle.lin_bound.specs.Problem.{ProblemData, variables, row_count, row_of, coefficient_of, load}
use Rattle.lin_bound.specs.Bound.{share_of, weight, greatest, sides, side_of, part_of, bound_of, Closes, plain, IsLeastClosing}
use Rattle.lin_bound.specs.Activities.{least, greatest_activity, least_activity}
use Rattle.lin_bound.specs.declared.region.Region.{Region}
use Rattle.lin_bound.proofs.Products.{mul-sub_left}
use Rattle.lin_bound.proofs.Sizes.{abs-add}
use Rattle.lin_bound.proofs.Sums.{sum-ext, sum-zero, sum-single, sum-sub, count-more}

-- number 0 gives each row no multiplier
none_at : (m j : ℕ) → j < m → nat_at (replicate m 0) j ≡ 0
none_at m j h = get_or-replicate m j 0 0 h

times_none : (k : ℕ) (z : ℤ) → k ≡ 0 → pos k *ℤ z ≡ pos 0
times_none k z e = ap (λ (n : ℕ). pos n *ℤ z) e ∙ zero-*ℤ z

-- number j gives row j alone a multiplier, which is 1
one_at : (m j : ℕ) → j < m → nat_at (slice_set (replicate m 0) j 1) j ≡ 1
one_at m j h = get_or-set_same (replicate m 0) j 1 0 (omega (arith, length-replicate {A = ℕ} m 0))

none_beside : (m j k : ℕ) → k < m → k ≢ j → nat_at (slice_set (replicate m 0) j 1) k ≡ 0
none_beside m j k h ne = get_or-set_other (replicate m 0) j k 1 0 ne ∙ none_at m k h

-- the sum under the multipliers of row j is its own
row_alone : (m j : ℕ) (f : ℕ → ℤ) → j < m → sum_below (λ (k : ℕ). pos (nat_at (slice_set (replicate m 0) j 1) k) *ℤ f k) m ≡ f j
row_alone m j f h =
    let g = λ (k : ℕ). pos (nat_at (slice_set (replicate m 0) j 1) k) *ℤ f k in
    let single : sum_below g m ≡ g j = sum-single g j m h (λ i below ne. times_none (nat_at (slice_set (replicate m 0) j 1) i) (f i) (none_beside m j i below ne)) in
    single ∙ (ap (λ (n : ℕ). pos n *ℤ f j) (one_at m j h) ∙ omega (arith, ints))

-- the bound under number 0 is the greatest that the cost comes to
pub bound_by_cost : (p : ProblemData) (box : Region) → bound_of p box (plain p 0) ≡ greatest_activity p.cost box (variables p)
bound_by_cost p box =
    let m = row_count p in
    let mult = plain p 0 in
    let no_sides : sides p mult ≡ pos 0 = sum-zero (side_of p mult) m (λ j h. times_none (nat_at mult.lambda j) (int_at p.rhs j) (none_at m j h)) in
    let no_shares : (i : ℕ) → sum_below (share_of p mult i) m ≡ pos 0 = λ i. sum-zero (share_of p mult i) m (λ j h. times_none (nat_at mult.lambda j) (coefficient_of p j i) (none_at m j h)) in
    let weight_is : (i : ℕ) → weight p mult i ≡ int_at p.cost i = λ i. omega (arith, ints, no_shares i) in
    let parts = sum-ext (part_of p box mult) (λ (i : ℕ). greatest (int_at p.cost i) (nat_at box.low i) (nat_at box.high i)) (variables p)
    (λ i h. ap (λ (w : ℤ). greatest w (nat_at box.low i) (nat_at box.high i)) (weight_is i)) in
    omega (arith, ints, no_sides, parts)

minus_times : (a : ℤ) (t : ℕ) → (pos 0 -ℤ a) *ℤ pos t ≡ pos 0 -ℤ (a *ℤ pos t)
minus_times a t = omega (arith, ints, mul-sub_left (pos 0) a (pos t), zero-*ℤ (pos t))

-- the greatest of what is turned about is the least, turned about
greatest_minus : (a : ℤ) (low high : ℕ) → greatest (pos 0 -ℤ a) low high ≡ pos 0 -ℤ least a low high
greatest_minus a low high = omega (arith, ints, clamps, minus_times a low, minus_times a high)

-- the bound under a row's number is what the least of that row leaves of its right-hand side
pub bound_by_row : (p : ProblemData) (box : Region) (j : ℕ) → j < row_count p → bound_of p box (plain p (suc j)) ≡ int_at p.rhs j -ℤ least_activity (row_of p j) box (variables p)
bound_by_row p box j below =
    let m = row_count p in
    let mult = plain p (suc j) in
    let side : sides p mult ≡ int_at p.rhs j = row_alone m j (int_at p.rhs) below in
    let shares : (i : ℕ) → sum_below (share_of p mult i) m ≡ coefficient_of p j i = λ i. row_alone m j (λ (k : ℕ). coefficient_of p k i) below in
    let weight_is : (i : ℕ) → weight p mult i ≡ pos 0 -ℤ coefficient_of p j i = λ i. omega (arith, ints, shares i, zero-*ℤ (int_at p.cost i)) in
    let term = λ (i : ℕ). least (coefficient_of p j i) (nat_at box.low i) (nat_at box.high i) in
    let parts = sum-ext (part_of p box mult) (λ (i : ℕ). pos 0 -ℤ term i) (variables p)
    (λ i h. ap (λ (w : ℤ). greatest w (nat_at box.low i) (nat_at box.high i)) (weight_is i) ∙ greatest_minus (coefficient_of p j i) (nat_at box.low i) (nat_at box.high i)) in
    omega (arith, ints, side, parts, sum-sub (λ (i : ℕ). pos 0) term (variables p), sum-zero (λ (i : ℕ). pos 0) (variables p) (λ i h. refl))

-- so the cost closes a box in which it can't be above the value
pub cost_closes : (p : ProblemData) (box : Region) (z : ℤ) → (greatest_activity p.cost box (variables p) ≤ℤ z) ↔ Closes p box (plain p 0) (Some z)
cost_closes p box z = (λ h. omega (arith, ints, h, bound_by_cost p box), λ h. omega (arith, ints, h, bound_by_cost p box))

-- and a row one that has no point that keeps it
pub row_closes : (p : ProblemData) (box : Region) (best : Option ℤ) (j : ℕ) → j < row_count p
    → (int_at p.rhs j <ℤ least_activity (row_of p j) box (variables p)) ↔ Closes p box (plain p (suc j)) best
row_closes p box None j below = (λ h. (refl, omega (arith, ints, h, bound_by_row p box j below)), λ h. omega (arith, ints, h.1, bound_by_row p box j below))
row_closes p box (Some z) j below =
    (λ h. omega (arith, ints, h, bound_by_row p box j below, zero-*ℤ (z +ℤ pos 1)), λ h. omega (arith, ints, h, bound_by_row p box j below, zero-*ℤ (z +ℤ pos 1)))

-- which end gives the greatest, and which the least
pub greatest_high : (w : ℤ) (low high : ℕ) → low ≤ high → pos 0 ≤ℤ w → w *ℤ pos high ≡ greatest w low high
greatest_high (pos n) low high h sign = omega (arith, ints, clamps, mul-le-mul_left n h)
greatest_high (negsuc n) low high h sign = absurd (omega (arith, ints, sign))

pub greatest_low : (w : ℤ) (low high : ℕ) → low ≤ high → w <ℤ pos 0 → w *ℤ pos low ≡ greatest w low high
greatest_low (pos n) low high h sign = absurd (omega (arith, ints, sign))
greatest_low (negsuc n) low high h sign = omega (arith, ints, clamps, mul-le-mul_left (suc n) h)

pub least_low : (w : ℤ) (low high : ℕ) → low ≤ high → pos 0 ≤ℤ w → w *ℤ pos low ≡ least w low high
least_low (pos n) low high h sign = omega (arith, ints, clamps, mul-le-mul_left n h)
least_low (negsuc n) low high h sign = absurd (omega (arith, ints, sign))

pub least_high : (w : ℤ) (low high : ℕ) → low ≤ high → w <ℤ pos 0 → w *ℤ pos high ≡ least w low high
least_high (pos n) low high h sign = absurd (omega (arith, ints, sign))
least_high (negsuc n) low high h sign = omega (arith, ints, clamps, mul-le-mul_left (suc n) h)

-- what one variable adds is light
pub part_light : (upper : List ℕ) (coefficients : List ℤ) (i most high : ℕ) → i < most → high ≤ nat_at upper i → load upper coefficients most ≤ 2 ^ 60
    → unsigned_abs (int_at coefficients i) * high ≤ 2 ^ 60
part_light upper coefficients i most high below within light =
    let whole = count-more (λ (k : ℕ). nat_at upper k * unsigned_abs (int_at coefficients k)) (suc i) most below in
    omega (arith, whole, light, mul-le-mul_right (unsigned_abs (int_at coefficients i)) within)

-- the sum so far and the next part are no larger than the load
pub load_more : (upper : List ℕ) (coefficients : List ℤ) (i high : ℕ) (total part : ℤ) → unsigned_abs total ≤ load upper coefficients i
    → unsigned_abs part ≤ high * unsigned_abs (int_at coefficients i) → high ≤ nat_at upper i
    → unsigned_abs (total +ℤ part) ≤ load upper coefficients (i + 1)
load_more upper coefficients i high total part total_small part_small within =
    rw add-one (omega (arith, abs-add total part, total_small, part_small, mul-le-mul_right (unsigned_abs (int_at coefficients i)) within))

-- and so they fit
pub load_fits : (upper : List ℕ) (coefficients : List ℤ) (n most : ℕ) (total : ℤ) → n ≤ most → unsigned_abs total ≤ load upper coefficients n
    → load upper coefficients most ≤ 2 ^ 60 → FitsSigned w64 total
load_fits upper coefficients n most total h small light =
    fits_signed_from_abs w64 total (omega (arith, small, light, count-more (λ (k : ℕ). nat_at upper k * unsigned_abs (int_at coefficients k)) n most h))

-- the sums so far and the next part
pub greatest_more : (coefficients : List ℤ) (box : Region) (i : ℕ) (total part : ℤ) (low high : List ℕ) → total ≡ greatest_activity coefficients box i
    → low ≡ box.low → high ≡ box.high → part ≡ greatest (int_at coefficients i) (nat_at low i) (nat_at high i)
    → total +ℤ part ≡ greatest_activity coefficients box (i + 1)
greatest_more coefficients box i total part low high total_is low_is high_is part_is =
    let is : part ≡ greatest (int_at coefficients i) (nat_at box.low i) (nat_at box.high i) = rw (low_is, high_is) at part_is in
    rw add-one (omega (arith, ints, total_is, is))

pub least_more : (coefficients : List ℤ) (box : Region) (i : ℕ) (total part : ℤ) (low high : List ℕ) → total ≡ least_activity coefficients box i
    → low ≡ box.low → high ≡ box.high → part ≡ least (int_at coefficients i) (nat_at low i) (nat_at high i)
    → total +ℤ part ≡ least_activity coefficients box (i + 1)
least_more coefficients box i total part low high total_is low_is high_is part_is =
    let is : part ≡ least (int_at coefficients i) (nat_at box.low i) (nat_at box.high i) = rw (low_is, high_is) at part_is in
    rw add-one (omega (arith, ints, total_is, is))

-- the first row that closes the box gives the least number, if no number before it closes the box
pub first_closing : (p : ProblemData) (box : Region) (best : Option ℤ) (row : ℕ) → row < row_count p
    → ((n : ℕ) → n < row + 1 → ¬ Closes p box (plain p n) best)
    → int_at p.rhs row <ℤ least_activity (row_of p row) box (variables p) → IsLeastClosing p box best (row + 1)
first_closing p box best row below before broken =
    let next : suc row ≡ row + 1 = omega arith in
    record {
      within = omega (arith, below);
      closes = subst (λ (n : ℕ). Closes p box (plain p n) best) next ((row_closes p box best row below).0 broken);
      least = before;
    }

-- and a row that doesn't leaves no number up to its own
pub not_closing : (p : ProblemData) (box : Region) (best : Option ℤ) (row : ℕ) → row < row_count p
    → ((n : ℕ) → n < row + 1 → ¬ Closes p box (plain p n) best)
    → ¬ (int_at p.rhs row <ℤ least_activity (row_of p row) box (variables p))
    → (n : ℕ) → n < (row + 1) + 1 → ¬ Closes p box (plain p n) best
not_closing p box best row below before unbroken =
    let next : row + 1 ≡ suc row = omega arith in
    below_more (λ (n : ℕ). Closes p box (plain p n) best → ⊥) (row + 1) before
    (λ closes. unbroken ((row_closes p box best row below).1 (subst (λ (n : ℕ). Closes p box (plain p n) best) next closes)))
