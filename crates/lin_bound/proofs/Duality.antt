-- Weak duality: the bound is above every feasible point.
use Rattle.std.proofs.Common.{◌≡◌, ℕ, zero, suc, ◌≤◌, ap, arith, mul-le-mul_left}
use Rattle.std.specs.Prelude.{ℤ, pos, negsuc, ◌+ℤ◌, ◌-ℤ◌, ◌*ℤ◌, ◌≤ℤ◌, ◌<ℤ◌, None, Some}
use Rattle.std.proofs.lemmas.Int.{ints, clamps, by_lt_z}
use Rattle.std.proofs.Math.IntN.{*ℤ-zero, zero-*ℤ}
use Rattle.lin_bound.specs.Sums.{sum_below, int_at, nat_at}
use Rattle.lin_bound.specs.Problem.{variables, row_count, coefficient_of, cost_at, row_at}
use Rattle.lin_bound.specs.Bound.{weight, greatest, side_of, part_of, bound_of}
use Rattle.lin_bound.specs.Laws.{EndsAreGreatest, WeakDuality, ClosedHoldsNone}
use Rattle.lin_bound.proofs.Products.{mul-add_left, mul-add_right, mul-sub_left, mul_assoc, mul-mono}
use Rattle.lin_bound.proofs.Sums.{sum-le, sum-zero}

-- no count between the ends gives more than the greatest
pub below_greatest : (w : ℤ) (low high t : ℕ) → low ≤ t → t ≤ high → (w *ℤ pos t) ≤ℤ greatest w low high
below_greatest (pos n) low high t l h = omega (arith, ints, clamps, mul-le-mul_left n h)
below_greatest (negsuc n) low high t l h = omega (arith, ints, clamps, mul-le-mul_left (suc n) l)

-- one of the ends gives the greatest
greatest_reached : (w : ℤ) (low high : ℕ) → low ≤ high → (t : ℕ) × (low ≤ t) × (t ≤ high) × (greatest w low high ≡ w *ℤ pos t)
greatest_reached w low high h =
    by_lt_z (w *ℤ pos low) (w *ℤ pos high)
    (λ lt. (high, h, omega arith, omega (arith, ints, clamps, lt)))
    (λ le. (low, omega arith, h, omega (arith, ints, clamps, le)))

pub ends_are_greatest : EndsAreGreatest
ends_are_greatest w low high h =
    record { reached = greatest_reached w low high h; none_more = λ t l u. below_greatest w low high t l u }

-- the rows' products, with one more product in each
rows-step : (l a b : ℕ → ℤ) (x : ℤ) (m : ℕ) → sum_below (λ j. l j *ℤ (a j +ℤ (b j *ℤ x))) m ≡ sum_below (λ j. l j *ℤ a j) m +ℤ (sum_below (λ j. l j *ℤ b j) m *ℤ x)
rows-step l a b x zero = omega (arith, ints, zero-*ℤ x)
rows-step l a b x (suc m) =
    omega (arith, ints, rows-step l a b x m, mul-add_right (l m) (a m) (b m *ℤ x), mul_assoc (l m) (b m) x, mul-add_left (sum_below (λ j. l j *ℤ b j) m) (l m *ℤ b m) x)

-- the weights at a point are the cost at it less the rows at it, under the multipliers
pub lagrangian : (d : ℤ) (c l x : ℕ → ℤ) (a : ℕ → ℕ → ℤ) (m n : ℕ) → sum_below (λ i. ((d *ℤ c i) -ℤ sum_below (λ j. l j *ℤ a j i) m) *ℤ x i) n ≡ (d *ℤ sum_below (λ i. c i *ℤ x i) n) -ℤ sum_below (λ j. l j *ℤ sum_below (λ i. a j i *ℤ x i) n) m
lagrangian d c l x a m zero =
    omega (arith, ints, *ℤ-zero d, sum-zero (λ (j : ℕ). l j *ℤ pos 0) m (λ j h. *ℤ-zero (l j)))
lagrangian d c l x a m (suc n) =
    omega (arith, ints, lagrangian d c l x a m n, rows-step l (λ j. sum_below (λ i. a j i *ℤ x i) n) (λ j. a j n) (x n) m, mul-sub_left (d *ℤ c n) (sum_below (λ j. l j *ℤ a j n) m) (x n), mul_assoc d (c n) (x n), mul-add_right d (sum_below (λ i. c i *ℤ x i) n) (c n *ℤ x n))

pub weak_duality : WeakDuality
weak_duality p box mult x feasible inside =
    let whole = lagrangian (pos mult.d) (int_at p.cost) (λ (j : ℕ). pos (nat_at mult.lambda j)) (λ (i : ℕ). pos (nat_at x i)) (coefficient_of p) (row_count p) (variables p) in
    let parts = sum-le (λ (i : ℕ). weight p mult i *ℤ pos (nat_at x i)) (part_of p box mult) (variables p) (λ i h. below_greatest (weight p mult i) (nat_at box.low i) (nat_at box.high i) (nat_at x i) (inside.low i h) (inside.high i h)) in
    let rows = sum-le (λ (j : ℕ). pos (nat_at mult.lambda j) *ℤ row_at p j x) (side_of p mult) (row_count p) (λ j h. mul-mono (nat_at mult.lambda j) (row_at p j x) (int_at p.rhs j) (feasible.keeps j h)) in
    omega (arith, ints, whole, parts, rows)

-- no multiple of a number above is at most a multiple of one below
not_above : (d : ℕ) (cost z bound : ℤ) → (pos d *ℤ cost) ≤ℤ bound → bound <ℤ (pos d *ℤ (z +ℤ pos 1)) → cost ≤ℤ z
not_above d cost z bound below closed =
    by_lt_z z cost
    (λ lt. absurd (omega (arith, ints, below, closed, mul-mono d (z +ℤ pos 1) cost (omega (arith, ints, lt)))))
    (λ le. le)

pub closed_holds_none : ClosedHoldsNone
closed_holds_none p box mult None x closes feasible inside =
    let below = weak_duality p box mult x feasible inside in
    let none = ap (λ (k : ℕ). pos k *ℤ cost_at p x) closes.0 in
    omega (arith, ints, below, none, zero-*ℤ (cost_at p x), closes.1)
closed_holds_none p box mult (Some z) x closes feasible inside =
    not_above mult.d (cost_at p x) z (bound_of p box mult) (weak_duality p box mult x feasible inside) closes
