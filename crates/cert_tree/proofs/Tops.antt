-- The top of an open leaf is a number of 64 bits.
use Rattle.std.proofs.Common.{◌≡◌, ℕ, zero, suc, ◌*◌, ◌^◌, ◌<◌, ◌≤◌, replicate, ap, ◌∙◌, arith, mul-le-mul}
use Rattle.std.specs.Prelude.{ℤ, pos, ◌*ℤ◌, ◌≤ℤ◌, unsigned_abs, FitsSigned, Option, None, Some}
use Rattle.std.proofs.lemmas.Int.{ints, clamps, unsigned_abs-mul, fits_signed_from_abs}
use Rattle.std.proofs.lemmas.List.{get_or-replicate}
use Rattle.std.proofs.Math.IntN.{zero-*ℤ}
use mir.Syntax.{w64}
use Rattle.lin_bound.specs.Sums.{int_at, nat_at}
use Rattle.lin_bound.specs.Problem.{ProblemData, variables, row_count, coefficient_of, IsLegal}
use Rattle.lin_bound.specs.Box.{IsRegion}
use Rattle.lin_bound.specs.Bound.{share_of, weight, sides, side_of, part_of, bound_of, plain}
use Rattle.lin_bound.specs.declared.region.Region.{Region}
use Rattle.lin_bound.specs.declared.mult.Mult.{Mult}
use Rattle.lin_bound.proofs.Sums.{sum-zero}
use Rattle.lin_bound.proofs.Sizes.{abs-max, abs-sum_below}
use Rattle.cert_tree.specs.Partial.{least_bound, bound_with, top}

-- the plain multipliers of the cost give no row a multiplier
times_none : (m j : ℕ) (z : ℤ) → j < m → pos (nat_at (replicate m 0) j) *ℤ z ≡ pos 0
times_none m j z h = ap (λ (n : ℕ). pos n *ℤ z) (get_or-replicate m j 0 0 h) ∙ zero-*ℤ z

plain_weight : (p : ProblemData) (i : ℕ) → weight p (plain p 0) i ≡ int_at p.cost i
plain_weight p i =
    let none = sum-zero (share_of p (plain p 0) i) (row_count p) (λ j h. times_none (row_count p) j (coefficient_of p j i) h) in
    omega (arith, ints, none)

-- what a variable adds is no larger than its share of the load
plain_part : (p : ProblemData) (box : Region) → IsRegion p box → (i : ℕ) → i < variables p → unsigned_abs (part_of p box (plain p 0) i) ≤ nat_at p.upper i * unsigned_abs (int_at p.cost i)
plain_part p box region i h =
    let w = weight p (plain p 0) i in
    let low = nat_at box.low i in
    let high = nat_at box.high i in
    let upper = nat_at p.upper i in
    let size : unsigned_abs w ≤ unsigned_abs (int_at p.cost i) = omega (arith, ap unsigned_abs (plain_weight p i)) in
    let low_within : low ≤ upper = omega (arith, region.ordered i h, region.within i h) in
    let at_low : unsigned_abs w * low ≤ unsigned_abs (int_at p.cost i) * upper = mul-le-mul size low_within in
    let at_high : unsigned_abs w * high ≤ unsigned_abs (int_at p.cost i) * upper = mul-le-mul size (region.within i h) in
    abs-max (w *ℤ pos low) (w *ℤ pos high) (upper * unsigned_abs (int_at p.cost i))
    (omega (arith, at_low, unsigned_abs-mul w (pos low)))
    (omega (arith, at_high, unsigned_abs-mul w (pos high)))

-- so the plain bound of the cost is no larger than the load
plain_small : (p : ProblemData) (box : Region) → IsLegal p → IsRegion p box → unsigned_abs (bound_of p box (plain p 0)) ≤ 2 ^ 60
plain_small p box legal region =
    let no_sides : sides p (plain p 0) ≡ pos 0 = sum-zero (side_of p (plain p 0)) (row_count p) (λ j h. times_none (row_count p) j (int_at p.rhs j) h) in
    let parts = abs-sum_below (part_of p box (plain p 0)) (λ (i : ℕ). nat_at p.upper i * unsigned_abs (int_at p.cost i)) (variables p) (plain_part p box region) in
    omega (arith, ints, no_sides, parts, legal.cost_load)

-- no bound with it is greater
with_below : (p : ProblemData) (box : Region) (parent : Option Mult) → bound_with p box parent ≤ℤ bound_of p box (plain p 0)
with_below p box None = omega (arith, ints)
with_below p box (Some mult) = least_below mult.d
  where
    least_below : (d : ℕ) → least_bound p box mult d ≤ℤ bound_of p box (plain p 0)
    least_below zero = omega (arith, ints)
    least_below (suc d) = omega (arith, ints, clamps)

pub top_fits : (p : ProblemData) (box : Region) (parent : Option Mult) (most : ℤ) → IsLegal p → IsRegion p box → most ≡ top p box parent → FitsSigned w64 most
top_fits p box parent most legal region is =
    let size : unsigned_abs most ≤ 2 ^ 60 = omega (arith, ints, clamps, is, with_below p box parent, plain_small p box legal region) in
    fits_signed_from_abs w64 most (omega (arith, size))
