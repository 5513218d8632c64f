-- Powers of ten, and quotients rounded down.
use Rattle.std.proofs.Common.{ℕ, ◌^◌, ◌≤◌, ℤ, pos, negsuc, unsigned_abs, w64, FitsSigned, lit<, arith}
use Rattle.std.specs.Int.{int_div_euclid}
use Rattle.std.specs.Prelude.{◌*ℤ◌}
use Rattle.std.proofs.Math.Nat.{mul-le-mul, one-le-pow, pow-le-pow_right, div-le_self}
use Rattle.std.proofs.lemmas.Int.{fits_signed_from_abs, unsigned_abs-mul}

pub ten_to_most : (places : ℕ) → places ≤ 6 → 10 ^ places ≤ 10 ^ 6
ten_to_most places h = pow-le-pow_right {n = 10} (lit< tt) h

pub ten_to_some : (places : ℕ) → 1 ≤ 10 ^ places
ten_to_some places = one-le-pow places 10 (lit< tt)

-- a quotient is no greater than what is divided
pub quotient_small : (a : ℤ) (k : ℕ) → unsigned_abs (int_div_euclid a (pos k)) ≤ unsigned_abs a
quotient_small (pos a) k = div-le_self a k
quotient_small (negsuc a) k = let small = div-le_self a k in omega (arith, small)

pub quotient_fits : (a : ℤ) (k : ℕ) → unsigned_abs a ≤ 10 ^ 18 → FitsSigned w64 (int_div_euclid a (pos k))
quotient_fits a k h = fits_signed_from_abs w64 (int_div_euclid a (pos k)) (let small = quotient_small a k in omega (arith, small, h))

pub product_small : (a b : ℤ) → unsigned_abs a ≤ 10 ^ 12 → unsigned_abs b ≤ 10 ^ 6 → unsigned_abs (a *ℤ b) ≤ 10 ^ 18
product_small a b one other = rw (unsigned_abs-mul a b) (mul-le-mul one other)
