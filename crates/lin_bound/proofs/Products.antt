-- Laws of products of signed numbers, which are read as `up z - down z`.
use Rattle.std.proofs.Common.{◌≡◌, ℕ, ◌+◌, ◌*◌, ◌≤◌, ap, arith, mul-le-mul_left}
use Rattle.std.specs.Prelude.{ℤ, pos, ◌+ℤ◌, ◌-ℤ◌, ◌*ℤ◌, ◌≤ℤ◌}
use Rattle.std.proofs.lemmas.Int.{ints}
use Rattle.std.proofs.Math.IntN.{*ℤ_comm}
use borrow.Author.Differences.{up, down, product_is}

-- a product distributes over a sum on its left
pub mul-add_left : (a b c : ℤ) → (a +ℤ b) *ℤ c ≡ (a *ℤ c) +ℤ (b *ℤ c)
mul-add_left a b c =
    let e : up (a +ℤ b) + (down a + down b) ≡ down (a +ℤ b) + (up a + up b) = omega (arith, ints) in
    omega (arith, ints, ap (λ (k : ℕ). k * up c) e, ap (λ (k : ℕ). k * down c) e)

-- and on its right
pub mul-add_right : (a b c : ℤ) → a *ℤ (b +ℤ c) ≡ (a *ℤ b) +ℤ (a *ℤ c)
mul-add_right a b c =
    omega (arith, ints, *ℤ_comm a (b +ℤ c), *ℤ_comm a b, *ℤ_comm a c, mul-add_left b c a)

-- the same of a difference
pub mul-sub_left : (a b c : ℤ) → (a -ℤ b) *ℤ c ≡ (a *ℤ c) -ℤ (b *ℤ c)
mul-sub_left a b c =
    let e : up (a -ℤ b) + (down a + up b) ≡ down (a -ℤ b) + (up a + down b) = omega (arith, ints) in
    omega (arith, ints, ap (λ (k : ℕ). k * up c) e, ap (λ (k : ℕ). k * down c) e)

-- products associate
pub mul_assoc : (a b c : ℤ) → (a *ℤ b) *ℤ c ≡ a *ℤ (b *ℤ c)
mul_assoc a b c =
    let ab = product_is a b in
    let bc = product_is b c in
    omega (arith, ints, ap (λ (k : ℕ). k * up c) ab.0, ap (λ (k : ℕ). k * down c) ab.0, ap (λ (k : ℕ). k * up c) ab.1, ap (λ (k : ℕ). k * down c) ab.1, ap (λ (k : ℕ). up a * k) bc.0, ap (λ (k : ℕ). down a * k) bc.0, ap (λ (k : ℕ). up a * k) bc.1, ap (λ (k : ℕ). down a * k) bc.1)

-- a number of no sign keeps the order
pub mul-mono : (n : ℕ) (a b : ℤ) → a ≤ℤ b → (pos n *ℤ a) ≤ℤ (pos n *ℤ b)
mul-mono n a b h =
    let e : up a + down b ≤ up b + down a = omega (arith, ints, h) in
    omega (arith, ints, mul-le-mul_left n e)
