-- Steps of sums.
use Rattle.std.proofs.Common.{◌≡◌, ℕ, ◌+◌, ◌<◌, ◌≤◌, ◌^◌, List, map, ℤ, pos, ◌+ℤ◌, ◌*ℤ◌, length, get_or, drop, ap, ◌∙◌, to_z, of_z, arith}
use Rattle.std.specs.Int.RustNames.{unsigned_abs}
use Rattle.std.proofs.lemmas.Int.{ints, to_z-of_z, fits_signed_from_abs}
use Rattle.std.proofs.lemmas.List.{at_drop_more}
use Rattle.package_query.specs.Meaning.{copies_give}
use Rattle.package_query.specs.Plain.{number_at}
use mir.Syntax.{w128}

-- a sum and one step more
pub sum_step : (sum step rest later whole : ℤ) → sum +ℤ rest ≡ whole → rest ≡ step +ℤ later → (sum +ℤ step) +ℤ later ≡ whole
sum_step sum step rest later whole before next = omega (arith, ints, before, next)

-- its size grows by at most the step's
pub abs-add : (a b : ℤ) → unsigned_abs (a +ℤ b) ≤ unsigned_abs a + unsigned_abs b
abs-add a b = omega (arith, ints)

-- what 128 bits keep of a small number
kept : (z : ℤ) → unsigned_abs z < 2 ^ 127 → to_z w128 (of_z w128 z) ≡ z
kept z small = to_z-of_z w128 z (fits_signed_from_abs w128 z small)

-- what 128 bits keep of a small sum
pub kept_sum : (sum step : ℤ) → unsigned_abs sum ≤ 2 ^ 125 → unsigned_abs step ≤ 2 ^ 125 → to_z w128 (of_z w128 (sum +ℤ to_z w128 (of_z w128 step))) ≡ sum +ℤ step
kept_sum sum step small small_step =
    let inner : to_z w128 (of_z w128 step) ≡ step = kept step (omega (arith, small_step)) in
    let outer : to_z w128 (of_z w128 (sum +ℤ step)) ≡ sum +ℤ step = kept (sum +ℤ step) (omega (arith, abs-add sum step, small, small_step)) in
    ap (λ (z : ℤ). to_z w128 (of_z w128 (sum +ℤ z))) inner ∙ outer

-- the terms from a place on give the one there and the later ones
pub copies_give_more : (terms : List ℕ) (i count : ℕ) (row : List ℤ) → i < length terms → copies_give (map number_at (drop i terms)) count row ≡ (pos count *ℤ number_at (get_or terms i 0) row) +ℤ copies_give (map number_at (drop (i + 1) terms)) count row
copies_give_more terms i count row within =
    at_drop_more (λ (ts : List ℕ). copies_give (map number_at ts) count row) terms i 0 within
