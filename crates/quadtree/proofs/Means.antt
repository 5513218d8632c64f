-- Lemmas on floored means: points that don't agree in a column stand on both sides of its mean.
use Rattle.std.proofs.Common.{◌≡◌, ℕ, zero, suc, ◌+◌, ◌*◌, ◌-◌, ◌<◌, ◌≤◌, ◌⊎◌, inl, inr, List, [], ◌∷◌, length, Bool, true, false, not, cond, ◌&&◌, ℤ, pos, negsuc, ◌+ℤ◌, refl, sym, ap, ◌∙◌, arith}
use Rattle.std.specs.List.{filter, list_all}
use Rattle.std.specs.Int.{int_div_euclid}
use Rattle.std.proofs.lemmas.Int.{ints}
use Rattle.std.proofs.lemmas.Bool.{and_from, and_parts, true≢false}
use Rattle.std.proofs.lemmas.Bool.Decides.{Decides-int_eq}
use borrow.Author.Differences.{up, down, lt-true, lt-false}
use Rattle.quadtree.specs.Points.{Point, coordinate, column_sum, floored_mean, is_above, is_at, agree}
use Rattle.quadtree.proofs.Halving.{other, length-halves}

-- the floor of a mean times the number is at most the sum, and less than that number below it
pub div_euclid-parts : (a : ℤ) (k : ℕ) → 0 < k → (up (int_div_euclid a (pos k)) * k + down a ≤ down (int_div_euclid a (pos k)) * k + up a) × (down (int_div_euclid a (pos k)) * k + up a < up (int_div_euclid a (pos k)) * k + down a + k)
div_euclid-parts (pos a) k h = omega arith
div_euclid-parts (negsuc a) k h = omega arith

-- if all points are above a number, so is their mean
all-above : (m : ℤ) (column : ℕ) (points : List Point) → length (filter (other (is_above m column)) points) ≡ 0 → up m * length points + length points + down (column_sum column points) ≤ down m * length points + up (column_sum column points)
all-above m column [] none = omega (arith, ints)
all-above m column (point ∷ points) none = step (λ left. all-above m column points left) (is_above m column point) refl none
  where
    step : (length (filter (other (is_above m column)) points) ≡ 0 → up m * length points + length points + down (column_sum column points) ≤ down m * length points + up (column_sum column points)) → (b : Bool) → is_above m column point ≡ b → length (cond (not b) (point ∷ filter (other (is_above m column)) points) (filter (other (is_above m column)) points)) ≡ 0 → up m * length (point ∷ points) + length (point ∷ points) + down (column_sum column (point ∷ points)) ≤ down m * length (point ∷ points) + up (column_sum column (point ∷ points))
    step before true is left =
        let above : up m + down (coordinate column point) < up (coordinate column point) + down m = lt-true m (coordinate column point) is in
        let rest = before left in
        omega (arith, ints, above, rest)
    step before false is left = absurd (omega (arith, left))

-- if none is, the mean isn't either; and it is the number only if all points are at it
record Low (m : ℤ) (column : ℕ) (points : List Point) : Type 0 where
  most : up (column_sum column points) + down m * length points ≤ down (column_sum column points) + up m * length points
  same : up m * length points + down (column_sum column points) ≤ down m * length points + up (column_sum column points) → list_all (is_at m column) points ≡ true

all-low : (m : ℤ) (column : ℕ) (points : List Point) → length (filter (is_above m column) points) ≡ 0 → Low m column points
all-low m column [] none = record { most = omega (arith, ints); same = λ _. refl }
all-low m column (point ∷ points) none = step (λ left. all-low m column points left) (is_above m column point) refl none
  where
    step : (length (filter (is_above m column) points) ≡ 0 → Low m column points) → (b : Bool) → is_above m column point ≡ b → length (cond b (point ∷ filter (is_above m column) points) (filter (is_above m column) points)) ≡ 0 → Low m column (point ∷ points)
    step before true is left = absurd (omega (arith, left))
    step before false is left =
        let below : up (coordinate column point) + down m ≤ up m + down (coordinate column point) = lt-false m (coordinate column point) is in
        let rest = before left in
        record {
          most = omega (arith, ints, below, rest.most);
          same = λ high.
              let here : coordinate column point ≡ m = omega (arith, ints, below, rest.most, high) in
              and_from _ _ ((Decides-int_eq (coordinate column point) m).1 here) (rest.same (omega (arith, ints, below, high)));
        }

-- points that are all at one number agree
at-one-number : (m : ℤ) (column : ℕ) (points : List Point) → list_all (is_at m column) points ≡ true → agree points column ≡ true
at-one-number m column [] all = refl
at-one-number m column (point ∷ points) all =
    let here : coordinate column point ≡ m = (Decides-int_eq (coordinate column point) m).0 (and_parts _ _ all).0 in
    ap (λ (z : ℤ). list_all (is_at z column) (point ∷ points)) here ∙ all

-- Points that don't agree stand on both sides of the floored mean.
pub record BothSides (column : ℕ) (points : List Point) : Type 0 where
  pub others : length (filter (other (is_above (floored_mean column points) column)) points) < length points
  pub above : length (filter (is_above (floored_mean column points) column) points) < length points

pub both-sides : (column : ℕ) (points : List Point) → agree points column ≡ false → BothSides column points
both-sides column [] apart = absurd (true≢false apart)
both-sides column (point ∷ points) apart =
    let all = point ∷ points in
    let m = floored_mean column all in
    let halves = length-halves (is_above m column) all in
    let some : 0 < length all = omega arith in
    let ends = div_euclid-parts (column_sum column all) (length all) some in
    let not_all_above : length (filter (other (is_above m column)) all) ≡ 0 → ⊥ = λ none. let high = all-above m column all none in omega (arith, high, ends.1) in
    let not_all_low : length (filter (is_above m column) all) ≡ 0 → ⊥ = λ none. let low = all-low m column all none in true≢false (sym (at-one-number m column all (low.same (omega (arith, ends.0)))) ∙ apart) in
    record {
      others = positive (length (filter (is_above m column) all)) (length (filter (other (is_above m column)) all)) (length all) not_all_low halves;
      above = positive (length (filter (other (is_above m column)) all)) (length (filter (is_above m column) all)) (length all) not_all_above (omega (arith, halves));
    }
  where
    positive : (a b n : ℕ) → (a ≡ 0 → ⊥) → b + a ≡ n → b < n
    positive zero b n some sum = absurd (some refl)
    positive (suc a) b n some sum = omega (arith, sum)
